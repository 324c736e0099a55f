-- Which cells are touched at all, and what becomes of a lane that would touch another.
use Rattle.std.specs.Prelude.{◌≡◌, ℕ, ◌<◌, true, List, length, slice_index_or}
use Rattle.lanes.specs.Syntax.{Program, ended}
use Rattle.lanes.specs.Step.{cells}
use Rattle.lanes.specs.Grid.{Grid, Turn, Mark, the_lane, turns, marked, begin}

-- What is known of the places of memory over a row of turns: each touch is of a cell that is there, and no place becomes longer or shorter.
pub record TouchesIn (n : ℕ) (d : Grid) (ts : List Turn) : Type 0 where
  pub there : (j : ℕ) (a : Mark) → j < length (marked n d ts) → slice_index_or (marked n d ts) j a ≡ a → a.touch.cell < length (cells d.memory a.touch.where_is)
  pub same_lengths : (w : ℕ) → length (cells (turns n d ts).memory w) ≡ length (cells d.memory w)

-- TOUCHES ARE THERE. From any grid, in any order.
unfoldable pub TouchesThere : Type 0
TouchesThere = (n : ℕ) (d : Grid) (ts : List Turn) → TouchesIn n d ts

-- A WRONG LANE HAS ENDED. From the beginning, in any order: a lane that has gone wrong does nothing more, and stays wrong whatever follows.
unfoldable pub WrongEnded : Type 0
WrongEnded =
    (p : Program) (groups n : ℕ) (all : List ℕ) (ts : List Turn) (g l : ℕ) → (the_lane (turns n (begin p groups n all) ts) g l).wrong ≡ true →
    (ended (the_lane (turns n (begin p groups n all) ts) g l).left ≡ true)
    × ((us : List Turn) → (the_lane (turns n (turns n (begin p groups n all) ts) us) g l).wrong ≡ true)
