-- What is promised of the definitions. Each promise is a statement; the functions of src/lib.rt have them as their contracts.
use Rattle.std.specs.Prelude.{◌≡◌, ℕ, ◌≤◌, true, false, cond, ◌&&◌, ◌≢◌, ◌⊎◌, List, [], ◌∷◌, ◌++◌, ◌==◌}
use Rattle.lanes.specs.Syntax.{Program}
use Rattle.lanes.specs.Grid.{Grid, Turn, of, release, Mark, turns, marked, steps, can, all_ended, begin}
use Rattle.lanes.specs.Race.{race, Races}
use Rattle.lanes.specs.Told.{Fits, Told, cells, NoneWrong, Shows, Right}

-- Nothing can go on: no turn can be done. All lanes have ended, or those that haven't wait for one that has.
unfoldable pub Still : ℕ → Grid → Type 0
Still n d = (t : Turn) → can n d t ≡ false

-- What is known of any row of turns us, once ts has come to where nothing can go on, without a race: us has no race; it is a part of
-- a row that comes to the same whole grid; it has no more steps; and if nothing can go on after it either, it has come to that grid in as many steps.
pub record SameEnd (n : ℕ) (d : Grid) (ts us : List Turn) : Type 0 where
  pub no_race : Races (marked n d us) → ⊥
  pub rest : List Turn
  pub goes_on : turns n d (us ++ rest) ≡ turns n d ts
  pub no_more : steps n d us ≤ steps n d ts
  pub arrives : Still n (turns n d us) → (turns n d us ≡ turns n d ts) × (steps n d us ≡ steps n d ts)

-- ONE END. From any grid: cells, own numbers, wrong lanes, phases and steps at the end don't depend on the order.
unfoldable pub OneEnd : Type 0
OneEnd = (n : ℕ) (d : Grid) (ts us : List Turn) → Still n (turns n d ts) → (Races (marked n d ts) → ⊥) → SameEnd n d ts us

-- What is known of any row of turns us from the beginning, once ts has come to the end without a race: us has no race; it is a part of
-- a row that comes to the end; and if it has come to the end, it leaves the field that ts leaves.
pub record SameField (n : ℕ) (d : Grid) (ts us : List Turn) : Type 0 where
  pub no_race : Races (marked n d us) → ⊥
  pub rest : List Turn
  pub goes_on : all_ended (turns n d (us ++ rest)).groups_of ≡ true
  pub field : all_ended (turns n d us).groups_of ≡ true → (turns n d us).memory.all ≡ (turns n d ts).memory.all

-- ANY ORDER. If one row of turns to the end has no race, none has, every row is a part of one to the end, and all that come to the end leave the same field.
unfoldable pub AnyOrder : Type 0
AnyOrder =
    (p : Program) (groups n : ℕ) (all : List ℕ) (ts us : List Turn) → Fits p groups n all →
    all_ended (turns n (begin p groups n all) ts).groups_of ≡ true → (Races (marked n (begin p groups n all) ts) → ⊥) →
    SameField n (begin p groups n all) ts us

-- The marks of lane l of group g among some marks, in their order.
unfoldable pub marks_of : ℕ → ℕ → List Mark → List Mark
marks_of g l [] = []
marks_of g l (a ∷ ms) = cond (a.by_group == g && a.by_lane == l) (a ∷ marks_of g l ms) (marks_of g l ms)

-- What is known of the touches of any row of turns us, once ts has come to where nothing can go on, without a race. Each lane has done
-- a first part of what it touches in ts, in the same order and with the same phases; and all of it, if nothing can go on after us.
pub record SameTouches (n : ℕ) (d : Grid) (ts us : List Turn) : Type 0 where
  pub later : List Mark
  pub begun : (g l : ℕ) → marks_of g l (marked n d ts) ≡ marks_of g l (marked n d us) ++ marks_of g l later
  pub done : Still n (turns n d us) → (g l : ℕ) → marks_of g l (marked n d us) ≡ marks_of g l (marked n d ts)

-- PHASES. What each lane touches, in which order and in which phases of its group, doesn't depend on the order of the turns.
unfoldable pub Phases : Type 0
Phases = (n : ℕ) (d : Grid) (ts us : List Turn) → Still n (turns n d ts) → (Races (marked n d ts) → ⊥) → SameTouches n d ts us

-- Turns of different lanes: steps of two lanes, or of two groups where one turn or both are that a group goes on.
unfoldable pub Apart : Turn → Turn → Type 0
Apart (of g l) (of h k) = g ≡ h → l ≢ k
Apart (of g l) (release h) = g ≢ h
Apart (release g) (of h k) = g ≢ h
Apart (release g) (release h) = g ≢ h

-- x and u may be exchanged, whatever comes behind them: the grid is the same, and in either order their touches are those that each
-- would have alone, and so are their steps.
pub record Exchanged (n : ℕ) (d : Grid) (x u : Turn) : Type 0 where
  pub same_grid : (ts : List Turn) → turns n d (x ∷ u ∷ ts) ≡ turns n d (u ∷ x ∷ ts)
  pub touches : marked n d (x ∷ u ∷ []) ≡ marked n d (x ∷ []) ++ marked n d (u ∷ [])
  pub touches_exchanged : marked n d (u ∷ x ∷ []) ≡ marked n d (u ∷ []) ++ marked n d (x ∷ [])
  pub same_steps : steps n d (x ∷ u ∷ []) ≡ steps n d (u ∷ x ∷ [])

-- EXCHANGE. Two turns of different lanes, one behind the other, that don't race may be exchanged, from any grid.
unfoldable pub Exchange : Type 0
Exchange = (n : ℕ) (d : Grid) (x u : Turn) → Apart x u → (Races (marked n d (x ∷ u ∷ [])) → ⊥) → Exchanged n d x u

-- Two touches of different lanes of one group, in one phase.
pub record Beside (a b : Mark) : Type 0 where
  pub one_group : a.by_group ≡ b.by_group
  pub one_phase : a.phase ≡ b.phase
  pub two_lanes : a.by_lane ≢ b.by_lane

-- What a race is, in words: the two touches are of one cell of one place, one of them writes, and they are of different groups,
-- or of different lanes of one group in one phase.
pub record Racing (a b : Mark) : Type 0 where
  pub one_place : a.touch.where_is ≡ b.touch.where_is
  pub one_cell : a.touch.cell ≡ b.touch.cell
  pub one_writes : (a.touch.wrote ≡ true) ⊎ (b.touch.wrote ≡ true)
  pub not_parted : (a.by_group ≢ b.by_group) ⊎ Beside a b

pub record Raced (a b : Mark) : Type 0 where
  pub only_then : race a b ≡ true → Racing a b
  pub then_always : Racing a b → race a b ≡ true
  pub either_way : race a b ≡ race b a
  pub not_itself : race a a ≡ false

-- WHAT A RACE IS. Two touches race exactly if they are so; whichever is named first; and no touch races with itself.
unfoldable pub WhatRaces : Type 0
WhatRaces = (a b : Mark) → Raced a b

-- What is known of any row of turns us from the grid d, once ts has shown a field: us has no race, comes to no wrong lane, has no more
-- steps than ts, and so than were granted; and all that it can show is that field: no race, no wrong lane, no stuck group, not too long.
pub record InOrder (most n : ℕ) (d : Grid) (cs : List ℕ) (ts us : List Turn) : Type 0 where
  pub no_race : Races (marked n d us) → ⊥
  pub none_wrong : NoneWrong (turns n d us)
  pub no_more : steps n d us ≤ steps n d ts
  pub granted : steps n d us ≤ most
  pub only_field : (told : Told) → Shows most n d us told → told ≡ cells cs

-- NEVER AN ACCUSATION. If one row of turns shows the field of a program in bounds, no row of turns shows anything else.
unfoldable pub NeverAccused : Type 0
NeverAccused =
    (most : ℕ) (p : Program) (groups n : ℕ) (all cs : List ℕ) (ts us : List Turn) → Fits p groups n all →
    Shows most n (begin p groups n all) ts (cells cs) → InOrder most n (begin p groups n all) cs ts us

-- ONE VERDICT. The same, of what is told: where a field may be told, nothing else may.
unfoldable pub OneVerdict : Type 0
OneVerdict =
    (most : ℕ) (p : Program) (groups n : ℕ) (all cs : List ℕ) (told : Told) → Fits p groups n all →
    Right most p groups n all (cells cs) → Right most p groups n all told → told ≡ cells cs
