-- The machine in the midst of its own row of turns, and what came of the turn that it did last.
use Rattle.std.specs.Prelude.{◌≡◌, ℕ, ◌+◌, ◌*◌, ◌<◌, ◌≤◌, cond, ◌&&◌, ◌||◌, List, length, ◌==◌, nat_le, nat_lt, Result, Ok, Err}
use Rattle.lanes.specs.Syntax.{Body}
use Rattle.lanes.specs.Grid.{Grid, Turn, Mark, turns, marked}
use Rattle.lanes.specs.Race.{Races}
use Rattle.lanes.specs.Told.{NoneWrong, Shows, races, missing}
use Rattle.store.specs.declared.Sizes.{Sizes}
use Rattle.store.specs.declared.Whereabouts.{Whereabouts}
use Rattle.store.specs.declared.Deed.{Deed}
use Rattle.store.specs.Layout.{Sized, base, size, cells_room, numbered}
use Rattle.store.specs.Lent.{grid_of, phase_of_spec}
use Rattle.store.specs.Acts.{Placed, Turned}
use Rattle.touches.specs.declared.Who.{Who}
use Rattle.touches.specs.declared.Found.{Found}
use Rattle.touches.specs.Kept.{mark_of}
use Rattle.touches.specs.Whole.{Layout, AllKept}
use Rattle.machine.specs.declared.outcome.Race.{Race}
use Rattle.machine.specs.declared.outcome.Stopped.{Stopped}
use Rattle.machine.specs.declared.outcome.Stopped.TheVariants.{Raced, Wrong}

-- The words of each cell's touches lie as the cells do.
unfoldable pub layout : Sizes → Layout
layout z = record { size = λ w. cond (nat_le w z.groups) (size z w) 0; spot = λ w c. base z w + c; many = cells_room z }

-- The lent slices stand for the grid that the row of turns ts has come to from d; its touches are kept; it has no race, and no lane of
-- it has gone wrong. `at` is what is left to do at each line.
pub record Sofar (z : Sizes) (at : ℕ → Body) (d : Grid) (ts : List Turn) (ls cs ks : List ℕ) : Type 0 where
  pub grid : grid_of z at ls cs ≡ turns z.lanes d ts
  pub kept : AllKept (layout z) (marked z.lanes d ts) ks
  pub no_race : Races (marked z.lanes d ts) → ⊥
  pub none_wrong : NoneWrong (turns z.lanes d ts)

-- The marks of the two touches of a race.
abbrev pub first_mark : Race → Mark
first_mark r = mark_of (numbered r.place) r.cell r.first.who r.first.wrote

abbrev pub second_mark : Race → Mark
second_mark r = mark_of (numbered r.place) r.cell r.second.who r.second.wrote

-- What came of a turn or of turns: all is well, or the last of them is told.
abbrev pub Outcome : Type 0
Outcome = Result (Unit {0}) Stopped

-- After the row of turns us: all is well so far, or us shows the race or the wrong lane that is named.
abbrev pub After : Sizes → (ℕ → Body) → Grid → List Turn → List ℕ → List ℕ → List ℕ → Outcome → Type 0
After z at d us ls cs ks (Ok u) = Sofar z at d us ls cs ks
After z at d us ls cs ks (Err (Raced r)) = (most : ℕ) → Shows most z.lanes d us (races (first_mark r) (second_mark r))
After z at d us ls cs ks (Err (Wrong g l i)) = (most : ℕ) → Shows most z.lanes d us (missing g l)

-- The lane that is named as wrong is lane l of group g.
abbrev pub Names : ℕ → ℕ → Outcome → Type 0
Names g l (Ok u) = Unit {0}
Names g l (Err (Raced r)) = Unit {0}
Names g l (Err (Wrong h k i)) = (h ≡ g) × (k ≡ l)

-- Lane l of group g did its turn, in phase p of the group, from where the machine was with ts; its touch has not been looked at yet.
pub record Doing (z : Sizes) (at : ℕ → Body) (d : Grid) (ts : List Turn) (ls cs ks ls' cs' : List ℕ) (g l p : ℕ) (deed : Deed) : Type 0 where
  pub sized : Sized z
  pub group : g < z.groups
  pub lane : l < z.lanes
  pub phase : p ≡ phase_of_spec z ls g
  pub room : 6 * cells_room z ≤ length ks
  pub sofar : Sofar z at d ts ls cs ks
  pub placed : Placed z deed
  pub turned : Turned z at ls cs ls' cs' g l deed

-- Who it is.
pub record IsWho (a : Who) (g l p i : ℕ) : Type 0 where
  pub group : a.group ≡ g
  pub lane : a.lane ≡ l
  pub phase : a.phase ≡ p
  pub line : a.line ≡ i

-- The two touches in the order in which they are told.
abbrev pub paired_of : Whereabouts → ℕ → Found → Found → Race
paired_of w c a b =
    cond (nat_lt a.who.group b.who.group || (a.who.group == b.who.group && nat_lt a.who.lane b.who.lane))
    (record { place = w; cell = c; first = a; second = b }) (record { place = w; cell = c; first = b; second = a })
