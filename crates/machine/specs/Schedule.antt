-- What a scheduler names, and that it can be done.
use Rattle.std.specs.Prelude.{◌≡◌, ℕ, ◌+◌, ◌<◌, true, false, ◌⊎◌, List, [], ◌∷◌, Some, None, Option}
use Rattle.std.specs.Bool.{then_some}
use Rattle.lanes.specs.Syntax.{Body}
use Rattle.lanes.specs.Grid.{Grid, Turn, of, release, can, turns}
use Rattle.lanes.specs.Promise.{Still}
use Rattle.store.specs.declared.Sizes.{Sizes}
use Rattle.store.specs.Lent.{line_at, grid_of}
use Rattle.machine.specs.declared.schedule.Choice.{Choice}
use Rattle.machine.specs.declared.schedule.Choice.TheVariants.{Row, GoOn}
use Rattle.machine.specs.declared.inturn.InTurn.{InTurn}
use Rattle.machine.specs.declared.script.Written.{Written}
use Rattle.machine.specs.declared.script.Written.TheVariants.{Of, Release}
use Rattle.masks.specs.Masks.{on}
use Rattle.machine.specs.Line.{row_turns}

-- The turns that are named: those of the lanes in a mask, lowest first, or that a group goes on.
abbrev pub turns_of : Choice → List Turn
turns_of (Row g start mask) = row_turns g start mask 32
turns_of (GoOn g) = release g ∷ []

-- The lanes in the mask are there, at least one, stand at one line, and each can step.
pub record RowCan (z : Sizes) (at : ℕ → Body) (ls cs : List ℕ) (g start mask : ℕ) : Type 0 where
  pub group : g < z.groups
  pub start_there : start < z.lanes
  pub there : (i : ℕ) → i < 32 → on mask i ≡ true → start + i < z.lanes
  pub lowest : ℕ
  pub lowest_few : lowest < 32
  pub lowest_on : on mask lowest ≡ true
  pub one_line : (i : ℕ) → i < 32 → on mask i ≡ true → line_at z ls g (start + i) ≡ line_at z ls g (start + lowest)
  pub can_step : (i : ℕ) → i < 32 → on mask i ≡ true → can z.lanes (grid_of z at ls cs) (of g (start + i)) ≡ true

-- What is named can be done.
abbrev pub CanDo : Sizes → (ℕ → Body) → List ℕ → List ℕ → Choice → Type 0
CanDo z at ls cs (Row g start mask) = RowCan z at ls cs g start mask
CanDo z at ls cs (GoOn g) = can z.lanes (grid_of z at ls cs) (release g) ≡ true

-- A scheduler's answer: nothing, and then no turn can be done; or what can be done, and after it the scheduler, which is s then, still
-- knows what it has to know of the grid.
abbrev pub Says : {S : Type 0} → (S → ℕ → Grid → Type 0) → S → Sizes → (ℕ → Body) → List ℕ → List ℕ → Option Choice → Type 0
Says knows s z at ls cs None = Still z.lanes (grid_of z at ls cs)
Says knows s z at ls cs (Some c) = CanDo z at ls cs c × knows s z.lanes (turns z.lanes (grid_of z at ls cs) (turns_of c))

-- The turn comes before lane l of group g, if groups come one after the other, and in a group lane after lane, and then that it goes on.
abbrev pub Before : Turn → ℕ → ℕ → Type 0
Before (of h k) g l = (h < g) ⊎ ((h ≡ g) × (k < l))
Before (release h) g l = h < g

-- No turn before lane l of group g can be done.
unfoldable pub Passed : ℕ → Grid → ℕ → ℕ → Type 0
Passed n d g l = (t : Turn) → Before t g l → can n d t ≡ false

-- What is found from lane l of group g on, where nothing before can be done: a lane that can step, or a group that can go on, with
-- nothing before it that can be done; or nothing can be done at all.
abbrev pub Picked : Sizes → (ℕ → Body) → List ℕ → List ℕ → Option Choice → Type 0
Picked z at ls cs None = Still z.lanes (grid_of z at ls cs)
Picked z at ls cs (Some (Row g l mask)) =
    (mask ≡ 1) × (g < z.groups) × (l < z.lanes) × (can z.lanes (grid_of z at ls cs) (of g l) ≡ true) × Passed z.lanes (grid_of z at ls cs) g l
Picked z at ls cs (Some (GoOn g)) = (g < z.groups) × (can z.lanes (grid_of z at ls cs) (release g) ≡ true) × Passed z.lanes (grid_of z at ls cs) g 0

-- Where one lane after the other goes on from what was found.
abbrev pub come_to : Choice → InTurn
come_to (Row g l mask) = record { group = g; lane = l }
come_to (GoOn g) = record { group = g; lane = 0 }

-- What a written turn names, if it can be done: that one lane of the group steps, or that the group goes on.
abbrev pub named : ℕ → Grid → Written → Option Choice
named n d (Of g l) = then_some (can n d (of g l)) (Row g l 1)
named n d (Release g) = then_some (can n d (release g)) (GoOn g)
