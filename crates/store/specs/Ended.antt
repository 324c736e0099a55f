-- What lies in the memory of lanes that have ended does not matter.
use Rattle.std.specs.Prelude.{◌≡◌, ℕ, ◌+◌, ◌<◌, true, cond, List, [], map, ◌≢◌}
use Rattle.lanes.specs.Syntax.{Body, ended}
use Rattle.lanes.specs.Step.{Lane}
use Rattle.lanes.specs.Grid.{Group, Grid, Turn, can, turns, marked, steps}
use Rattle.lanes.specs.Told.{Told, Shows}
use Rattle.store.specs.declared.Sizes.{Sizes}
use Rattle.store.specs.Lent.{slot_of, line_at, phase_of_spec, grid_of}

-- A lane, a group, a grid without the own numbers of lanes that have ended.
abbrev pub forget_lane : Lane → Lane
forget_lane x = record { own = cond (ended x.left) [] x.own; left = x.left; wrong = x.wrong }

abbrev pub forget_group : Group → Group
forget_group q = record { lanes_of = map forget_lane q.lanes_of; phase = q.phase }

abbrev pub forget : Grid → Grid
forget d = record { groups_of = map forget_group d.groups_of; memory = d.memory }

-- Two slices of lanes that differ at most in the own numbers of lanes that have ended, and in what the grid does not depend on.
pub record Alike (z : Sizes) (at : ℕ → Body) (ls ls' : List ℕ) : Type 0 where
  pub lines : (g l : ℕ) → g < z.groups → l < z.lanes → line_at z ls' g l ≡ line_at z ls g l
  pub wrongs : (g l : ℕ) → g < z.groups → l < z.lanes → slot_of z ls' g 1 l ≡ slot_of z ls g 1 l
  pub phases : (g : ℕ) → g < z.groups → phase_of_spec z ls' g ≡ phase_of_spec z ls g
  pub owns : (g k l : ℕ) → g < z.groups → k < z.owns → l < z.lanes → (ended (at (line_at z ls g l)) ≢ true) →
      slot_of z ls' g (128 + k) l ≡ slot_of z ls g (128 + k) l

-- Then every row of turns has the same touches, as many steps, and leaves the same grid but for own numbers of lanes that have ended:
-- the same cells, lines, phases and wrong lanes; the same turns can be done after it; and it shows the same to be told.
pub record DoesSame (z : Sizes) (at : ℕ → Body) (ls ls' cs : List ℕ) (ts : List Turn) : Type 0 where
  pub marks : marked z.lanes (grid_of z at ls' cs) ts ≡ marked z.lanes (grid_of z at ls cs) ts
  pub steps : steps z.lanes (grid_of z at ls' cs) ts ≡ steps z.lanes (grid_of z at ls cs) ts
  pub grid : forget (turns z.lanes (grid_of z at ls' cs) ts) ≡ forget (turns z.lanes (grid_of z at ls cs) ts)
  pub can : (t : Turn) → can z.lanes (turns z.lanes (grid_of z at ls' cs) ts) t ≡ can z.lanes (turns z.lanes (grid_of z at ls cs) ts) t
  pub shows : (most : ℕ) (told : Told) → Shows most z.lanes (grid_of z at ls cs) ts told → Shows most z.lanes (grid_of z at ls' cs) ts told

unfoldable pub EndedFree : Type 0
EndedFree = (z : Sizes) (at : ℕ → Body) (ls ls' cs : List ℕ) (ts : List Turn) → Alike z at ls ls' → DoesSame z at ls ls' cs ts
