-- The stack of joins of a row, as it lies in slots of the row's own lanes.
--
-- A row is the lanes start .. start + 31 of a group, or as many of them as there are.
--   slot 6 of lane start: how many joins are on the stack
--   join k: lane start + k / 16, slots 16 + k % 16 (branch), 32 + k % 16 (line) and 48 + k % 16 (lanes)
-- So a row of w lanes has room for 16 * w joins.
use Rattle.std.specs.Prelude.{◌≡◌, ℕ, zero, suc, ◌+◌, ◌-◌, ◌*◌, ◌/◌, ◌%◌, ◌<◌, ◌≤◌, min, cond, List, [], ◌∷◌, length, ◌==◌, ◌≢◌}
use Rattle.lanes.specs.Syntax.{Body}
use Rattle.masks.specs.Masks.{lacking}
use Rattle.store.specs.declared.Sizes.{Sizes}
use Rattle.store.specs.Layout.{slots}
use Rattle.store.specs.Lent.{slot_of, line_at, phase_of_spec, grid_of, Lined}
use Rattle.joins.specs.declared.Join.{Join}

-- A row of the grid, by its group and its first lane.
pub record RowAt (z : Sizes) (g start : ℕ) : Type 0 where
  pub group : g < z.groups
  pub lane : start < z.lanes
  pub even : start % 32 ≡ 0

-- How many lanes the row has, of so many lanes.
unfoldable pub width_of : ℕ → ℕ → ℕ
width_of lanes start = min (lanes - start) 32

-- Join k of the row, counted from the oldest.
unfoldable pub join_at : Sizes → List ℕ → ℕ → ℕ → ℕ → Join
join_at z ls g start k = record {
  branch = slot_of z ls g (16 + k % 16) (start + k / 16);
  line = slot_of z ls g (32 + k % 16) (start + k / 16);
  lanes = slot_of z ls g (48 + k % 16) (start + k / 16);
}

-- How many joins are on the stack: as many as its word says, and no more than there is room for.
unfoldable pub depth_of : Sizes → List ℕ → ℕ → ℕ → ℕ
depth_of z ls g start = min (slot_of z ls g 6 start) (16 * width_of z.lanes start)

-- f (n - 1), .. f 1, f 0
unfoldable pub down_from : (ℕ → Join) → ℕ → List Join
down_from f zero = []
down_from f (suc n) = f n ∷ down_from f n

-- The stack of joins, the newest first.
unfoldable pub stack_of : Sizes → List ℕ → ℕ → ℕ → List Join
stack_of z ls g start = down_from (join_at z ls g start) (depth_of z ls g start)

-- A join that some lanes have gone on from.
abbrev pub lost : Join → ℕ → Join
lost j mask = record { branch = j.branch; line = j.line; lanes = lacking j.lanes mask }

-- The join on top of others, or they alone if it has no lanes.
unfoldable pub kept_on : Join → List Join → List Join
kept_on j js = cond (j.lanes == 0) js (j ∷ js)

-- The lanes of the mask go on from join k, counted from the oldest; if it has no more lanes, it is taken out.
unfoldable pub leaves : List Join → ℕ → ℕ → List Join
leaves [] k mask = []
leaves (j ∷ js) k mask = cond (length js == k) (kept_on (lost j mask) js) (j ∷ leaves js k mask)

-- At most the stack of one row has changed: all but slots 6 to 127 of its own lanes is as it was; so the grid is, and the other stacks.
pub record Stacked (z : Sizes) (g start : ℕ) (ls ls' : List ℕ) : Type 0 where
  pub rest : (g' s l : ℕ) → s < slots z → l < z.lanes → (g' ≡ g → 6 ≤ s → s < 128 → start ≤ l → l < start + 32 → ⊥) →
      slot_of z ls' g' s l ≡ slot_of z ls g' s l
  pub lines : (g' l : ℕ) → l < z.lanes → line_at z ls' g' l ≡ line_at z ls g' l
  pub phases : (g' : ℕ) → phase_of_spec z ls' g' ≡ phase_of_spec z ls g'
  pub lined : (lines : ℕ) → Lined z lines ls → Lined z lines ls'
  pub grid : (at : ℕ → Body) (cs : List ℕ) → grid_of z at ls' cs ≡ grid_of z at ls cs
  pub others : (g' start' : ℕ) → RowAt z g' start' → (g' ≡ g → start' ≢ start) → stack_of z ls' g' start' ≡ stack_of z ls g' start'
