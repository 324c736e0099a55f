-- The grid that the lent slices stand for. What is left to do at a line is any function here, so that nothing is said of how a program
-- is kept.
use Rattle.std.specs.Prelude.{◌≡◌, ℕ, suc, ◌+◌, ◌*◌, ◌<◌, ◌≤◌, ◌⊎◌, List, map, length, ◌==◌, ◌≢◌, slice_index}
use Rattle.std.specs.List.{range_with_len}
use Rattle.lanes.specs.Syntax.{Body, Program}
use Rattle.lanes.specs.Step.{Lane, Memory}
use Rattle.lanes.specs.Grid.{Group, Grid, begin}
use Rattle.store.specs.declared.Sizes.{Sizes}
use Rattle.store.specs.Layout.{Sized, slots, place_of, room, base, cells_room}

-- f 0, f 1, .. f (n - 1)
unfoldable pub upto : {A : Type 0} → (ℕ → A) → ℕ → List A
upto f n = map f (range_with_len 0 n)

-- What stands in a slot of a lane.
unfoldable pub slot_of : Sizes → List ℕ → ℕ → ℕ → ℕ → ℕ
slot_of z ls g s l = slice_index ls (place_of z g s l)

-- The line at which lane l of group g stands.
unfoldable pub line_at : Sizes → List ℕ → ℕ → ℕ → ℕ
line_at z ls g l = slot_of z ls g 0 l

-- Its own numbers.
unfoldable pub own_of : Sizes → List ℕ → ℕ → ℕ → List ℕ
own_of z ls g l = upto (λ k. slot_of z ls g (128 + k) l) z.owns

-- The lane.
unfoldable pub lane_at : Sizes → (ℕ → Body) → List ℕ → ℕ → ℕ → Lane
lane_at z at ls g l = record { own = own_of z ls g l; left = at (line_at z ls g l); wrong = (slot_of z ls g 1 l == 1) }

-- The phase of a group: two words, the low one first.
unfoldable pub phase_of_spec : Sizes → List ℕ → ℕ → ℕ
phase_of_spec z ls g = slot_of z ls g 2 0 + 4294967296 * slot_of z ls g 3 0

-- How many of its lanes are counted as waiting, and as ended. The grid does not depend on it; whether it is right is said in Counts.antt.
abbrev pub waiting_of_spec : Sizes → List ℕ → ℕ → ℕ
waiting_of_spec z ls g = slot_of z ls g 4 0

abbrev pub ended_of : Sizes → List ℕ → ℕ → ℕ
ended_of z ls g = slot_of z ls g 5 0

unfoldable pub group_at : Sizes → (ℕ → Body) → List ℕ → ℕ → Group
group_at z at ls g = record { lanes_of = upto (lane_at z at ls g) z.lanes; phase = phase_of_spec z ls g }

-- The cells of the field and of each group.
unfoldable pub field_of : Sizes → List ℕ → List ℕ
field_of z cs = upto (λ c. slice_index cs (base z 0 + c)) z.field

unfoldable pub memory_of : Sizes → List ℕ → Memory
memory_of z cs = record { all = field_of z cs; groups = upto (λ g. upto (λ c. slice_index cs (base z (suc g) + c)) z.shared) z.groups }

unfoldable pub grid_of : Sizes → (ℕ → Body) → List ℕ → List ℕ → Grid
grid_of z at ls cs = record { groups_of = upto (group_at z at ls) z.groups; memory = memory_of z cs }

-- The lent slices are long enough.
pub record Lent (z : Sizes) (ls cs : List ℕ) : Type 0 where
  pub sized : Sized z
  pub lanes_fit : room z ≤ length ls
  pub cells_fit : cells_room z ≤ length cs

-- Every line at which a lane stands is below `lines`.
unfoldable pub Lined : Sizes → ℕ → List ℕ → Type 0
Lined z lines ls = (g l : ℕ) → g < z.groups → l < z.lanes → line_at z ls g l < lines

-- Only what is lane l's of group g may have changed: its line, whether it went wrong, its own numbers.
pub record Only (z : Sizes) (g l : ℕ) (ls ls' : List ℕ) : Type 0 where
  pub others : (g' s l' : ℕ) → s < slots z → l' < z.lanes → (g' ≡ g → l' ≢ l) → slot_of z ls' g' s l' ≡ slot_of z ls g' s l'
  pub words : (g' s l' : ℕ) → 2 ≤ s → s < 128 → l' < z.lanes → slot_of z ls' g' s l' ≡ slot_of z ls g' s l'

-- Lane l of group g stands at `line`, and all else is as it was; so the grid is, if as much is left there as was where it stood.
pub record Settled (z : Sizes) (g l line : ℕ) (ls ls' : List ℕ) : Type 0 where
  pub only : Only z g l ls ls'
  pub here : line_at z ls' g l ≡ line
  pub same : (s : ℕ) → 1 ≤ s → s < slots z → slot_of z ls' g s l ≡ slot_of z ls g s l
  pub lined : (lines : ℕ) → line < lines → Lined z lines ls → Lined z lines ls'
  pub grid : (at : ℕ → Body) (cs : List ℕ) → at line ≡ at (line_at z ls g l) → grid_of z at ls' cs ≡ grid_of z at ls cs

-- A word that the grid does not depend on is v, and all else is as it was, the grid too.
pub record Aside (z : Sizes) (g s l v : ℕ) (ls ls' : List ℕ) : Type 0 where
  pub here : slot_of z ls' g s l ≡ v
  pub rest : (g' s' l' : ℕ) → s' < slots z → l' < z.lanes → (g' ≡ g → s' ≡ s → l' ≢ l) → slot_of z ls' g' s' l' ≡ slot_of z ls g' s' l'
  pub lined : (lines : ℕ) → Lined z lines ls → Lined z lines ls'
  pub grid : (at : ℕ → Body) (cs : List ℕ) → grid_of z at ls' cs ≡ grid_of z at ls cs

-- The phase of group g is one more, and all else is as it was.
pub record Raised (z : Sizes) (g : ℕ) (ls ls' : List ℕ) : Type 0 where
  pub phase : phase_of_spec z ls' g ≡ phase_of_spec z ls g + 1
  pub rest : (g' s l : ℕ) → s < slots z → l < z.lanes → (g' ≡ g → (s ≡ 2) ⊎ (s ≡ 3) → ⊥) → slot_of z ls' g' s l ≡ slot_of z ls g' s l

-- The slices stand for the beginning of a program: with what is left at line 0 its body, and as many own numbers and cells of a group
-- as it has.
unfoldable pub Begun : Sizes → List ℕ → List ℕ → List ℕ → Type 0
Begun z ls cs field =
    (at : ℕ → Body) (p : Program) → at 0 ≡ p.body → p.owns ≡ z.owns → p.shared ≡ z.shared →
    grid_of z at ls cs ≡ begin p z.groups z.lanes field

-- The start, whatever the lanes and the cells of groups held: each word of a lane and of a group and each cell of a group is 0, and the
-- field is as lent. So the slices stand for the beginning.
pub record Started (z : Sizes) (ls cs ls' cs' : List ℕ) : Type 0 where
  pub words : (g s l : ℕ) → g < z.groups → s < slots z → l < z.lanes → slot_of z ls' g s l ≡ 0
  pub field : field_of z cs' ≡ field_of z cs
  pub phases : (g : ℕ) → g < z.groups → phase_of_spec z ls' g ≡ 0
  pub lined : (lines : ℕ) → 0 < lines → Lined z lines ls'
  pub begun : Begun z ls' cs' (field_of z cs)
