-- How many lanes of a group wait at a barrier, and how many have ended.
use Rattle.std.specs.Prelude.{◌≡◌, ℕ, zero, suc, ◌+◌, ◌<◌, Bool, cond, ◌⊎◌, List}
use Rattle.lanes.specs.Syntax as body
use Rattle.lanes.specs.Syntax.{Body, at_barrier}
use Rattle.store.specs.declared.Sizes.{Sizes}
use Rattle.store.specs.Layout.{slots}
use Rattle.store.specs.Lent.{slot_of, line_at, waiting_of_spec, ended_of, grid_of, Lined}

-- How many of f 0, f 1, .. f (n - 1) are true.
unfoldable pub how_many : (ℕ → Bool) → ℕ → ℕ
how_many f zero = 0
how_many f (suc n) = how_many f n + cond (f n) 1 0

-- The two counts of group g are right.
pub record Counted (z : Sizes) (at : ℕ → Body) (ls : List ℕ) (g : ℕ) : Type 0 where
  pub waiting : waiting_of_spec z ls g ≡ how_many (λ l. at_barrier (at (line_at z ls g l))) z.lanes
  pub ended : ended_of z ls g ≡ how_many (λ l. body.ended (at (line_at z ls g l))) z.lanes

-- The two counts of group g are w and e, and all else but the slots of these counts is as it was, the grid too.
pub record Tallied (z : Sizes) (g w e : ℕ) (ls ls' : List ℕ) : Type 0 where
  pub waiting : waiting_of_spec z ls' g ≡ w
  pub ended : ended_of z ls' g ≡ e
  pub rest : (g' s l : ℕ) → s < slots z → l < z.lanes → (g' ≡ g → (s ≡ 4) ⊎ (s ≡ 5) → ⊥) → slot_of z ls' g' s l ≡ slot_of z ls g' s l
  pub lined : (lines : ℕ) → Lined z lines ls → Lined z lines ls'
  pub grid : (at : ℕ → Body) (cs : List ℕ) → grid_of z at ls' cs ≡ grid_of z at ls cs
