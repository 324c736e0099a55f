-- One join of a row put, or how many there are; nothing else of the row's stack has changed, nor any other.
use Rattle.std.specs.Prelude.{◌≡◌, ℕ, ◌*◌, ◌<◌, List, ◌≢◌}
use Rattle.store.specs.declared.Sizes.{Sizes}
use Rattle.joins.specs.declared.Join.{Join}
use Rattle.joins.specs.Stack.{width_of, join_at, depth_of, Stacked}

-- n joins are on the stack, each as it lay there.
pub record Deep (z : Sizes) (g start n : ℕ) (ls ls' : List ℕ) : Type 0 where
  pub frame : Stacked z g start ls ls'
  pub depth : depth_of z ls' g start ≡ n
  pub same : (k : ℕ) → k < 16 * width_of z.lanes start → join_at z ls' g start k ≡ join_at z ls g start k

-- Join k is j, and the others are as they were.
pub record JoinPut (z : Sizes) (g start k : ℕ) (j : Join) (ls ls' : List ℕ) : Type 0 where
  pub frame : Stacked z g start ls ls'
  pub depth : depth_of z ls' g start ≡ depth_of z ls g start
  pub here : join_at z ls' g start k ≡ j
  pub same : (i : ℕ) → i < 16 * width_of z.lanes start → (i ≢ k) → join_at z ls' g start i ≡ join_at z ls g start i
