use Rattle.std.proofs.Common.{◌≡◌, ℕ, ◌<◌, ◌≤◌, get_or}
use Rattle.values.proofs.rows.each.Given as goal

abbrev pub invariant-loop-i : goal.invariant-loop-i
invariant-loop-i g l =
    ((k : ℕ) → k < l.i → goal.F-post g l.f (get_or l.initial.x k 0) (get_or l.y k 0) (get_or l.x k 0)) × ((k : ℕ) → l.i ≤ k → get_or l.x k 0 ≡ get_or l.initial.x k 0)
