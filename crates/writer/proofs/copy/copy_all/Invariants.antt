use Rattle.std.proofs.Common.{◌≡◌, ℕ, ◌+◌, ◌≤◌, ◌++◌, length, get_or, take}
use Rattle.writer.specs.Copy.{copied, copy}
use Rattle.writer.proofs.copy.copy_all.Given as goal

abbrev pub invariant-loop-b : goal.invariant-loop-b
invariant-loop-b l =
    (take l.at.len l.out ++ copied l.at.left l.at.inside l.rest ≡ copy l.text)
    × (l.at.len + length l.rest ≤ length l.text)
    × ((k : ℕ) → l.at.len ≤ k → get_or l.out k 0 ≡ get_or l.initial.out k 0)

abbrev pub decreases-loop-b : goal.decreases-loop-b
decreases-loop-b l = length l.rest
