use Rattle.std.proofs.Common.{◌≡◌, ℕ, ◌&&◌, ltb, eqb, get_or}
use Rattle.masks.specs.Masks.{on}
use Rattle.masks.proofs.words.each_at.Given as goal

abbrev pub invariant-loop-i : goal.invariant-loop-i
invariant-loop-i l = (k : ℕ) → on l.mask k ≡ (ltb k l.i && eqb (get_or l.xs k 0) l.v)
