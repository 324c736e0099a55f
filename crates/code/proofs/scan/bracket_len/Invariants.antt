use Rattle.std.proofs.Common.{◌≡◌, ◌+◌, ◌≤◌, drop}
use Rattle.code.specs.Scan.{closing}
use Rattle.code.proofs.scan.bracket_len.Given as goal

abbrev pub invariant-loop-i : goal.invariant-loop-i
invariant-loop-i l = (l.i + closing l.depth (drop l.i l.text) ≡ closing 0 l.text) × (l.depth ≤ l.i)
