use Rattle.std.proofs.Common.{◌≡◌, ◌+◌, ◌-◌, ◌≤◌, length, vec_items, vec_len}
use Rattle.machine.specs.Script.{TurnsHere}
use Rattle.machine.proofs.script.read_turns.Given as goal

abbrev pub invariant-loop-at : goal.invariant-loop-at
invariant-loop-at l = (l.at ≤ length l.bytes) × (vec_len l.turns ≤ l.at) × TurnsHere l.bytes 0 (vec_items l.turns) l.at

abbrev pub decreases-loop-at : goal.decreases-loop-at
decreases-loop-at l = length l.bytes - l.at
