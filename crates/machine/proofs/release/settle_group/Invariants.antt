use Rattle.machine.specs.Moves.{GroupSettled}
use Rattle.machine.proofs.release.settle_group.Given as goal

abbrev pub invariant-loop-l : goal.invariant-loop-l
invariant-loop-l v = GroupSettled v.z v.steps v.lines v.g v.l v.initial.lanes v.lanes
