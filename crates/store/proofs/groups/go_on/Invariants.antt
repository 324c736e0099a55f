use Rattle.store.specs.Acts.{Further}
use Rattle.store.proofs.groups.go_on.Given as goal

abbrev pub invariant-loop-l : goal.invariant-loop-l
invariant-loop-l l = Further l.z l.g l.l l.initial.lanes l.lanes
