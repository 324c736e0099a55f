use Rattle.machine.specs.Plans.{RowStood}
use Rattle.machine.proofs.row.stand_all.Given as goal

abbrev pub invariant-loop-i : goal.invariant-loop-i
invariant-loop-i l = RowStood l.z l.row.group l.row.start l.row.mask l.line l.i l.initial.lanes l.lanes
