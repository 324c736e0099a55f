use Rattle.machine.specs.Masks.{RowSofar}
use Rattle.machine.proofs.exec.do_masked.Given as goal

abbrev pub invariant-loop-i : goal.invariant-loop-i
invariant-loop-i l =
    RowSofar l.z l.initial.lanes l.initial.cells l.initial.marks l.lanes l.cells l.marks l.row.group l.row.start l.row.mask l.work.stop l.work.todo l.xs l.ys l.i
