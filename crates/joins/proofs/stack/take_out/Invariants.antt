use Rattle.joins.proofs.Stackmoves.{MovedDown}
use Rattle.joins.proofs.stack.take_out.Given as goal

abbrev pub invariant-loop-i : goal.invariant-loop-i
invariant-loop-i l = MovedDown l.row.sizes l.row.group l.row.start l.k l.i l.initial.lanes l.lanes
