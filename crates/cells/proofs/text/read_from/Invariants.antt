use Rattle.std.proofs.Common.{vec_items}
use Rattle.cells.proofs.Ahead.{Stands}
use Rattle.cells.proofs.text.read_from.Given as goal

abbrev pub invariant-loop-k : goal.invariant-loop-k
invariant-loop-k l = Stands l.base l.rest l.from l.k l.part (vec_items l.cells)
