use Rattle.std.proofs.Common.{refl, arith, length-set}
use Rattle.formats.proofs.Pieces.{wrote_one}
use Rattle.formats.proofs.pen.Pen.put.Goals as goal

pub returns : goal.returns
returns c = record { same_slice = refl; room = length-set _ _ _; inside = simp length-set (omega arith); wrote = wrote_one _ _ _ (omega arith) }
