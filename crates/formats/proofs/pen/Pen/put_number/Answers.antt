use Rattle.std.proofs.Common.{arith}
use Rattle.formats.proofs.Pieces.{writes_more}
use Rattle.formats.proofs.pen.Pen.put_number.Goals as goal

pub returns : goal.returns
returns c = record { wrote = writes_more _ _ _ _ _ c.put_all.ensures c.put_decimal.ensures.wrote; few = omega arith }
