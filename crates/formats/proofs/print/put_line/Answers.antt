use Rattle.formats.proofs.Pieces.{writes_more}
use Rattle.formats.proofs.print.put_line.Goals as goal

pub returns : goal.returns
returns c = writes_more _ _ _ _ _ c.put_number.ensures.wrote (writes_more _ _ _ _ _ c.put_number-2.ensures.wrote c.put.ensures)
