use Rattle.formats.specs.Printed.{stuck_line}
use Rattle.formats.proofs.Pieces.{writes_more}
use Rattle.formats.proofs.print.put_stuck.Goals as goal

pub returns : goal.returns
unfolding stuck_line
returns c = writes_more _ _ _ _ _ c.put_number.ensures.wrote c.put.ensures
