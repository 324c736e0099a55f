use Rattle.formats.specs.Printed.{wrong_line}
use Rattle.formats.proofs.Pieces.{writes_more}
use Rattle.formats.proofs.print.put_told.Goals as goal

pub returns-in-Field : goal.returns-in-Field
returns-in-Field c = rw c.in-Field.is (writes_more _ _ _ _ _ c.put_all.ensures c.put_cells.ensures)

pub returns-in-Wrong : goal.returns-in-Wrong
unfolding wrong_line
returns-in-Wrong c = rw c.in-Wrong.is c.put_line.ensures
