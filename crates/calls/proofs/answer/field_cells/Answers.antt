use Rattle.calls.proofs.Answering.{field-part}
use Rattle.calls.proofs.answer.field_cells.Goals as goal

pub returns : goal.returns
returns c = rw (← c.z.view_is) (rw (← c.z.view_is) at (field-part c.args.z c.args.cells.now c.requires))
