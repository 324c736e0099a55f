use Rattle.formats.proofs.Fault.{first-fault}
use Rattle.formats.proofs.field.first_fault_stands.Goals as goal

pub returns : goal.returns
returns c = first-fault
