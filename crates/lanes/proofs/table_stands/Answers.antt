use Rattle.lanes.proofs.table_stands.Goals as goal
use Rattle.lanes.proofs.Rows.{table-stands}

pub returns : goal.returns
returns c = table-stands
