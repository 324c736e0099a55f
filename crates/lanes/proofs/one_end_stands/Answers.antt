use Rattle.lanes.proofs.one_end_stands.Goals as goal
use Rattle.lanes.proofs.Orders.{one_end}

pub returns : goal.returns
returns c = one_end
