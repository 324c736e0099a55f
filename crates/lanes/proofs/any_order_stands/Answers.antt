use Rattle.lanes.proofs.any_order_stands.Goals as goal
use Rattle.lanes.proofs.Orders.{any_order}

pub returns : goal.returns
returns c = any_order
