use Rattle.lanes.proofs.phases_stands.Goals as goal
use Rattle.lanes.proofs.Orders.{phases}

pub returns : goal.returns
returns c = phases
