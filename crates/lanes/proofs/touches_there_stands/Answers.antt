use Rattle.lanes.proofs.touches_there_stands.Goals as goal
use Rattle.lanes.proofs.There.{touches-there}

pub returns : goal.returns
returns c = touches-there
