use Rattle.lanes.proofs.what_races_stands.Goals as goal
use Rattle.lanes.proofs.Races.{what-races}

pub returns : goal.returns
returns c = what-races
