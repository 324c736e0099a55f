use Rattle.lanes.proofs.wrong_ended_stands.Goals as goal
use Rattle.lanes.proofs.Wrong.{wrong-ended}

pub returns : goal.returns
returns c = wrong-ended
