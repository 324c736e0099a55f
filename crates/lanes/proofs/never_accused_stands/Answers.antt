use Rattle.lanes.proofs.never_accused_stands.Goals as goal
use Rattle.lanes.proofs.Verdict.{never_accused}

pub returns : goal.returns
returns c = never_accused
