use Rattle.lanes.proofs.one_verdict_stands.Goals as goal
use Rattle.lanes.proofs.Verdict.{one-verdict}

pub returns : goal.returns
returns c = one-verdict
