use Rattle.lanes.proofs.exchange_stands.Goals as goal
use Rattle.lanes.proofs.Exchange.{exchange}

pub returns : goal.returns
returns c = exchange
