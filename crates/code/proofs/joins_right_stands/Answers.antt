use Rattle.code.proofs.Nests.{joins-right}
use Rattle.code.proofs.joins_right_stands.Goals as goal

pub returns : goal.returns
returns c = joins-right
