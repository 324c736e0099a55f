use Rattle.cells.proofs.Back.{printed-back}
use Rattle.cells.proofs.text.printed_back_stands.Goals as goal

pub returns : goal.returns
returns c = printed-back
