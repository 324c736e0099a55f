use Rattle.code.proofs.Rights.{code-right}
use Rattle.code.proofs.code_right_stands.Goals as goal

pub returns : goal.returns
returns c = code-right
