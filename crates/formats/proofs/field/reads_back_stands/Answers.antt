use Rattle.formats.proofs.Round.{reads-back}
use Rattle.formats.proofs.field.reads_back_stands.Goals as goal

pub returns : goal.returns
returns c = reads-back
