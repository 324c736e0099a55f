use Rattle.masks.proofs.Bits.{on_both}
use Rattle.masks.proofs.both.Goals as goal

pub returns : goal.returns
returns c = on_both c.args.a c.args.b
