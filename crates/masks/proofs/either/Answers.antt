use Rattle.masks.proofs.Bits.{on-either}
use Rattle.masks.proofs.either.Goals as goal

pub returns : goal.returns
returns c = on-either c.args.a c.args.b
