use Rattle.std.proofs.Common.{refl}
use Rattle.masks.specs.Masks.{lacking}
use Rattle.masks.proofs.Bits.{on-lacking}
use Rattle.masks.proofs.without.Goals as goal

pub returns : goal.returns
unfolding lacking
returns c = record { is = refl; bits = on-lacking c.args.a c.args.b }
