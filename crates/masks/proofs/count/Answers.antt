use Rattle.std.proofs.Common.{◌∙◌}
use Rattle.masks.proofs.Counts.{ones-lanes}
use Rattle.masks.proofs.count.Goals as goal

pub returns : goal.returns
returns c = c.from.ensures ∙ ones-lanes 32 c.args.mask c.ranges.mask.fits
