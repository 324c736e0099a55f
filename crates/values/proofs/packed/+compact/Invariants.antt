use Rattle.std.proofs.Common.{◌-◌}
use Rattle.values.proofs.packed.+compact.Given as goal

abbrev pub decreases-compact : goal.decreases-compact
decreases-compact l = l.to - l.from
