use Rattle.std.proofs.Common.{arith}
use Rattle.store.proofs.Written.{row-range}
use Rattle.store.proofs.rows.row_place.Goals as goal

pub returns-clause-within : goal.returns-clause-within
returns-clause-within c =
    let e = c.place.ensures.is in
    omega (arith, row-range c.args.z c.args.g c.args.s c.args.l c.args.n c.requires.group c.requires.slot c.requires.lane c.requires.within)
