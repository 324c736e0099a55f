use Rattle.std.proofs.Common.{set, ap}
use Rattle.store.proofs.Grids.{settled}
use Rattle.store.proofs.words.stand.Goals as goal

pub returns : goal.returns
returns c =
    let e = ap (λ i. set c.args.lanes.now i c.args.line) c.place.ensures.is in
    record { is = e; settled = settled c.args.z c.args.g c.args.l c.args.line c.requires.group c.requires.lane c.args.lanes.now _ c.requires.fit e }
