use Rattle.std.proofs.Common.{set, ap}
use Rattle.store.proofs.Goes.{put-aside}
use Rattle.store.proofs.groups.put_word.Goals as goal

pub returns : goal.returns
returns c =
    put-aside c.args.z c.args.g c.args.s c.args.l c.args.v c.args.lanes.now _ c.requires.group c.requires.slot.0 c.requires.slot.1 c.requires.lane c.requires.fit
    (ap (λ i. set c.args.lanes.now i c.args.v) c.place.ensures.is)
