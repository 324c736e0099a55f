use Rattle.std.proofs.Common.{set, ap}
use Rattle.store.proofs.Goes.{put-aside}
use Rattle.store.proofs.tally.put_group_word.Goals as goal

pub returns-clause-put : goal.returns-clause-put
returns-clause-put c =
    let some = c.first_place.ensures.some in
    put-aside c.args.z c.args.g c.args.s 0 c.args.v c.args.lanes.now _ c.requires.group c.requires.slot.0 c.requires.slot.1 some c.requires.fit
    (ap (λ i. set c.args.lanes.now i c.args.v) c.first_place.ensures.is)
