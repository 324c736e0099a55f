use Rattle.std.proofs.Common.{arith}
use Rattle.store.specs.Layout.{place_of, room}
use Rattle.store.proofs.Slots.{place-lt}
use Rattle.store.proofs.words.place.Goals as goal

pub returns-clause-within : goal.returns-clause-within
unfolding place_of room
returns-clause-within c = grind (arith, place-lt c.args.z c.args.g c.args.s c.args.l c.requires.group c.requires.slot c.requires.lane)
