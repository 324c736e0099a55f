use Rattle.std.proofs.Common.{◌+◌, ◌/◌, ◌%◌, ap, ◌∙◌}
use Rattle.store.proofs.Goes.{put-phase, two-words}
use Rattle.store.proofs.groups.raise_phase.Goals as goal

pub returns : goal.returns
returns c =
    let n = c.phase_of-next.result + 1 in
    put-phase c.args.z c.args.g (n % 4294967296) (n / 4294967296) c.args.lanes.now _ c.first_place.ensures.some c.requires.group c.requires.fit
    (two-words n ∙ ap (λ m. m + 1) c.phase_of-next.ensures) (simp (c.first_place.ensures.is, c.first_place-2.ensures.is))
