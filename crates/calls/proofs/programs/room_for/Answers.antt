use Rattle.std.proofs.lemmas.Result.{err_from_is_err_and}
use Rattle.calls.specs.Plan.{wanted_as}
use Rattle.calls.proofs.Planning.{wants, wants-none}
use Rattle.calls.proofs.programs.room_for.Goals as goal

pub returns-in_err-ask : goal.returns-in_err-ask
unfolding wanted_as
returns-in_err-ask c = let p = err_from_is_err_and c.from_residual.result c.from_residual.ensures.1 in rw (p.1, p.2) (wants-none _ _ _ c.in_err-ask.ensures.is)

pub returns : goal.returns
unfolding wanted_as
returns c = rw c.wanted.ensures.value (wants _ _ _ c.in_ok-ask.ensures.is)
