use Rattle.std.proofs.lemmas.Result.{err_from_is_err_and}
use Rattle.calls.specs.Plan.{planned}
use Rattle.calls.proofs.Planning.{refused, checks}
use Rattle.calls.proofs.plan.make_plan.Goals as goal

pub returns-in_err-shape-clause-is : goal.returns-in_err-shape-clause-is
unfolding planned
returns-in_err-shape-clause-is c =
    let p = err_from_is_err_and c.from_residual.result c.from_residual.ensures.1 in rw (p.1, p.2) (refused _ _ c.args.room _ c.in_err-shape.ensures.is)

pub returns-in_err-check_sizes-clause-is : goal.returns-in_err-check_sizes-clause-is
unfolding planned
returns-in_err-check_sizes-clause-is c =
    let p = err_from_is_err_and c.from_residual-in_err-check_sizes.result c.from_residual-in_err-check_sizes.ensures.1 in
    rw (p.1, p.2) (rw (← c.in_err-check_sizes.ensures) at (checks _ _ c.args.room _ c.in_ok-shape.ensures.is))

pub returns-clause-is : goal.returns-clause-is
unfolding planned
returns-clause-is c = rw (← c.in_ok-check_sizes.ensures) at (checks _ _ c.args.room _ c.in_ok-shape.ensures.is)
