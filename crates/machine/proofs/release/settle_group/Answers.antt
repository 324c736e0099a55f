use Rattle.std.proofs.Common.{◌≡◌, ℕ, ◌<◌, subst, arith}
use Rattle.machine.specs.Moves.{GroupSettled}
use Rattle.machine.proofs.Settling.{group-none, group-more}
use Rattle.machine.proofs.release.settle_group.Goals as goal

pub loop-l-init : goal.loop-l-init
loop-l-init c = group-none c.args.z c.args.steps.now c.args.lines c.args.g c.args.lanes.now

pub loop-l-preserved : goal.loop-l-preserved
loop-l-preserved c =
    let there : c.loop-l.l < c.args.z.lanes = rw (← c.z.view_is) c.loop-l-test.true in
    group-more c.args.z c.args.steps.now c.args.lines c.args.g c.loop-l.l c.args.lanes.now c.loop-l.lanes c.settle_lane.new.lanes there c.loop-l.invariant c.settle_lane.ensures

pub returns-clause-settled : goal.returns-clause-settled
returns-clause-settled c = let e : c.loop-l.l ≡ c.args.z.lanes = rw (← c.z.view_is) (omega arith) in subst (λ (k : ℕ). GroupSettled c.args.z c.args.steps.now c.args.lines c.args.g k c.args.lanes.now c.loop-l.lanes) e c.loop-l.invariant
