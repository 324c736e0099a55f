use Rattle.machine.proofs.Scripted.{none-case, plain-space, plain-line, of-no-space, of-no-lane, of-no-line}
use Rattle.machine.proofs.script.lane_turn.Goals as goal

pub behind-requires : goal.behind-requires
behind-requires c = plain-space

pub behind-requires-2 : goal.behind-requires-2
behind-requires-2 c = plain-line

pub returns-in_err-group : goal.returns-in_err-group
returns-in_err-group c = none-case _ _ _ c.from_residual.ensures (λ g l n h. c.in_err-group.ensures g h.0 h.3)

pub returns-in_err-at : goal.returns-in_err-at
returns-in_err-at c = none-case _ _ _ c.from_residual-in_err-at.ensures (of-no-space c.args.bytes.now c.args.i _ _ c.in_ok-group.ensures c.in_err-at.ensures)

pub returns-in_err-lane : goal.returns-in_err-lane
returns-in_err-lane c =
    none-case _ _ _ c.from_residual-in_err-lane.ensures (of-no-lane c.args.bytes.now c.args.i _ _ c.in_ok-group.ensures _ c.in_ok-at.ensures c.in_err-lane.ensures)

pub returns-in_err-next : goal.returns-in_err-next
returns-in_err-next c =
    none-case _ _ _ c.from_residual-in_err-next.ensures
    (of-no-line c.args.bytes.now c.args.i _ _ c.in_ok-group.ensures _ _ _ c.in_ok-at.ensures c.in_ok-lane.ensures c.in_err-next.ensures)
