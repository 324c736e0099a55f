use Rattle.machine.proofs.Scripted.{none-case, plain-line, release-no-line}
use Rattle.machine.proofs.script.group_turn.Goals as goal

pub behind-requires : goal.behind-requires
behind-requires c = plain-line

pub returns-in_err-group : goal.returns-in_err-group
returns-in_err-group c = none-case _ _ _ c.from_residual.ensures (λ g n h. c.in_err-group.ensures g h.0 h.1)

pub returns-in_err-next : goal.returns-in_err-next
returns-in_err-next c = none-case _ _ _ c.from_residual-in_err-next.ensures (release-no-line c.args.bytes.now c.args.i _ _ c.in_ok-group.ensures c.in_err-next.ensures)
