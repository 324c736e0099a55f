use Rattle.std.proofs.Common.{sym}
use Rattle.machine.proofs.Overs.{stance-on}
use Rattle.machine.proofs.view.View.has_ended.Goals as goal

pub returns-in_default : goal.returns-in_default
returns-in_default c = λ at k. sym (stance-on _ c.stance_of.result (c.stance_of.ensures at k) c.in_default.not-Ended)
