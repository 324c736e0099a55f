use Rattle.std.proofs.Common.{◌∙◌}
use Rattle.machine.proofs.Stances.{waits-is}
use Rattle.machine.proofs.view.View.waits.Goals as goal

pub returns : goal.returns
returns c = λ at k. c.eq.ensures ∙ waits-is c.stance_of.result _ (c.stance_of.ensures at k)
