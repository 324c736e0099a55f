use Rattle.std.proofs.Common.{Some, sym, subst}
use Rattle.machine.specs.declared.inturn.InTurn.{InTurn}
use Rattle.machine.specs.Schedule.{Says}
use Rattle.machine.proofs.Ones.{InTurnKnows, picked-says}
use Rattle.machine.proofs.inturn.InTurnScheduler.next.Goals as goal

pub returns : goal.returns
returns c = λ at cs k p.
    subst (λ (s : InTurn). Says InTurnKnows s c.args.view.now.sizes at c.args.view.now.lanes.now cs (Some c.in_ok-choice.choice)) (sym c.came_to.ensures)
    (picked-says c.args.view.now.sizes at c.args.view.now.lanes.now cs c.in_ok-choice.choice (c.in_ok-choice.ensures at cs k p))
