use Rattle.std.proofs.Common.{sym, ap, ◌∙◌, subst}
use Rattle.grammar.specs.Spelling.{Named}
use Rattle.code.specs.Words.{step_at}
use Rattle.machine.specs.declared.look.Stance.{Stance}
use Rattle.machine.specs.Choices.{StanceIs, stance_of_spec}
use Rattle.machine.proofs.Stances.{settled-stance}
use Rattle.machine.proofs.look.stance_at.Goals as goal

pub returns : goal.returns
returns c = λ ns text owns at h k.
    subst (λ (s : Stance). StanceIs (at c.args.entry) s) (sym (c.stance_by.ensures ∙ ap stance_of_spec c.decode.ensures))
    (settled-stance (Named ns) text at owns c.args.lines c.args.entry c.settle-here.result (step_at c.args.steps.now c.args.lines) k (c.settle-here.ensures.settled ns text owns at h k))
