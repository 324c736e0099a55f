use Rattle.std.proofs.Common.{ℕ, subst, arith}
use Rattle.store.specs.Lent.{Lined}
use Rattle.machine.specs.Choices.{StanceIs}
use Rattle.machine.proofs.view.View.stance_of.Goals as goal

pub returns : goal.returns
unfolding Lined
returns c = λ at k.
    let e = c.line_of.ensures in
    let h = k.lined c.args.g c.args.l c.requires.group c.requires.lane in
    subst (λ (i : ℕ). StanceIs (at i) c.stance_at.result) e (c.stance_at.ensures k.ns k.text k.owns at (omega arith) k.coded)
