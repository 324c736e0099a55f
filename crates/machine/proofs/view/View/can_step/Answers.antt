use Rattle.std.proofs.Common.{sym, ◌∙◌, inl, inr}
use Rattle.machine.proofs.Stances.{steps-is, can-of, can-outside}
use Rattle.machine.proofs.view.View.can_step.Goals as goal

pub returns-then-g-z : goal.returns-then-g-z
returns-then-g-z c = λ at cs k. sym (can-outside c.args.self.now.sizes at c.args.self.now.lanes.now cs c.args.g c.args.l
    (elim c.then-g-z.either [ inl h ↦ inl (rw (← c.z.view_is) h) | inr h ↦ inr (rw (← c.z.view_is) h.1) ]))

pub returns : goal.returns
returns c = λ at cs k. c.eq.ensures ∙ (steps-is c.stance_of.result _ (c.stance_of.ensures at k) ∙ sym (can-of c.args.self.now.sizes at c.args.self.now.lanes.now cs c.args.g c.args.l (rw (← c.z.view_is) c.if-g-z.false) (rw (← c.z.view_is) c.if-l-z.false)))
