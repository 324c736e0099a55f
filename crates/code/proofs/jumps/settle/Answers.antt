use Rattle.std.proofs.Common.{sym, refl, ap, ◌∙◌, arith}
use Rattle.grammar.specs.Spelling.{Named}
use Rattle.code.specs.Settle.{is_jump, rests, jumps}
use Rattle.code.specs.Words.{step_at}
use Rattle.code.proofs.Chains.{jump-within, jumped, back, no_jump}
use Rattle.code.proofs.jumps.settle.Goals as goal

pub loop-to-init : goal.loop-to-init
loop-to-init c = (λ r p. p, λ ns text owns at h k. (refl, h))

pub loop-to-smaller : goal.loop-to-smaller
loop-to-smaller c = omega (arith, jump-within c.args.steps.now c.args.lines c.loop-to.here c.in-Jump.to c.in-Jump.ensures)

pub loop-to-preserved : goal.loop-to-preserved
loop-to-preserved c = (
  λ r p. c.loop-to.invariant.0 r (jumps c.in-Jump.to (sym c.in-Jump.ensures) p),
  λ ns text owns at h k.
      let i = c.loop-to.invariant.1 ns text owns at h k in
      let j = jumped (Named ns) text owns c.args.lines at (step_at c.args.steps.now c.args.lines) c.loop-to.here c.in-Jump.to k i.1 c.in-Jump.ensures in
      (j.0 ∙ i.0, j.1),
)

pub returns-then-to-here : goal.returns-then-to-here
returns-then-to-here c = record {
  settled = λ ns text owns at h k.
      let i = c.loop-to.invariant.1 ns text owns at h k in
      let j = jumped (Named ns) text owns c.args.lines at (step_at c.args.steps.now c.args.lines) c.loop-to.here c.in-Jump.to k i.1 c.in-Jump.ensures in
      record { left = j.0 ∙ i.0; within = j.1; stays = back (Named ns) text owns c.args.lines at (step_at c.args.steps.now c.args.lines) c.loop-to.here c.in-Jump.to k i.1 c.in-Jump.ensures c.if-to-here.true };
  leads = λ ns text owns at h k.
      let i = c.loop-to.invariant.1 ns text owns at h k in
      let stays = back (Named ns) text owns c.args.lines at (step_at c.args.steps.now c.args.lines) c.loop-to.here c.in-Jump.to k i.1 c.in-Jump.ensures c.if-to-here.true in
      c.loop-to.invariant.0 _ (jumps c.in-Jump.to (sym c.in-Jump.ensures) (rests refl stays));
}

pub returns-in_default : goal.returns-in_default
returns-in_default c =
    let stays = ap is_jump (sym c.decode.ensures) ∙ no_jump c.decode.result c.in_default.not-Jump in
    record {
      settled = λ ns text owns at h k. let i = c.loop-to.invariant.1 ns text owns at h k in record { left = i.0; within = i.1; stays = stays };
      leads = λ ns text owns at h k. c.loop-to.invariant.0 _ (rests refl stays);
    }
