use Rattle.std.proofs.Common.{ℕ, subst, arith}
use Rattle.code.specs.Words.{step_at}
use Rattle.code.specs.Code.{Settled}
use Rattle.machine.proofs.Settling.{settled-then, settled-else, leads-to}
use Rattle.machine.proofs.release.settle_lane.Goals as goal

pub returns-then-entry-lines : goal.returns-then-entry-lines
returns-then-entry-lines c =
    settled-then c.args.z c.args.steps.now c.args.lines c.args.g c.args.l c.args.lanes.now c.settle-entry.result c.stand.new.lanes c.stand.ensures.settled c.if-entry-lines.true
    (λ at k. let h = leads-to c.args.z at c.args.steps.now c.args.lines c.args.g c.args.l c.args.lanes.now c.requires.group c.requires.lane k in
    let e = c.line_of-line.ensures in
    subst (λ (i : ℕ). Settled at (step_at c.args.steps.now c.args.lines) c.args.lines i c.settle-entry.result) e (c.settle-entry.ensures.settled k.ns k.text k.owns at (omega arith) k.coded))

pub returns-else-entry-lines : goal.returns-else-entry-lines
returns-else-entry-lines c =
    settled-else c.args.z c.args.steps.now c.args.lines c.args.g c.args.l c.args.lanes.now c.settle-entry.result c.if-entry-lines.false
    (λ at k. let h = leads-to c.args.z at c.args.steps.now c.args.lines c.args.g c.args.l c.args.lanes.now c.requires.group c.requires.lane k in
    let e = c.line_of-line.ensures in
    subst (λ (i : ℕ). Settled at (step_at c.args.steps.now c.args.lines) c.args.lines i c.settle-entry.result) e (c.settle-entry.ensures.settled k.ns k.text k.owns at (omega arith) k.coded))
