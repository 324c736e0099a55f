use Rattle.std.proofs.Common.{◌≡◌, ◌<◌, [], length, drop, sym, ap, ◌∙◌, arith}
use Rattle.std.proofs.lemmas.List.{drop_all}
use Rattle.code.specs.Scan.{closing}
use Rattle.code.proofs.Texts.{step-open, step-last, step-shut, step-plain, closing-none}
use Rattle.code.proofs.scan.bracket_len.Goals as goal
use Rattle.code.proofs.scan.bracket_len.Goals.{in-40, in-41+else-depth-le1, in_default}

pub returns-then-depth-le1-clause-is : goal.returns-then-depth-le1-clause-is
returns-then-depth-le1-clause-is c =
    sym (step-last c.args.text.now c.loop-i.i c.loop-i.depth (omega arith) c.in-41.is c.if-depth-le1.true) ∙ c.loop-i.invariant.0

pub loop-i-preserved : goal.loop-i-preserved
loop-i-preserved c =
    let here : c.loop-i.i < length c.args.text.now = omega arith in
    let inv = c.loop-i.invariant in
    elim c.match-b.branch [
      | in-40 w ↦ rw w.depth-is (sym (step-open c.args.text.now c.loop-i.i c.loop-i.depth here w.in-40.is) ∙ inv.0, omega arith)
      | in-41+else-depth-le1 w ↦ rw w.depth-is (sym (step-shut c.args.text.now c.loop-i.i c.loop-i.depth here w.in-41.is w.if-depth-le1.false) ∙ inv.0, omega arith)
      | in_default w ↦ rw w.depth-is (sym (step-plain c.args.text.now c.loop-i.i c.loop-i.depth here (λ e. omega arith) (λ e. omega arith)) ∙ inv.0, omega arith)
    ]

pub returns-clause-is : goal.returns-clause-is
returns-clause-is c =
    let e : drop c.loop-i.i c.args.text.now ≡ [] = drop_all c.loop-i.i c.args.text.now (omega arith) in
    let z : closing c.loop-i.depth (drop c.loop-i.i c.args.text.now) ≡ 0 = ap (closing c.loop-i.depth) e ∙ closing-none c.loop-i.depth in
    omega (arith, c.loop-i.invariant.0, z)
