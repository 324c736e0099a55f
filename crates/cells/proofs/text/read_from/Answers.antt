use Rattle.std.proofs.Common.{rules, ◌≡◌, ◌-◌, length, take, drop, sym, ap, ◌∙◌, arith}
use Rattle.std.proofs.lemmas.Result.{err_from_is_err_and}
use Rattle.std.proofs.lemmas.List.{take_rest, length-drop}
use Rattle.cells.proofs.Ahead.{stands_none, stands_on, stands-whole, stands-bad, ends_on, ends-whole, ends-bad, some_of, none_of}
use Rattle.cells.proofs.text.read_from.Goals as goal
use Rattle.cells.proofs.text.read_from.Goals.{in-On, in-Whole+in_ok-push-in-Whole, in-Whole-2+in_ok-push, in_default}

pub loop-k-init : goal.loop-k-init
loop-k-init c = stands_none _ _ _ _ (search rules)

pub returns-in_err-next : goal.returns-in_err-next
returns-in_err-next c =
    let p = err_from_is_err_and c.from_residual-in_err-next.result c.from_residual-in_err-next.ensures.1 in
    let n = none_of c.step.result _ _ (sym c.in_err-next.was ∙ c.ok_or.ensures.value) in
    rw (p.1, p.2, n.1)
    (rw take_rest at (stands-bad _ _ _ c.loop-k.k c.loop-k.part _ c.loop-k.invariant c.loop-k-test.true (n.0 ∙ c.step.ensures)))

pub loop-k-preserved : goal.loop-k-preserved
loop-k-preserved c =
    let is = some_of c.step.result _ _ (sym c.in_ok-next.was ∙ c.ok_or.ensures.value) ∙ c.step.ensures in
    elim c.match-branch-3.branch [
      | in-On w ↦ simp (w.part-is, w.cells-is) (stands_on _ _ _ c.loop-k.k c.loop-k.part _ _ c.loop-k.invariant c.loop-k-test.true (rw w.in-On.is at is))
      | in-Whole+in_ok-push-in-Whole w ↦
          simp (w.part-is, w.cells-is, w.in_ok-push-in-Whole.ensures.items)
          (stands-whole _ _ _ c.loop-k.k c.loop-k.part _ _ c.loop-k.invariant c.loop-k-test.true (rw w.in-Whole.is at is))
    ]

pub returns-in_err-cell : goal.returns-in_err-cell
returns-in_err-cell c =
    let p = err_from_is_err_and c.from_residual-in_err-cell.result c.from_residual-in_err-cell.ensures.1 in
    let n = none_of c.step-2.result _ _ (sym c.in_err-cell.was ∙ c.ok_or-2.ensures.value) in
    let t = c.args.text.now in
    let long : length (take (length t - c.args.from) (drop c.args.from t)) ≡ length t - c.args.from = ap length (take_rest t c.args.from) ∙ length-drop c.args.from t in
    rw (p.1, p.2, n.1)
    (rw take_rest at (ends-bad _ _ _ c.loop-k.k (length t) c.loop-k.part _ c.loop-k.invariant c.loop-k-test.false (omega (arith, long)) (n.0 ∙ c.step-2.ensures)))

pub returns : goal.returns
returns c =
    let is = some_of c.step-2.result _ _ (sym c.in_ok-cell.was ∙ c.ok_or-2.ensures.value) ∙ c.step-2.ensures in
    elim c.match-branch-6.branch [
      | in-Whole-2+in_ok-push w ↦
          simp (w.cells-is, w.in_ok-push.ensures.items)
          (rw take_rest at (ends-whole _ _ _ c.loop-k.k c.loop-k.part _ _ c.loop-k.invariant c.loop-k-test.false (rw w.in-Whole-2.is at is)))
      | in_default w ↦
          simp w.cells-is (rw take_rest at (ends_on _ _ _ c.loop-k.k c.loop-k.part _ _ c.loop-k.invariant c.loop-k-test.false (rw w.in_default.is at is)))
    ]
