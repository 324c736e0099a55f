use Rattle.std.proofs.Common.{◌≡◌, true, false, get_or, sym, ap, ◌∙◌, arith}
use Rattle.std.proofs.lemmas.List.{get_or_past}
use Rattle.grammar.specs.Spelling.{digit}
use Rattle.grammar.proofs.Runs.{run_more, run_none, number_more, number-none}
use Rattle.grammar.proofs.numbers.digits_in.Goals as goal

pub loop-n-preserved : goal.loop-n-preserved
loop-n-preserved c =
    let t = c.args.text.now in let n = c.loop-n.n in
    let h : digit (get_or t n 0) ≡ true = sym c.is_digit.ensures ∙ c.if-not-is_digit.false in
    let lt = c.loop-n-test.true in (
      omega (arith, c.min-value.ensures),
      sym (run_more digit t n lt h) ∙ c.loop-n.invariant.1,
      number_more t n c.loop-n.value c.min-value.result lt h (omega (arith, c.min-value.ensures, c.from.ensures)) ∙ c.loop-n.invariant.2,
    )

pub returns-then-not-is_digit-clause-count : goal.returns-then-not-is_digit-clause-count
returns-then-not-is_digit-clause-count c =
    let t = c.args.text.now in let n = c.loop-n.n in
    let h : digit (get_or t n 0) ≡ false = sym c.is_digit.ensures ∙ c.if-not-is_digit.true in
    omega (arith, run_none digit t n h, c.loop-n.invariant.1)

pub returns-then-not-is_digit-clause-value : goal.returns-then-not-is_digit-clause-value
returns-then-not-is_digit-clause-value c =
    let t = c.args.text.now in let n = c.loop-n.n in
    let h : digit (get_or t n 0) ≡ false = sym c.is_digit.ensures ∙ c.if-not-is_digit.true in
    let e = number-none t n c.loop-n.value h in omega (arith, e, c.loop-n.invariant.0, c.loop-n.invariant.2)

pub returns-clause-count : goal.returns-clause-count
returns-clause-count c =
    let t = c.args.text.now in let n = c.loop-n.n in
    let h : digit (get_or t n 0) ≡ false = ap digit (get_or_past t n 0 (omega (arith, c.loop-n-test.false))) in
    omega (arith, run_none digit t n h, c.loop-n.invariant.1, c.loop-n-test.false)

pub returns-clause-value : goal.returns-clause-value
returns-clause-value c =
    let t = c.args.text.now in let n = c.loop-n.n in
    let h : digit (get_or t n 0) ≡ false = ap digit (get_or_past t n 0 (omega (arith, c.loop-n-test.false))) in
    let e = number-none t n c.loop-n.value h in omega (arith, e, c.loop-n.invariant.0, c.loop-n.invariant.2)
