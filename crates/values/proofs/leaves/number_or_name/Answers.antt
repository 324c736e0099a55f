use Rattle.std.proofs.Common.{sym, ◌∙◌}
use Rattle.std.specs.List.{between}
use Rattle.values.proofs.Words.{first-same, number-leaf, name-leaf, no-leaf}
use Rattle.values.proofs.leaves.number_or_name.Goals as goal

pub returns-then-is_digit : goal.returns-then-is_digit
returns-then-is_digit c =
    number-leaf c.args.text.now (between c.args.at c.args.end c.args.text.now) c.byte.result
    (λ h. c.byte.ensures.is ∙ first-same c.args.text.now c.args.at c.args.end h)
    c.number_of.result (sym c.if-is_digit.ensures) c.number_of.ensures

pub returns-in-Some : goal.returns-in-Some
returns-in-Some c =
    name-leaf c.args.text.now (between c.args.at c.args.end c.args.text.now) c.byte.result
    (λ h. c.byte.ensures.is ∙ first-same c.args.text.now c.args.at c.args.end h)
    c.in-Some.k (sym c.if-is_digit.ensures) (c.in-Some.ensures c.requires.to)

pub returns-in-None : goal.returns-in-None
returns-in-None c =
    no-leaf c.args.text.now (between c.args.at c.args.end c.args.text.now) c.byte.result
    (λ h. c.byte.ensures.is ∙ first-same c.args.text.now c.args.at c.args.end h)
    (sym c.if-is_digit.ensures) (c.in-None.ensures c.requires.to)
