use Rattle.std.proofs.Common.{◌≡◌, ◌-◌, length, take, drop, ap, arith}
use Rattle.std.proofs.lemmas.Bool.Decides.{not_from_Decides}
use Rattle.grammar.proofs.Named.{no_names, not-empty}
use Rattle.grammar.proofs.names.name_index.Goals as goal

pub returns-then-from-to : goal.returns-then-from-to
returns-then-from-to c fits ns n k h =
    let none : c.args.to - c.args.from ≡ 0 = omega arith in
    not-empty ns c.args.text.now _ n (ap (λ m. length (take m (drop c.args.from c.args.text.now))) none) k h

pub returns-then-not-has_names : goal.returns-then-not-has_names
returns-then-not-has_names c fits ns n k h = no_names ns c.args.text.now _ n (not_from_Decides _ c.has_names.ensures c.if-not-has_names.true) k h
