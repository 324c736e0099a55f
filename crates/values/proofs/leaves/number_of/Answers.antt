use Rattle.std.proofs.Common.{◌≡◌, ◌-◌, ◌∙◌, rules, arith}
use Rattle.std.specs.List.{fold}
use Rattle.lanes.specs.Step.{sum_of, product_of}
use Rattle.values.proofs.Numbers.{folded}
use Rattle.values.proofs.leaves.number_of.Goals as goal

pub returns : goal.returns
returns c = let e : c.fold.result ≡ fold (λ n b. sum_of (product_of n 10) (b - 48)) 0 c.args.digits.now = search rules in e ∙ folded 0 c.args.digits.now (omega arith)
