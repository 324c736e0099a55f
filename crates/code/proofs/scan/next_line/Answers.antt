use Rattle.std.proofs.Common.{◌≡◌, ℕ, ◌+◌, length, ap, Some, None, arith}
use Rattle.std.proofs.lemmas.Slice.{between_to_end}
use Rattle.code.proofs.Texts.{drop-behind, line-found}
use Rattle.code.proofs.scan.next_line.Goals as goal

pub returns-in-Some-clause-on : goal.returns-in-Some-clause-on
returns-in-Some-clause-on c = λ u z e h.
    let b = between_to_end c.args.text.now c.args.i (length c.args.text.now) (omega arith) in
    let q : Some c.in-Some.n ≡ Some (length u) = line-found c.args.text.now u z c.args.i (Some c.in-Some.n) (rw b at c.in-Some.ensures) e h in
    let n : c.in-Some.n ≡ length u = cc in
    drop-behind c.args.text.now u z c.args.i (c.args.i + c.in-Some.n) 10 e (ap (λ (m : ℕ). c.args.i + m) n)

pub returns-in-None-clause-on : goal.returns-in-None-clause-on
returns-in-None-clause-on c = λ u z e h.
    let b = between_to_end c.args.text.now c.args.i (length c.args.text.now) (omega arith) in
    let q : None ≡ Some (length u) = line-found c.args.text.now u z c.args.i None (rw b at c.in-None.ensures) e h in
    cc
