use Rattle.std.proofs.Common.{◌≡◌, ℕ, ◌++◌, List, [], take, sym, refl, ap, ◌∙◌, arith}
use Rattle.std.proofs.lemmas.List.{nil_from_length}
use Rattle.writer.specs.Copy.{copied}
use Rattle.writer.proofs.Copies.{copy-starts, copy-ends}
use Rattle.writer.proofs.copy.copy_all.Goals as goal

pub loop-b-init : goal.loop-b-init
loop-b-init c = (copy-starts c.args.text.now c.left_out.result c.left_out.ensures, omega arith, λ k h. refl)

pub loop-b-preserved : goal.loop-b-preserved
loop-b-preserved c =
    let inv = c.loop-b.invariant in
    let r = c.in-Some.ensures.cases in (
      c.copy_byte-at.ensures.copied ∙ ap (λ (t : List ℕ). take c.loop-b.at.len c.loop-b.out ++ copied c.loop-b.at.left c.loop-b.at.inside t) (sym r.0) ∙ inv.0,
      omega (arith, r.1, c.copy_byte-at.ensures.len),
      λ k h. c.copy_byte-at.ensures.same k h ∙ inv.2 k (omega (arith, c.copy_byte-at.ensures.grows)),
    )

pub returns-clause-copied : goal.returns-clause-copied
returns-clause-copied c =
    let none : c.loop-b.rest.now ≡ [] = nil_from_length _ c.in_default.ensures.cases in
    sym (copy-ends c.loop-b.out c.loop-b.at.len c.loop-b.at.left c.loop-b.at.inside)
    ∙ ap (λ (t : List ℕ). take c.loop-b.at.len c.loop-b.out ++ copied c.loop-b.at.left c.loop-b.at.inside t) (sym none) ∙ c.loop-b.invariant.0
