use Rattle.std.proofs.Common.{sym, ◌∙◌}
use Rattle.std.proofs.lemmas.Slice.Eq.{slice_eq-Decides}
use Rattle.std.proofs.lemmas.Bool.Decides.{not_from_Decides, Decides-eqb}
use Rattle.grammar.proofs.Named.{stopped, next, found}
use Rattle.grammar.proofs.names.place_among.Goals as goal

pub returns-then-byte-ne32-clause-place : goal.returns-then-byte-ne32-clause-place
returns-then-byte-ne32-clause-place c ns z n =
    stopped ns c.args.text.now z c.args.name.now c.args.many c.loop-k.at c.loop-k.k n (c.loop-k.invariant ns z n) (λ q. c.if-byte-ne32.true (c.byte.ensures.is ∙ q))

pub returns-then-eq-clause-place : goal.returns-then-eq-clause-place
returns-then-eq-clause-place c ns z n =
    let w = c.loop-k.invariant ns z n in
    let x = next ns _ _ _ _ _ _ n w _ c.word_end-end.ensures c.loop-k-test.true (sym c.byte.ensures.is ∙ c.if-byte-ne32.false) in
    found ns _ _ _ _ _ _ n w _ x ((slice_eq-Decides Decides-eqb _ _ _ c.eq.ensures).0 c.if-eq.true)

pub loop-k-preserved : goal.loop-k-preserved
loop-k-preserved c ns z n =
    let w = c.loop-k.invariant ns z n in
    let x = next ns _ _ _ _ _ _ n w _ c.word_end-end.ensures c.loop-k-test.true (sym c.byte.ensures.is ∙ c.if-byte-ne32.false) in
    x.on (λ q. not_from_Decides _ (slice_eq-Decides Decides-eqb _ _ _ c.eq.ensures) c.if-eq.false (x.name ∙ q))
