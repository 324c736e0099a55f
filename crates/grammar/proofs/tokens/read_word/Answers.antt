use Rattle.std.proofs.Common.{◌≡◌, Some, None, Err, sym, refl, ap, ◌∙◌}
use Rattle.std.proofs.lemmas.Result.{err_from_is_err_and}
use Rattle.grammar.specs.Walk.{place_in}
use Rattle.grammar.specs.declared.refusals.Refusal.TheVariants.{Unknown}
use Rattle.grammar.proofs.Walks.{word_err, word_is, place_is}
use Rattle.grammar.proofs.tokens.read_word.Goals as goal

pub returns-in_err-end : goal.returns-in_err-end
returns-in_err-end c ns n =
    let p = err_from_is_err_and c.from_residual.result c.from_residual.ensures.1 in
    rw (p.1, p.2) (word_err c.args.text.now c.args.i (place_in ns) _ c.in_err-end.ensures.walk)

pub returns-in-Some : goal.returns-in-Some
returns-in-Some c ns n = word_is _ _ (place_in ns) _ (Some c.in-Some.key) _ c.in_ok-end.ensures.walk c.in_ok-end.ensures.word.0 c.in-Some.ensures refl

pub returns-in_err-ok_or-in-None : goal.returns-in_err-ok_or-in-None
returns-in_err-ok_or-in-None c ns n =
    let p = err_from_is_err_and c.from_residual-in_err-ok_or-in-None.result c.from_residual-in_err-ok_or-in-None.ensures.1 in
    let o : c.name_index.result ≡ None = c.in_err-ok_or-in-None.ensures.ok_part in
    let v = rw o at c.in_err-ok_or-in-None.ensures.value in
    let u : c.in_err-ok_or-in-None.field-0.0 ≡ Unknown c.args.i = cc in
    let e = place_is ns _ _ (c.name_index.ensures c.in_ok-end.ensures.word.1 ns n) in
    rw (p.1, p.2) (ap (λ r. Err r) u ∙ word_is _ _ (place_in ns) _ None None c.in_ok-end.ensures.walk c.in_ok-end.ensures.word.0 c.in-None.ensures (sym o ∙ e))

pub returns-in_ok-ok_or-in-None : goal.returns-in_ok-ok_or-in-None
returns-in_ok-ok_or-in-None c ns n =
    let o : c.name_index.result ≡ Some c.in_ok-ok_or-in-None.field-0 = c.in_ok-ok_or-in-None.ensures.ok_part in
    let e = place_is ns _ _ (c.name_index.ensures c.in_ok-end.ensures.word.1 ns n) in
    word_is _ _ (place_in ns) _ None (Some c.in_ok-ok_or-in-None.field-0) c.in_ok-end.ensures.walk c.in_ok-end.ensures.word.0 c.in-None.ensures (sym o ∙ e)
