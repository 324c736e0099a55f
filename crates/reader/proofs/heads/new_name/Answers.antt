use Rattle.std.proofs.Common.{sym, ◌∙◌, inl, arith}
use Rattle.std.proofs.lemmas.Result.{err_from_is_err_and}
use Rattle.reader.proofs.Names.{name_err, no_key, name-key, name-twice, name-many, name-ok}
use Rattle.reader.proofs.Seen.{one_placed}
use Rattle.reader.proofs.heads.new_name.Goals as goal

pub returns-in_err-end : goal.returns-in_err-end
returns-in_err-end c seen z e w a d =
    let p = err_from_is_err_and c.from_residual.result c.from_residual.ensures.1 in
    rw (p.1, p.2) (name_err seen c.args.text.now c.args.i _ c.in_err-end.ensures.walk)

pub returns-then-is_some : goal.returns-then-is_some
returns-then-is_some c seen z e w a d =
    name-key seen c.args.text.now c.args.i _ c.in_ok-end.ensures.walk c.in_ok-end.ensures.word.0 c.keyword_of.result c.keyword_of.ensures (sym c.if-is_some.ensures)

pub returns-then-is_some-2 : goal.returns-then-is_some-2
returns-then-is_some-2 c seen z e w a d =
    name-twice seen c.args.text.now c.args.i _ c.in_ok-end.ensures.walk c.in_ok-end.ensures.word.0 (no_key _ _ c.keyword_of.ensures (sym c.if-is_some.ensures))
    (c.if-is_some-2.ensures ∙ one_placed seen _ _ (c.place_among.ensures.place seen z (record { words = w; apart = a; here = d; all = inl e })))

pub returns-then-many-ge64 : goal.returns-then-many-ge64
returns-then-many-ge64 c seen z e w a d =
    name-many seen c.args.text.now c.args.i _ c.in_ok-end.ensures.walk c.in_ok-end.ensures.word.0 (no_key _ _ c.keyword_of.ensures (sym c.if-is_some.ensures))
    (c.if-is_some-2.ensures ∙ one_placed seen _ _ (c.place_among.ensures.place seen z (record { words = w; apart = a; here = d; all = inl e }))) (omega (arith, e, c.if-many-ge64.true))

pub returns-else-many-ge64 : goal.returns-else-many-ge64
returns-else-many-ge64 c seen z e w a d =
    name-ok seen c.args.text.now c.args.i _ c.in_ok-end.ensures.walk c.in_ok-end.ensures.word.0 (no_key _ _ c.keyword_of.ensures (sym c.if-is_some.ensures))
    (c.if-is_some-2.ensures ∙ one_placed seen _ _ (c.place_among.ensures.place seen z (record { words = w; apart = a; here = d; all = inl e }))) (omega (arith, e, c.if-many-ge64.false))
