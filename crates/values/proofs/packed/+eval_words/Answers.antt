use Rattle.std.proofs.Common.{Some, sym, ap, ◌∙◌, rules}
use Rattle.std.proofs.lemmas.List.{places}
use Rattle.values.proofs.Unpacking.{unpacked-past, unpacked-none, unpacked-word, unpacked-apply}
use Rattle.values.proofs.packed.+eval_words.Goals as goal

pub returns-then-at-words : goal.returns-then-at-words
returns-then-at-words t c = unpacked-past c.args.words.now c.args.at c.args.row.now _ c.if-at-words.true

pub returns-in-Some-Word : goal.returns-in-Some-Word
returns-in-Some-Word t c =
    unpacked-word c.args.words.now c.args.at c.args.row.now _ c.in-Some-Word.leaf c.if-at-words.false (sym c.unpack.ensures ∙ c.in-Some-Word.is ∙ ap Some c.in-Some-Word.field-0-is) c.leaf_row.ensures

pub returns-in-Some-Apply : goal.returns-in-Some-Apply
returns-in-Some-Apply t c =
    unpacked-apply c.args.words.now c.args.at c.args.row.now _ _ _ _ c.in-Some-Apply.op _ c.if-at-words.false (sym c.unpack.ensures ∙ c.in-Some-Apply.is ∙ ap Some c.in-Some-Apply.field-0-is)
    c.eval_words-mid.ensures c.eval_words-end.ensures (search (rules, places)) c.apply_row.ensures

pub returns-in-None : goal.returns-in-None
returns-in-None t c = unpacked-none c.args.words.now c.args.at c.args.row.now _ (sym c.unpack.ensures ∙ c.in-None.is)
