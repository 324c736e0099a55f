use Rattle.std.proofs.Common.{sym, ◌∙◌, arith, rules}
use Rattle.std.proofs.lemmas.List.{places}
use Rattle.values.proofs.Bracketed.{cut_short, no-op, closed, unclosed}
use Rattle.values.proofs.eval.+eval_row.Goals as goal

pub returns-then-mid-text : goal.returns-then-mid-text
returns-then-mid-text t c =
    cut_short c.args.text.now c.args.at c.args.row.now _ _ (sym c.byte.ensures.is ∙ c.if-byte-ne40.false) c.eval_row-mid.ensures
    c.if-mid-text.true (c.byte.ensures.within (omega arith))

pub returns-in_default : goal.returns-in_default
returns-in_default t c =
    no-op c.args.text.now c.args.at c.args.row.now _ _ (sym c.byte.ensures.is ∙ c.if-byte-ne40.false) c.eval_row-mid.ensures
    c.in_default.ensures (c.byte.ensures.within (omega arith))

pub returns-then-end-text : goal.returns-then-end-text
returns-then-end-text t c =
    closed c.args.text.now c.args.at c.args.row.now _ _ (sym c.byte.ensures.is ∙ c.if-byte-ne40.false) c.eval_row-mid.ensures
    _ _ c.in-Some.op _ c.in-Some.ensures c.if-mid-text.false c.eval_row-end.ensures (search (rules, places)) c.apply_row.ensures c.if-end-text.true

pub returns-else-end-text : goal.returns-else-end-text
returns-else-end-text t c =
    unclosed c.args.text.now c.args.at c.args.row.now _ _ (sym c.byte.ensures.is ∙ c.if-byte-ne40.false) c.eval_row-mid.ensures
    _ _ c.in-Some.op _ c.in-Some.ensures c.if-mid-text.false c.eval_row-end.ensures (search (rules, places)) c.apply_row.ensures c.if-end-text.false
