use Rattle.values.proofs.Standing.{word-evaluated, none-evaluated}
use Rattle.values.proofs.eval.word_row.Goals as goal

pub returns-then-at-text : goal.returns-then-at-text
returns-then-at-text c h = none-evaluated c.args.text.now c.args.at c.args.row.now _ c.if-at-text.true

pub returns : goal.returns
returns c h =
    word-evaluated c.args.text.now c.args.at c.args.row.now _ c.word_end-end.result c.leaf_of.result h c.word_end-end.ensures c.leaf_of.ensures c.leaf_row.ensures
