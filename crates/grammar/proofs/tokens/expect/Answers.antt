use Rattle.grammar.proofs.Walks.{bytes_all, bytes_part}
use Rattle.grammar.proofs.tokens.expect.Goals as goal

pub returns-then-same-wanted : goal.returns-then-same-wanted
returns-then-same-wanted c = bytes_all c.args.text.now c.args.wanted.now c.args.i _ c.count_same-same.ensures.count c.if-same-wanted.true

pub returns-else-same-wanted : goal.returns-else-same-wanted
returns-else-same-wanted c = bytes_part c.args.text.now c.args.wanted.now c.args.i _ c.count_same-same.ensures.count c.if-same-wanted.false
