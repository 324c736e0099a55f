use Rattle.joins.proofs.Stackmoves.{join-put}
use Rattle.joins.proofs.row.put_join.Goals as goal

pub returns : goal.returns
returns c =
    join-put c.args.row.now.sizes c.args.row.now.group c.args.row.now.start c.args.k c.args.join c.args.lanes.now c.put_word.new.lanes c.put_word-2.new.lanes c.put_word-3.new.lanes
    c.args.row.now.there c.requires.there c.put_word.ensures c.put_word-2.ensures c.put_word-3.ensures
