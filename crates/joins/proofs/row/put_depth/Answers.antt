use Rattle.std.proofs.Common.{arith}
use Rattle.joins.proofs.Stackframes.{width-most}
use Rattle.joins.proofs.Stackmoves.{deep}
use Rattle.joins.proofs.row.put_depth.Goals as goal

pub overflow_cast-n : goal.overflow_cast-n
overflow_cast-n c = omega (arith, width-most c.args.row.now.sizes c.args.row.now.start)

pub returns : goal.returns
returns c = deep c.args.row.now.sizes c.args.row.now.group c.args.row.now.start c.args.n c.args.lanes.now c.put_word.new.lanes c.args.row.now.there c.requires.most c.put_word.ensures
