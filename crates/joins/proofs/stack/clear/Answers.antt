use Rattle.joins.proofs.Stackmoves.{cleared}
use Rattle.joins.proofs.stack.clear.Goals as goal

pub returns : goal.returns
returns c = record {
  is = cleared c.args.row.now.sizes c.args.row.now.group c.args.row.now.start c.args.lanes.now c.put_depth.new.lanes c.put_depth.ensures;
  frame = c.put_depth.ensures.frame;
}
