use Rattle.std.proofs.Common.{arith}
use Rattle.joins.proofs.Stackframes.{stacked-both}
use Rattle.joins.proofs.Stackmoves.{pushed}
use Rattle.joins.proofs.stack.push.Goals as goal

pub returns : goal.returns
returns c =
    let below = c.if-n-most.false in let w = c.most.ensures in let d = c.depth-n.ensures.is in
    record {
      is = λ h. pushed c.args.row.now.sizes c.args.row.now.group c.args.row.now.start c.args.lanes.now c.depth-n.result c.args.join c.put_join.new.lanes c.put_depth.new.lanes d (omega arith) c.put_join.ensures c.put_depth.ensures;
      refused = λ h. absurd (omega arith);
      frame = stacked-both c.args.row.now.sizes c.args.row.now.group c.args.row.now.start c.args.lanes.now c.put_join.new.lanes c.put_depth.new.lanes c.put_join.ensures.frame c.put_depth.ensures.frame;
    }
