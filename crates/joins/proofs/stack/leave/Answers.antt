use Rattle.std.proofs.Common.{ap, ◌∙◌, arith}
use Rattle.masks.specs.Masks.{lacking}
use Rattle.joins.specs.declared.Join.{Join}
use Rattle.joins.proofs.Stackframes.{stacked-none}
use Rattle.joins.proofs.Stackmoves.{past, lessened, lost_as}
use Rattle.joins.proofs.stack.leave.Goals as goal

pub returns-then-k-n : goal.returns-then-k-n
returns-then-k-n c = record {
  is = past c.args.row.now.sizes c.args.row.now.group c.args.row.now.start c.args.lanes.now c.args.k c.args.mask (let d = c.depth-n.ensures.is in let t = c.if-k-n.true in omega arith);
  frame = stacked-none c.args.row.now.sizes c.args.row.now.group c.args.row.now.start c.args.lanes.now;
}

pub returns : goal.returns
returns c =
    let e = c.join_of-old.ensures in let q = c.without-left.ensures.is in
    record {
      is = lessened c.args.row.now.sizes c.args.row.now.group c.args.row.now.start c.args.lanes.now c.depth-n.result c.args.k c.args.mask _ c.put_join.new.lanes c.depth-n.ensures.is c.if-k-n.false
          (lost_as c.join_of-old.result _ c.args.mask c.without-left.result e q)
          (λ none. c.if-left-eq0.false (q ∙ (ap (λ (j : Join). lacking j.lanes c.args.mask) e ∙ none)))
          c.put_join.ensures;
      frame = c.put_join.ensures.frame;
    }
