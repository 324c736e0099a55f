use Rattle.std.proofs.Common.{◌≡◌, ℕ, ◌+◌, refl, subst, arith}
use Rattle.joins.proofs.Stackframes.{stacked-both}
use Rattle.joins.proofs.Stackmoves.{MovedDown, moved_none, moved_more, taken}
use Rattle.joins.proofs.stack.take_out.Goals as goal

pub loop-i-init : goal.loop-i-init
loop-i-init c = moved_none c.args.row.now.sizes c.args.row.now.group c.args.row.now.start c.args.k (c.args.k + 1) c.args.lanes.now refl

pub loop-i-preserved : goal.loop-i-preserved
loop-i-preserved c =
    moved_more c.args.row.now.sizes c.args.row.now.group c.args.row.now.start c.args.k c.loop-i.i c.join_of-above.result c.args.lanes.now c.loop-i.lanes c.put_join.new.lanes
    (omega arith) (omega arith) c.loop-i.invariant c.join_of-above.ensures c.put_join.ensures

pub returns : goal.returns
returns c =
    let e : c.loop-i.i ≡ c.args.n = omega arith in
    let m = subst (λ (i : ℕ). MovedDown c.args.row.now.sizes c.args.row.now.group c.args.row.now.start c.args.k i c.args.lanes.now c.loop-i.lanes) e c.loop-i.invariant in
    record {
      is = λ mask none. taken c.args.row.now.sizes c.args.row.now.group c.args.row.now.start c.args.k c.args.n mask c.args.lanes.now c.loop-i.lanes c.put_depth.new.lanes c.requires.deep c.requires.there none m c.put_depth.ensures;
      frame = stacked-both c.args.row.now.sizes c.args.row.now.group c.args.row.now.start c.args.lanes.now c.loop-i.lanes c.put_depth.new.lanes m.frame c.put_depth.ensures.frame;
    }
