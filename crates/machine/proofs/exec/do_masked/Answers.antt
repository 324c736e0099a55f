use Rattle.std.proofs.Common.{◌≡◌, Err, sym, ◌∙◌, arith, rules}
use Rattle.machine.proofs.Masked.{row-none, row_on, row-off, row-stop, row-all, row-phase}
use Rattle.machine.proofs.exec.do_masked.Goals as goal
use Rattle.machine.proofs.exec.do_masked.Goals.{then-is_on+in_ok-do_lane, else-is_on}

pub returns-in_err-do_lane : goal.returns-in_err-do_lane
returns-in_err-do_lane c =
    let e : c.from_residual.result ≡ Err c.in_err-do_lane.field-0.0 = search rules in
    rw e (row-stop c.args.z c.args.lanes.now c.args.cells.now c.args.marks.now c.args.row.group c.args.row.start c.args.row.mask c.args.work.stop c.args.work.todo c.args.xs.now c.args.ys.now
    c.loop-i.lanes c.loop-i.cells c.loop-i.marks c.loop-i.i c.loop-i-test.true c.loop-i.invariant
    c.do_lane.new.lanes c.do_lane.new.cells c.do_lane.new.marks c.do_lane.result (sym c.if-is_on.ensures)
    (c.requires.masked c.loop-i.i c.loop-i-test.true (sym c.if-is_on.ensures)) c.do_lane.ensures c.in_err-do_lane.field-0.0 c.in_err-do_lane.was)

pub loop-i-init : goal.loop-i-init
loop-i-init c =
    row-none c.args.z c.args.lanes.now c.args.cells.now c.args.marks.now c.args.row.group c.args.row.start c.args.row.mask c.args.work.stop c.args.work.todo c.args.xs.now c.args.ys.now

pub loop-i-preserved : goal.loop-i-preserved
loop-i-preserved c =
    elim c.if-is_on.branch [
      | then-is_on+in_ok-do_lane w ↦ simp (w.lanes-is, w.cells-is, w.marks-is) (row_on c.args.z c.args.lanes.now c.args.cells.now c.args.marks.now c.args.row.group c.args.row.start c.args.row.mask c.args.work.stop c.args.work.todo c.args.xs.now c.args.ys.now
          c.loop-i.lanes c.loop-i.cells c.loop-i.marks c.loop-i.i c.loop-i-test.true c.loop-i.invariant
          w.do_lane.new.lanes w.do_lane.new.cells w.do_lane.new.marks w.do_lane.result (sym w.if-is_on.ensures)
          (c.requires.masked c.loop-i.i c.loop-i-test.true (sym w.if-is_on.ensures)) w.do_lane.ensures w.in_ok-do_lane.was)
      | else-is_on w ↦ simp (w.lanes-is, w.cells-is, w.marks-is) (row-off c.args.z c.args.lanes.now c.args.cells.now c.args.marks.now c.args.row.group c.args.row.start c.args.row.mask c.args.work.stop c.args.work.todo c.args.xs.now c.args.ys.now
          c.loop-i.lanes c.loop-i.cells c.loop-i.marks c.loop-i.i c.loop-i-test.true c.loop-i.invariant (sym w.if-is_on.ensures))
    ]

pub returns : goal.returns
returns c =
    let e : c.loop-i.i ≡ 32 = omega arith in
    row-all c.args.z c.args.lanes.now c.args.cells.now c.args.marks.now c.args.row.group c.args.row.start c.args.row.mask c.args.work.stop c.args.work.todo c.args.xs.now c.args.ys.now c.loop-i.lanes c.loop-i.cells c.loop-i.marks (simp e at c.loop-i.invariant)

pub do_lane-requires : goal.do_lane-requires
do_lane-requires c =
    let same = row-phase c.args.z c.args.lanes.now c.args.cells.now c.args.marks.now c.args.row.group c.args.row.start c.args.row.mask c.args.work.stop c.args.work.todo c.args.xs.now c.args.ys.now c.loop-i.lanes c.loop-i.cells c.loop-i.marks c.loop-i.i c.requires.lent.sized c.loop-i.invariant in
    let lanes_fit = c.requires.lent.lanes_fit in
    let cells_fit = c.requires.lent.cells_fit in
    let watch = c.requires.watch in
    record {
      lent = record { sized = c.requires.lent.sized; lanes_fit = omega (arith, c.loop-i.auto.lanes); cells_fit = omega (arith, c.loop-i.auto.cells) };
      watch = omega (arith, c.loop-i.auto.marks);
      group = c.requires.group;
      lane = c.requires.masked c.loop-i.i c.loop-i-test.true (sym c.if-is_on.ensures);
      phase = c.phase_of-phase.ensures ∙ sym same;
      there = c.requires.there;
    }
