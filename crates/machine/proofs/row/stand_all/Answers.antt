use Rattle.std.proofs.Common.{◌≡◌, sym, arith}
use Rattle.machine.proofs.Standing.{stood-none, stood_on, stood-off}
use Rattle.machine.proofs.row.stand_all.Goals as goal
use Rattle.machine.proofs.row.stand_all.Goals.{then-is_on, else-is_on}

pub loop-i-init : goal.loop-i-init
loop-i-init c = stood-none c.args.z c.args.row.group c.args.row.start c.args.row.mask c.args.line c.args.lanes.now

pub loop-i-preserved : goal.loop-i-preserved
loop-i-preserved c =
    elim c.if-is_on.branch [
      | then-is_on w ↦ simp w.lanes-is (stood_on c.args.z c.args.row.group c.args.row.start c.args.row.mask c.args.line c.loop-i.i c.args.lanes.now c.loop-i.lanes c.loop-i.invariant
          w.stand.new.lanes c.loop-i-test.true c.requires.inside.there (sym w.if-is_on.ensures) w.stand.ensures.settled)
      | else-is_on w ↦ simp w.lanes-is (stood-off c.args.z c.args.row.group c.args.row.start c.args.row.mask c.args.line c.loop-i.i c.args.lanes.now c.loop-i.lanes c.loop-i.invariant (sym w.if-is_on.ensures))
    ]

pub returns : goal.returns
returns c = let e : c.loop-i.i ≡ 32 = omega arith in simp e at c.loop-i.invariant
