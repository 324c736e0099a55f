use Rattle.std.proofs.Common.{◌≡◌, ◌<◌, ◌≤◌, length, ◌∙◌, arith}
use Rattle.store.specs.Layout.{room}
use Rattle.store.specs.Lent.{Lined}
use Rattle.store.proofs.Goes.{further-none, further-more, released, further-phase, further-line}
use Rattle.store.proofs.groups.go_on.Goals as goal

pub loop-l-init : goal.loop-l-init
loop-l-init c = further-none c.args.z c.args.g c.args.lanes.now

pub overflow_add-line : goal.overflow_add-line
unfolding Lined
overflow_add-line c =
    let there : c.loop-l.l < c.args.z.lanes = rw (← c.z.view_is) c.loop-l-test.true in
    let p = further-line c.args.z c.args.g c.loop-l.l c.args.lanes.now c.loop-l.lanes there c.loop-l.invariant in
    let q = c.requires.lined c.args.g c.loop-l.l c.requires.group there in
    let r : c.line_of-line.result < 4294967295 = rw (c.line_of-line.ensures ∙ p) q in
    omega arith

pub loop-l-preserved : goal.loop-l-preserved
loop-l-preserved c =
    let there : c.loop-l.l < c.args.z.lanes = rw (← c.z.view_is) c.loop-l-test.true in
    let fit : room c.args.z ≤ length c.loop-l.lanes = omega (arith, c.requires.fit, c.loop-l.auto.lanes) in
    further-more c.args.z c.args.g c.loop-l.l c.line_of-line.result c.args.lanes.now c.loop-l.lanes c.stand.new.lanes c.requires.group there fit
    c.line_of-line.ensures c.stand.ensures.is c.loop-l.invariant

pub raise_phase-requires : goal.raise_phase-requires
raise_phase-requires c =
    let some : 0 < c.args.z.lanes = rw (← c.z.view_is) (omega (arith, c.z.invariant.some_lane)) in
    record {
      fit = omega (arith, c.requires.fit, c.loop-l.auto.lanes);
      group = c.requires.group;
      phase = rw (further-phase c.args.z c.args.g c.loop-l.l c.args.lanes.now c.loop-l.lanes some c.loop-l.invariant) c.requires.phase;
    }

pub returns : goal.returns
returns c =
    let some : 0 < c.args.z.lanes = rw (← c.z.view_is) (omega (arith, c.z.invariant.some_lane)) in
    let e : c.loop-l.l ≡ c.args.z.lanes = rw (← c.z.view_is) (omega arith) in
    released c.args.z some c.args.g c.requires.group c.args.lanes.now c.loop-l.lanes c.raise_phase.new.lanes (simp e at c.loop-l.invariant) c.raise_phase.ensures
