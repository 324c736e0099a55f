use Rattle.std.proofs.Common.{sym, refl, arith}
use Rattle.store.specs.Lent.{grid_of}
use Rattle.machine.proofs.Passing.{passed-lanes, passed_start, passed-group, passed-all}
use Rattle.machine.proofs.inturn.find_from.Goals as goal

pub returns-in-Some : goal.returns-in-Some
returns-in-Some c = λ at cs k p.
    let e = grid_of c.args.view.now.sizes at c.args.view.now.lanes.now cs in let h = c.in-Some.ensures at cs k in
    (refl, rw (← c.z.view_is) c.loop-g-test.true, h.1, h.2, passed-lanes c.args.view.now.sizes.lanes e c.loop-g.g c.loop-g.from c.in-Some.start (c.loop-g.invariant at cs k p) h.3)

pub returns-then-can_go_on : goal.returns-then-can_go_on
returns-then-can_go_on c = λ at cs k p.
    (rw (← c.z.view_is) c.loop-g-test.true, sym (c.if-can_go_on.ensures at cs k), passed_start c.args.view.now.sizes.lanes (grid_of c.args.view.now.sizes at c.args.view.now.lanes.now cs) c.loop-g.g c.loop-g.from (c.loop-g.invariant at cs k p))

pub loop-g-preserved : goal.loop-g-preserved
loop-g-preserved c = λ at cs k p.
    let z = c.args.view.now.sizes in let ls = c.args.view.now.lanes.now in
    passed-group z at ls cs c.loop-g.g z.lanes
    (passed-lanes z.lanes (grid_of z at ls cs) c.loop-g.g c.loop-g.from z.lanes (c.loop-g.invariant at cs k p) (c.in_default.ensures at cs k)) (omega arith) (sym (c.if-can_go_on.ensures at cs k))

pub returns : goal.returns
returns c = λ at cs k p. passed-all c.args.view.now.sizes at c.args.view.now.lanes.now cs c.loop-g.g c.loop-g.from (c.loop-g.invariant at cs k p) (rw (← c.z.view_is) c.loop-g-test.false)
