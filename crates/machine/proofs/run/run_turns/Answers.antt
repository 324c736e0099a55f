use Rattle.std.proofs.Common.{arith}
use Rattle.store.specs.Lent.{grid_of}
use Rattle.machine.proofs.Choosing.{runs-from}
use Rattle.machine.proofs.Overs.{shows-over, falls}
use Rattle.machine.proofs.Looping.{lent_still, may-go, sets-comes, comes-more}
use Rattle.machine.proofs.run.run_turns.Goals as goal

pub loop-choice-init : goal.loop-choice-init
loop-choice-init g c = (
  omega arith,
  c.requires.lent,
  c.requires.watch,
  λ ns at so. sets-comes g.S.Scheduler.knows c.args.s.now ns c.args.text.now c.args.steps.now c.args.lines c.args.z at c.args.lanes.now c.args.cells.now c.args.marks.now so,
)

pub do_choice-requires : goal.do_choice-requires
do_choice-requires g c =
    let z = c.args.z in let ls = c.loop-choice.lanes in let cs = c.loop-choice.cells in let ks = c.loop-choice.marks in
    let w = c.requires.sets in let inv = c.loop-choice.invariant in
    let come = inv.3 w.0 w.1 w.2 in
    let runs = runs-from w.0 c.args.text.now c.args.steps.now c.args.lines z w.1 ls w.2.loaded come.stands.lined in
    let says = c.in-Some.ensures w.1 cs runs come.knows_it in
    let short = c.requires.few in
    record {
      lent = inv.1;
      watch = inv.2;
      few = omega arith;
      within = inv.0;
      goes = may-go w.0 c.args.text.now c.args.steps.now c.args.lines z w.1 w.2.loaded (grid_of z w.1 c.args.lanes.now c.args.cells.now) come.ts ls cs ks c.loop-choice.done c.args.granted
          come.stands inv.0 c.requires.most c.requires.few c.in-Some.choice says.0;
    }

pub loop-choice-smaller : goal.loop-choice-smaller
loop-choice-smaller g c =
    let z = c.args.z in let ls = c.loop-choice.lanes in let cs = c.loop-choice.cells in let ks = c.loop-choice.marks in
    let w = c.requires.sets in let inv = c.loop-choice.invariant in
    let come = inv.3 w.0 w.1 w.2 in
    let runs = runs-from w.0 c.args.text.now c.args.steps.now c.args.lines z w.1 ls w.2.loaded come.stands.lined in
    let says = c.in-Some.ensures w.1 cs runs come.knows_it in
    let went = c.in-Ok.ensures w.0 w.1 (grid_of z w.1 c.args.lanes.now c.args.cells.now) come.ts w.2.loaded come.stands says.0 in
    falls z c.args.lines c.args.granted c.loop-choice.done c.in-Ok.k ls c.do_choice.new.lanes went.granted_still (λ h hg. let p = went.stands.phases h hg in omega arith) went.moved

pub loop-choice-preserved : goal.loop-choice-preserved
loop-choice-preserved g c =
    let z = c.args.z in let ls = c.loop-choice.lanes in let cs = c.loop-choice.cells in let ks = c.loop-choice.marks in
    let w = c.requires.sets in let inv = c.loop-choice.invariant in
    let come = inv.3 w.0 w.1 w.2 in
    let runs = runs-from w.0 c.args.text.now c.args.steps.now c.args.lines z w.1 ls w.2.loaded come.stands.lined in
    let says = c.in-Some.ensures w.1 cs runs come.knows_it in
    let went = c.in-Ok.ensures w.0 w.1 (grid_of z w.1 c.args.lanes.now c.args.cells.now) come.ts w.2.loaded come.stands says.0 in (
      went.granted_still,
      lent_still z ls cs c.do_choice.new.lanes c.do_choice.new.cells c.do_choice.auto.lanes c.do_choice.auto.cells inv.1,
      (let e = c.do_choice.auto.marks in let h = inv.2 in omega arith),
      λ ns at so.
          let come' = inv.3 ns at so in
          let runs' = runs-from ns c.args.text.now c.args.steps.now c.args.lines z at ls so.loaded come'.stands.lined in
          let says' = c.in-Some.ensures at cs runs' come'.knows_it in
          let went' = c.in-Ok.ensures ns at (grid_of z at c.args.lanes.now c.args.cells.now) come'.ts so.loaded come'.stands says'.0 in
          comes-more g.S.Scheduler.knows c.next.new.self c.args.lines z at (grid_of z at c.args.lanes.now c.args.cells.now) ls cs c.do_choice.new.lanes c.do_choice.new.cells c.do_choice.new.marks
          c.args.granted c.loop-choice.done c.in-Ok.k c.in-Some.choice went' says'.1,
    )

pub returns-in-Err : goal.returns-in-Err
returns-in-Err g c = λ ns at so.
    let z = c.args.z in let ls = c.loop-choice.lanes in let cs = c.loop-choice.cells in
    let inv = c.loop-choice.invariant in
    let come = inv.3 ns at so in
    let runs = runs-from ns c.args.text.now c.args.steps.now c.args.lines z at ls so.loaded come.stands.lined in
    let says = c.in-Some.ensures at cs runs come.knows_it in
    c.in-Err.ensures ns at (grid_of z at c.args.lanes.now c.args.cells.now) come.ts so.loaded come.stands says.0

pub returns-in_default : goal.returns-in_default
returns-in_default g c = λ ns at so.
    let z = c.args.z in let ls = c.loop-choice.lanes in let cs = c.loop-choice.cells in let ks = c.loop-choice.marks in
    let inv = c.loop-choice.invariant in
    let come = inv.3 ns at so in
    let runs = runs-from ns c.args.text.now c.args.steps.now c.args.lines z at ls so.loaded come.stands.lined in
    let still = c.in_default.ensures at cs runs come.knows_it in
    (come.ts, shows-over z at c.args.lines (grid_of z at c.args.lanes.now c.args.cells.now) come.ts ls cs ks c.loop-choice.done c.args.granted come.stands inv.0 still c.over.result (c.over.ensures at cs runs still))
