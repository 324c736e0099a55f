use Rattle.std.proofs.Common.{◌≡◌, ℕ, ◌+◌, ◌++◌, Err, sym, subst, arith, rules}
use Rattle.machine.specs.declared.schedule.Choice.{Choice}
use Rattle.machine.specs.declared.schedule.Choice.TheVariants.{Row}
use Rattle.masks.specs.Masks.{lanes_in}
use Rattle.machine.specs.Line.{row_turns}
use Rattle.machine.specs.Schedule.{CanDo}
use Rattle.machine.specs.Verdict.{told_at, WentTo, MayGo}
use Rattle.machine.proofs.Choosing.{shows-long, shows-stopped, went-row, went-go}
use Rattle.machine.proofs.choose.do_choice.Goals as goal

pub returns-in-GoOn : goal.returns-in-GoOn
returns-in-GoOn c = λ ns at d ts k st cd.
    let z = c.args.z in let ls = c.args.lanes.now in let cs = c.args.cells.now in let ks = c.args.marks.now in let g = c.in-GoOn.group in
    let cd' = subst (λ (x : Choice). CanDo z at ls cs x) c.in-GoOn.is cd in
    let goes = subst (λ (x : Choice). MayGo z c.args.source.now.steps.now c.args.source.now.lines ls x) c.in-GoOn.is c.requires.goes in
    subst (λ (x : Choice). WentTo z at c.args.source.now.lines d ls cs c.release.new.lanes cs ks c.args.granted c.args.done c.args.done x) (sym c.in-GoOn.is)
    (went-go ns c.args.source.now.text.now c.args.source.now.steps.now c.args.source.now.lines z at d ts ls cs ks c.args.done k c.requires.lent.sized st c.release.new.lanes c.args.granted g goes.0 cd' c.release.ensures c.requires.within)

pub returns-then-granted-done : goal.returns-then-granted-done
returns-then-granted-done c = λ ns at d ts k st cd.
    let z = c.args.z in let ls = c.args.lanes.now in let cs = c.args.cells.now in let ks = c.args.marks.now in
    let g = c.in-Row.group in let start = c.in-Row.start in let mask = c.in-Row.mask in
    let cd' = subst (λ (x : Choice). CanDo z at ls cs x) c.in-Row.is cd in (
      ts ++ row_turns g start mask 32,
      shows-long ns c.args.source.now.text.now c.args.source.now.steps.now c.args.source.now.lines z at d ts ls cs ks c.args.done k c.requires.lent.sized st c.args.granted g start mask cd' c.requires.within
          (let e = c.count-many.ensures in let t = c.if-granted-done.true in omega arith),
    )

pub returns-in_ok-do_row-in-Row : goal.returns-in_ok-do_row-in-Row
returns-in_ok-do_row-in-Row c = λ ns at d ts k st cd.
    let z = c.args.z in let ls = c.args.lanes.now in let cs = c.args.cells.now in let ks = c.args.marks.now in
    let g = c.in-Row.group in let start = c.in-Row.start in let mask = c.in-Row.mask in
    let e = c.count-many.ensures in let t = c.if-granted-done.false in
    let cd' = subst (λ (x : Choice). CanDo z at ls cs x) c.in-Row.is cd in
    let w = went-row ns c.args.source.now.text.now c.args.source.now.steps.now c.args.source.now.lines z at d ts ls cs ks c.args.done k c.requires.lent.sized st c.do_row.new.lanes c.do_row.new.cells c.do_row.new.marks
    c.args.granted g start mask cd' (c.in_ok-do_row-in-Row.ensures.ran ns at k st.lined cd') c.requires.within (omega arith) in
    let m : c.args.done + lanes_in mask 32 ≡ c.args.done + c.count-many.result = omega arith in
    subst (λ (x : Choice). WentTo z at c.args.source.now.lines d ls cs c.do_row.new.lanes c.do_row.new.cells c.do_row.new.marks c.args.granted c.args.done (c.args.done + c.count-many.result) x) (sym c.in-Row.is)
    (subst (λ (i : ℕ). WentTo z at c.args.source.now.lines d ls cs c.do_row.new.lanes c.do_row.new.cells c.do_row.new.marks c.args.granted c.args.done i (Row g start mask)) m w)

pub returns-in_err-do_row-in-Row : goal.returns-in_err-do_row-in-Row
returns-in_err-do_row-in-Row c = λ ns at d ts k st cd.
    let cd' = subst (λ (x : Choice). CanDo c.args.z at c.args.lanes.now c.args.cells.now x) c.in-Row.is cd in
    let ran = c.in_err-do_row-in-Row.ensures.ran ns at k st.lined cd' in
    let why = c.in_err-do_row-in-Row.field-0.0 in
    let e : c.from_residual.result ≡ Err (told_at why) = search rules in
    rw e (ts ++ row_turns c.in-Row.group c.in-Row.start c.in-Row.mask ran.many, shows-stopped c.args.z at d _ c.do_row.new.lanes c.do_row.new.cells c.do_row.new.marks c.args.granted why (ran.after d ts st.sofar))
