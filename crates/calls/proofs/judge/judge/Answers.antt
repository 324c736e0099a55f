use Rattle.std.proofs.Common.{sym, subst, arith}
use Rattle.lanes.specs.Grid.{begin}
use Rattle.lanes.specs.Told.{Shows}
use Rattle.code.specs.Lines.{left_at}
use Rattle.store.specs.Lent.{field_of}
use Rattle.machine.specs.Verdict.{told_of}
use Rattle.formats.specs.Field.{cells_read}
use Rattle.writer.proofs.Heads.{one-program}
use Rattle.calls.proofs.Judging.{sets-out}
use Rattle.calls.proofs.judge.judge.Goals as goal

pub run_turns-requires-clause-few : goal.run_turns-requires-clause-few
run_turns-requires-clause-few g c =
    let s = c.requires.starts in
    let l = c.load-lines.ensures.loaded s.ns s.program s.for_it in
    omega (arith, l.few)

pub run_turns-requires-clause-sets : goal.run_turns-requires-clause-sets
run_turns-requires-clause-sets g c =
    let s = c.requires.starts in
    let l = c.load-lines.ensures.loaded s.ns s.program s.for_it in (
      s.ns,
      left_at s.program.body,
      record {
        loaded = l.loaded;
        stands = sets-out s.ns s.program c.args.z _ _ _ _ _ _ _ c.requires.lent.sized.some_lane l;
        knows_it = subst (λ d. g.S.Scheduler.knows c.args.s.now c.args.z.lanes d) (sym l.begins) s.ready;
      },
    )

pub returns-clause-shown : goal.returns-clause-shown
returns-clause-shown g c ns p f =
    let s = c.requires.starts in
    let z = c.args.z in
    let l = c.load-lines.ensures.loaded s.ns s.program s.for_it in
    let run = c.run_turns.ensures s.ns (left_at s.program.body) (record {
      loaded = l.loaded;
      stands = sets-out s.ns s.program z _ _ _ _ _ _ _ c.requires.lent.sized.some_lane l;
      knows_it = subst (λ d. g.S.Scheduler.knows c.args.s.now z.lanes d) (sym l.begins) s.ready;
    }) in
    let same = one-program s.ns ns s.program p c.args.text.now s.for_it.taken.distinct f.taken.distinct s.for_it.taken.spelled f.taken.spelled in (
      run.0,
      subst (λ q. Shows c.args.granted z.lanes (begin q z.groups z.lanes (cells_read c.args.bytes.now z.field)) run.0 (told_of c.run_turns.result (field_of z c.run_turns.new.cells))) same.1
          (subst (λ d. Shows c.args.granted z.lanes d run.0 (told_of c.run_turns.result (field_of z c.run_turns.new.cells))) l.begins run.1),
    )
