use Rattle.std.proofs.Common.{length, sym, refl, arith}
use Rattle.calls.proofs.Answering.{lent, bytes-there, granted-few, some_lane, for-any, starts, field-long, printed-there, printed-ok, told-right}
use Rattle.calls.proofs.answer.answer_by.Goals as goal

pub judge-verdict-requires : goal.judge-verdict-requires
judge-verdict-requires g c =
    let k = rw c.room.ensures at c.in_ok-sizes.ensures.known in
    record {
      lent = lent _ _ _ _ k c.args.lent.now.lanes.now c.args.lent.now.cells.now refl refl;
      watch = k.touches_fit;
      field = bytes-there _ _ _ _ k;
      most = granted-few _ _ _ _ k;
      starts = starts _ _ _ _ k g.S.Scheduler.knows c.args.s.now c.args.lent.now.steps.now refl c.requires;
    }

pub field_cells-requires : goal.field_cells-requires
field_cells-requires g c =
    let k = rw c.room.ensures at c.in_ok-sizes.ensures.known in
    omega (arith, k.cells_fit, c.judge-verdict.ensures.same.cells.size)

pub unwrap-len-requires : goal.unwrap-len-requires
unwrap-len-requires g c =
    let k = rw c.room.ensures at c.in_ok-sizes.ensures.known in
    let n = printed-there _ _ _ _ k (length c.field_cells.result.now) (field-long _ _ _ c.field_cells.ensures) in
    printed-ok _ _ _ _ _ c.print_told.ensures (omega (arith, n, c.judge-verdict.ensures.same.printed.size))

pub returns-clause-answered : goal.returns-clause-answered
returns-clause-answered g c =
    let k = rw c.room.ensures at c.in_ok-sizes.ensures.known in
    let e = rw c.unwrap-len.ensures at c.print_told.ensures in
    record {
      plan = c.in_ok-sizes.field-0;
      taken = sym (rw c.room.ensures at c.in_ok-sizes.ensures.is);
      judged = λ ns q t.
          let run = c.judge-verdict.ensures.shown ns q (for-any _ _ _ _ k ns q c.args.lent.now.steps.now refl t) in
          told-right _ q _ _ _ _ c.judge-verdict.result c.told_by-told.result run.0 (some_lane _ _ _ _ k) (c.told_by-told.ensures _) run.1;
      prints = rw (c.judge-verdict.ensures.printed, c.field_cells.ensures) at e.1;
    }
