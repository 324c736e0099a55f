use Rattle.std.proofs.Common.{List, ℕ, length, get_or, ap, arith}
use Rattle.store.proofs.Written.{row_written}
use Rattle.store.proofs.rows.copy_row.Goals as goal

pub returns : goal.returns
returns c =
    let e = c.row_place-a.ensures.is in
    let within = c.row_place-a.ensures.within in
    let fit = c.requires.fit in
    let is = c.copy_from_slice.ensures.after in
    row_written c.args.z c.args.g c.args.s c.args.l _ (length c.args.xs.now) _ _ c.args.lanes.now c.copy_from_slice.new.self e (omega arith) (ap length is) (omega arith)
    (λ i _. ap (λ (ys : List ℕ). get_or ys i 0) is)
