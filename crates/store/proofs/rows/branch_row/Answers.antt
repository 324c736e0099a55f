use Rattle.std.proofs.Common.{◌≡◌, length, arith, rules}
use Rattle.store.proofs.Written.{row_written}
use Rattle.store.proofs.rows.branch_row.Goals as goal

pub returns : goal.returns
returns c =
    let e = c.row_place-a.ensures.is in
    let within = c.row_place-a.ensures.within in
    let fit = c.requires.fit in
    let long : length c.choose.new.to ≡ (length c.args.xs.now) = search rules in
    row_written c.args.z c.args.g 0 c.args.l _ (length c.args.xs.now) _ _ c.args.lanes.now c.choose.new.to e (omega arith) long (omega arith) c.choose.ensures
