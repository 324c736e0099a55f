use Rattle.std.proofs.Common.{arith}
use Rattle.std.proofs.lemmas.List.Edits.{fill_by_more}
use Rattle.std.proofs.lemmas.List.FromFn.{fill_by_all}
use Rattle.formats.specs.Field.{cell_at, cells_read}
use Rattle.formats.proofs.field.copy_cells.Goals as goal

pub loop-i-preserved : goal.loop-i-preserved
unfolding cell_at
loop-i-preserved c = rw c.number.ensures.value (fill_by_more (cell_at c.args.bytes.now) c.loop-i.out c.loop-i.i 0 (omega arith) c.loop-i.invariant)

pub returns : goal.returns
unfolding cells_read
returns c = fill_by_all (cell_at c.args.bytes.now) c.loop-i.out _ 0 (omega arith) (λ k h. c.loop-i.invariant k (omega arith))
