use Rattle.std.proofs.Common.{arith}
use Rattle.formats.specs.Bytes.{low_bytes}
use Rattle.formats.specs.Field.{cells_bytes}
use Rattle.formats.proofs.Pieces.{writes_none, writes_next}
use Rattle.formats.proofs.packed.put_cells.Goals as goal

pub loop-cell-init : goal.loop-cell-init
unfolding cells_bytes
loop-cell-init c = record { wrote = writes_none _ (omega arith); at = omega arith }

pub loop-cell-preserved : goal.loop-cell-preserved
unfolding cells_bytes
loop-cell-preserved c =
    record {
      wrote = writes_next (low_bytes 4) _ _ _ c.args.cells.now c.loop-cell.cell-index (omega arith) c.loop-cell.invariant.wrote (rw c.from.ensures at c.put_low.ensures.wrote);
      at = omega arith;
    }
