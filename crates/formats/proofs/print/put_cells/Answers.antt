use Rattle.std.proofs.Common.{arith}
use Rattle.formats.proofs.Lines.{lines_none, lines_step}
use Rattle.formats.proofs.print.put_cells.Goals as goal

pub loop-i-init : goal.loop-i-init
loop-i-init c = record { wrote = lines_none _ _ (omega arith); at = omega arith }

pub loop-i-preserved : goal.loop-i-preserved
loop-i-preserved c =
    record {
      wrote =
          lines_step _ _ _ _ _ _ _ (omega arith) c.behind.ensures c.loop-i.invariant.wrote c.put_hex.ensures.wrote c.put.ensures;
      at = omega arith;
    }
