use Rattle.std.proofs.Common.{◌≡◌, ◌+◌, ◌*◌, take}
use Rattle.formats.specs.Wrote.{Writes}
use Rattle.formats.specs.Field.{cells_bytes}
use Rattle.formats.proofs.packed.put_cells.Given as goal

abbrev pub invariant-loop-cell : goal.invariant-loop-cell
invariant-loop-cell l =
    record { wrote : Writes l.initial.pen l.pen (cells_bytes (take l.cell-index l.cells)); at : l.pen.at ≡ l.initial.pen.at + 4 * l.cell-index }
