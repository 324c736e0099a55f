use Rattle.std.proofs.Common.{◌≡◌, ◌+◌, ◌*◌, length, take}
use Rattle.formats.specs.Wrote.{Writes}
use Rattle.formats.specs.Printed.{lines_from}
use Rattle.formats.proofs.print.put_cells.Given as goal

abbrev pub invariant-loop-i : goal.invariant-loop-i
invariant-loop-i l =
    record { wrote : Writes l.initial.pen l.pen (lines_from (length l.cells) 0 (take l.i l.cells)); at : l.pen.at ≡ l.initial.pen.at + 9 * l.i }
