-- What was printed is read again.
use Rattle.std.specs.Prelude.{◌≡◌, ℕ, ◌<◌, List, Ok, slice_index}
use Rattle.formats.specs.declared.told.Told.TheVariants.{Field}
use Rattle.formats.specs.Printed.{printed}
use Rattle.cells.specs.Scan.{cells_in}

-- The cells in what is printed of a field are the field's cells.
unfoldable pub PrintedBack : Type 0
PrintedBack = (cs : List ℕ) → ((k : ℕ) → slice_index cs k < 4294967296) → cells_in (printed Field cs) ≡ Ok cs
