-- The number and the place of each refusal, as they are printed.
use Rattle.std.specs.Prelude.{ℕ}
use Rattle.formats.specs.declared.refusal.Refusal.{Refusal}
use Rattle.formats.specs.declared.refusal.Refusal.TheVariants.{Field, Short}
use Rattle.formats.specs.declared.refusal.Lent.{Lent}
use Rattle.formats.specs.declared.refusal.Lent.TheVariants.{Steps, Lanes, Cells, Touches, Printed}

-- A field's bytes are refused with 5, lent slices that are too short with 6.
abbrev pub number_of : Refusal → ℕ
number_of (Field at) = 5
number_of (Short l) = 6

-- The slices have the places 0 to 4.
abbrev pub slice_place : Lent → ℕ
slice_place Steps = 0
slice_place Lanes = 1
slice_place Cells = 2
slice_place Touches = 3
slice_place Printed = 4

abbrev pub place_of : Refusal → ℕ
place_of (Field at) = at
place_of (Short l) = slice_place l
