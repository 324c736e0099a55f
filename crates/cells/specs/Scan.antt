-- Cells in a text, byte by byte.
use Rattle.std.specs.Prelude.{ℕ, ◌+◌, ◌-◌, ◌*◌, Bool, true, false, cond, not, ◌&&◌, ◌||◌, List, [], ◌∷◌, drop, codes, None, Option, Some, Ok, Err, Result, ◌==◌, nat_le}
use Rattle.std.specs.List.{starts_with}
use Rattle.cells.specs.declared.scan.Base.{Base}
use Rattle.cells.specs.declared.scan.Base.TheVariants.{Decimal, Hex}
use Rattle.cells.specs.declared.scan.Part.{Part}
use Rattle.cells.specs.declared.scan.Next.{Next}
use Rattle.cells.specs.declared.scan.Next.TheVariants.{On, Whole}

-- White space: a space, byte 10, 13 or 9.
abbrev pub is_white : ℕ → Bool
is_white c = c == 32 || (c == 10 || (c == 13 || c == 9))

abbrev pub base_of : Base → ℕ
base_of Decimal = 10
base_of Hex = 16

abbrev pub is_hex : Base → Bool
is_hex Decimal = false
is_hex Hex = true

-- What a byte means as a digit: 0 to 9, and a to f in hexadecimal.
abbrev pub digit_of : Base → ℕ → Option ℕ
digit_of base c = cond (nat_le 48 c && nat_le c 57) (Some (c - 48)) (cond (is_hex base && (nat_le 97 c && nat_le c 102)) (Some (c - 87)) None)

-- A digit goes on with a number, while it is below 2^32.
abbrev pub with_digit : Base → Part → Option ℕ → Option Next
with_digit base p None = None
with_digit base p (Some d) =
    cond (nat_le 4294967296 (p.value * base_of base + d)) None (Some (On (record { value = p.value * base_of base + d; digits = p.digits + 1 })))

-- One more byte. White space ends a number, which in hexadecimal has eight digits; a digit goes on with it; no other byte can stand there.
abbrev pub step_as : Base → Part → ℕ → Option Next
step_as base p c =
    cond (is_white c)
    (cond (p.digits == 0) (Some (On p)) (cond (is_hex base && not (p.digits == 8)) None (Some (Whole p.value))))
    (with_digit base p (digit_of base c))

abbrev pub between_words : Part
between_words = record { value = 0; digits = 0 }

unfoldable pub with_cell : ℕ → Result (List ℕ) ℕ → Result (List ℕ) ℕ
with_cell v (Ok cs) = Ok (v ∷ cs)
with_cell v (Err i) = Err i

-- The cells from byte i on, or the first byte that can't stand there. The end of the text is as good as white space.
unfoldable pub cells_from : Base → Part → ℕ → List ℕ → Result (List ℕ) ℕ
cells_from base p i [] = elim (step_as base p 10) [ Some (On q) ↦ Ok [] | Some (Whole v) ↦ Ok (v ∷ []) | None ↦ Err i ]
cells_from base p i (c ∷ cs) =
    elim (step_as base p c) [ Some (On q) ↦ cells_from base q (i + 1) cs | Some (Whole v) ↦ with_cell v (cells_from base between_words (i + 1) cs) | None ↦ Err i ]

-- The text begins with the word that stands before printed cells.
abbrev pub begins_field_spec : List ℕ → Bool
begins_field_spec bs = starts_with (λ a b. a == b) bs (codes "field")

-- The cells in a text: hexadecimal behind the word field, else decimal.
unfoldable pub cells_in : List ℕ → Result (List ℕ) ℕ
cells_in bs = cond (begins_field_spec bs) (cells_from Hex between_words 5 (drop 5 bs)) (cells_from Decimal between_words 0 bs)
