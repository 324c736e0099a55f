-- The bytes that are printed of what is told, and of a refusal.
use Rattle.std.specs.Prelude.{◌≡◌, ℕ, ◌+◌, ◌%◌, ◌<◌, ◌≤◌, cond, ◌||◌, List, [], ◌∷◌, ◌++◌, length, Ok, Err, codes, decimal, Result, ◌==◌}
use Rattle.formats.specs.Hex.{hex_eight}
use Rattle.formats.specs.Wrote.{Wrote}
use Rattle.formats.specs.declared.refusal.Refusal.{Refusal}
use Rattle.formats.specs.declared.refusal.Refusal.TheVariants.{Short}
use Rattle.formats.specs.declared.refusal.Lent.TheVariants.{Printed}
use Rattle.formats.specs.declared.told.Place.{Place}
use Rattle.formats.specs.declared.told.Place.TheVariants as place
use Rattle.formats.specs.declared.told.Touch.{Touch}
use Rattle.formats.specs.declared.told.Told.{Told}
use Rattle.formats.specs.declared.told.Told.TheVariants.{Field, Race, Wrong, Stuck, TooLong}

-- Behind cell i of n: byte 10 at the end of a line, which is behind every eighth cell and the last one; else a space.
unfoldable pub byte_behind : ℕ → ℕ → ℕ
byte_behind n i = cond (i + 1 == n || i % 8 == 7) 10 32

-- Cells from number i on, of n: eight digits each.
unfoldable pub lines_from : ℕ → ℕ → List ℕ → List ℕ
lines_from n i [] = []
lines_from n i (c ∷ cs) = (hex_eight c ++ (byte_behind n i ∷ [])) ++ lines_from n (i + 1) cs

-- A word or more, then a number.
abbrev pub with_number : List ℕ → ℕ → List ℕ
with_number ws n = ws ++ decimal n

unfoldable pub touch_words : Touch → List ℕ
touch_words t =
    with_number (codes " group ") t.group
    ++ (with_number (codes " lane ") t.lane ++ (with_number (codes " phase ") t.phase ++ cond t.wrote (codes " wrote") (codes " read")))

abbrev pub place_words : Place → List ℕ
place_words place.Field = codes "race field "
place_words place.Cell = codes "race cell "

abbrev pub line_end_spec : List ℕ
line_end_spec = 10 ∷ []

-- A race, by two touches of one cell.
unfoldable pub race_line : Place → ℕ → Touch → Touch → List ℕ
race_line place cell first second = with_number (place_words place) cell ++ (touch_words first ++ (touch_words second ++ line_end_spec))

unfoldable pub wrong_line : ℕ → ℕ → List ℕ
wrong_line group lane = with_number (codes "wrong group ") group ++ (with_number (codes " lane ") lane ++ line_end_spec)

unfoldable pub stuck_line : ℕ → List ℕ
stuck_line group = with_number (codes "stuck group ") group ++ line_end_spec

-- What is printed of what is told, with the cells of the field.
abbrev pub printed : Told → List ℕ → List ℕ
printed Field cs = (codes "field" ++ line_end_spec) ++ lines_from (length cs) 0 cs
printed (Race place cell first second) cs = race_line place cell first second
printed (Wrong group lane) cs = wrong_line group lane
printed (Stuck group) cs = stuck_line group
printed TooLong cs = codes "too long" ++ line_end_spec

-- What is printed of a refusal.
unfoldable pub refusal_line : ℕ → ℕ → List ℕ
refusal_line number place = with_number (codes "refused ") number ++ (with_number (codes " at ") place ++ line_end_spec)

-- ws is printed at the front of the lent bytes if `room` of them are there; else that is refused, and nothing is changed.
abbrev pub Prints : (room : ℕ) (ws before after : List ℕ) → Result ℕ Refusal → Type 0
Prints room ws before after (Ok n) = (room ≤ length before) × Wrote before after 0 n ws
Prints room ws before after (Err e) = (length before < room) × (e ≡ Short Printed) × (after ≡ before)
