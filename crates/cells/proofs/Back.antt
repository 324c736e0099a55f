-- Printed cells are read as those cells.
use Rattle.std.proofs.Common.{◌≡◌, ℕ, suc, ◌+◌, ◌*◌, ◌/◌, ◌%◌, ◌<◌, Bool, true, false, cond, ◌||◌, eqb, List, [], ◌∷◌, ◌++◌, length, get_or, Some, Ok, refl, ap, ◌∙◌, arith}
use Rattle.std.proofs.lemmas.List.{append_assoc}
use Rattle.std.proofs.lemmas.Bool.{lt-leb}
use Rattle.std.proofs.lemmas.Bool.Decides.{nat_tests}
use Rattle.formats.specs.Hex.{hex_digit, hex_two, hex_four, hex_eight}
use Rattle.formats.specs.Printed.{byte_behind, lines_from}
use Rattle.cells.specs.declared.scan.Part.{Part}
use Rattle.cells.specs.declared.scan.Base.TheVariants.{Hex}
use Rattle.cells.specs.declared.scan.Next.TheVariants.{On, Whole}
use Rattle.cells.specs.Scan.{step_as, is_white, digit_of, between_words, with_cell, cells_from, begins_field_spec}
use Rattle.cells.specs.Back.{PrintedBack}
use Rattle.cells.proofs.Ahead.{cons-is, nil_is, onward, in-hex}

abbrev at_part : ℕ → ℕ → Part
at_part v d = record { value = v; digits = d }

digit-back : (d : ℕ) → d < 16 → digit_of Hex (hex_digit d) ≡ Some d
digit-back d h = grind (arith, nat_tests)

digit-black : (d : ℕ) → d < 16 → is_white (hex_digit d) ≡ false
digit-black d h = grind (arith, nat_tests)

-- A digit goes on with the number.
next-digit : (x v n d : ℕ) → is_white x ≡ false → digit_of Hex x ≡ Some d → d < 16 → v * 16 + d < 4294967296 → step_as Hex (at_part v n) x ≡ Some (On (at_part (v * 16 + d) (n + 1)))
next-digit x v n d w e h s = rw (w, e, lt-leb 4294967296 (v * 16 + d) s)

from-digit : (v n d i : ℕ) (cs : List ℕ) → d < 16 → v * 16 + d < 4294967296
    → cells_from Hex (at_part v n) i (hex_digit d ∷ cs) ≡ cells_from Hex (at_part (v * 16 + d) (n + 1)) (i + 1) cs
from-digit v n d i cs h s =
    cons-is Hex (at_part v n) i (hex_digit d) cs ∙ ap (onward Hex i cs) (next-digit (hex_digit d) v n d (digit-black d h) (digit-back d h) h s)

same_place : (v w m n i j : ℕ) (cs : List ℕ) → v ≡ w → m ≡ n → i ≡ j → cells_from Hex (at_part v m) i cs ≡ cells_from Hex (at_part w n) j cs
same_place v w m n i j cs p q r = rw (p, q, r)

from-two : (v n b i : ℕ) (cs : List ℕ) → b < 256 → v * 256 + b < 4294967296
    → cells_from Hex (at_part v n) i (hex_two b ++ cs) ≡ cells_from Hex (at_part (v * 256 + b) (n + 2)) (i + 2) cs
from-two v n b i cs h s =
    from-digit v n (b / 16) i (hex_digit (b % 16) ∷ cs) (omega arith) (omega arith)
    ∙ from-digit (v * 16 + b / 16) (n + 1) (b % 16) (i + 1) cs (omega arith) (omega arith)
    ∙ same_place ((v * 16 + b / 16) * 16 + b % 16) (v * 256 + b) (n + 1 + 1) (n + 2) (i + 1 + 1) (i + 2) cs (omega arith) (omega arith) (omega arith)

from-four : (v n w i : ℕ) (cs : List ℕ) → w < 65536 → v * 65536 + w < 4294967296
    → cells_from Hex (at_part v n) i (hex_four w ++ cs) ≡ cells_from Hex (at_part (v * 65536 + w) (n + 4)) (i + 4) cs
from-four v n w i cs h s =
    from-two v n (w / 256) i (hex_two (w % 256) ++ cs) (omega arith) (omega arith)
    ∙ from-two (v * 256 + w / 256) (n + 2) (w % 256) (i + 2) cs (omega arith) (omega arith)
    ∙ same_place ((v * 256 + w / 256) * 256 + w % 256) (v * 65536 + w) (n + 2 + 2) (n + 4) (i + 2 + 2) (i + 4) cs (omega arith) (omega arith) (omega arith)

from-eight : (c i : ℕ) (cs : List ℕ) → c < 4294967296 → cells_from Hex between_words i (hex_eight c ++ cs) ≡ cells_from Hex (at_part c 8) (i + 8) cs
unfolding hex_eight
from-eight c i cs h =
    from-four 0 0 (c / 65536) i (hex_four (c % 65536) ++ cs) (omega arith) (omega arith)
    ∙ from-four (0 * 65536 + c / 65536) (0 + 4) (c % 65536) (i + 4) cs (omega arith) (omega arith)
    ∙ same_place ((0 * 65536 + c / 65536) * 65536 + c % 65536) c (0 + 4 + 4) 8 (i + 4 + 4) (i + 8) cs (omega arith) (omega arith) (omega arith)

next-white : (x v : ℕ) → is_white x ≡ true → step_as Hex (at_part v 8) x ≡ Some (Whole v)
next-white x v w = rw w

from-white : (c i x : ℕ) (cs : List ℕ) → is_white x ≡ true → cells_from Hex (at_part c 8) i (x ∷ cs) ≡ with_cell c (cells_from Hex between_words (i + 1) cs)
from-white c i x cs w = cons-is Hex (at_part c 8) i x cs ∙ ap (onward Hex i cs) (next-white x c w)

either-white : (b : Bool) → is_white (cond b 10 32) ≡ true
either-white true = refl
either-white false = refl

behind-white : (n i : ℕ) → is_white (byte_behind n i) ≡ true
unfolding byte_behind
behind-white n i = either-white (eqb (i + 1) n || eqb (i % 8) 7)

with-ok : (c : ℕ) (cs : List ℕ) → with_cell c (Ok cs) ≡ Ok (c ∷ cs)
unfolding with_cell
with-ok c cs = refl

lines-back : (n j i : ℕ) (cs : List ℕ) → ((k : ℕ) → get_or cs k 0 < 4294967296) → cells_from Hex between_words i (lines_from n j cs) ≡ Ok cs
unfolding lines_from
lines-back n j i [] small = nil_is Hex between_words i
lines-back n j i (c ∷ cs) small =
    ap (cells_from Hex between_words i) (append_assoc (hex_eight c) (byte_behind n j ∷ []) (lines_from n (j + 1) cs))
    ∙ from-eight c i (byte_behind n j ∷ lines_from n (j + 1) cs) (small 0)
    ∙ from-white c (i + 8) (byte_behind n j) (lines_from n (j + 1) cs) (behind-white n j)
    ∙ ap (with_cell c) (lines-back n (j + 1) (i + 8 + 1) cs (λ k. small (suc k)))
    ∙ with-ok c cs

begins : (xs : List ℕ) → begins_field_spec (102 ∷ 105 ∷ 101 ∷ 108 ∷ 100 ∷ 10 ∷ xs) ≡ true
begins xs = refl

pub printed-back : PrintedBack
unfolding PrintedBack
printed-back cs small =
    in-hex (102 ∷ 105 ∷ 101 ∷ 108 ∷ 100 ∷ 10 ∷ lines_from (length cs) 0 cs) (begins (lines_from (length cs) 0 cs))
    ∙ cons-is Hex between_words 5 10 (lines_from (length cs) 0 cs) ∙ lines-back (length cs) 0 (5 + 1) cs small
