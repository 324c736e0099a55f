-- How a text is copied anew, byte by byte: without leading zeros, an else with nothing behind it, and a cells line that says 0.
-- What a reader must believe is in Written: the copy of a text that is taken is what its program is written as.
use Rattle.std.specs.Prelude.{ℕ, zero, suc, ◌+◌, Bool, true, false, cond, not, ◌&&◌, List, [], ◌∷◌, ◌++◌, drop, codes, ◌==◌, nat_le, slice_index}
use Rattle.grammar.specs.Spelling.{digit, word_byte}

-- t begins with p.
unfoldable pub begins : List ℕ → List ℕ → Bool
begins [] t = true
begins (b ∷ p) [] = false
begins (b ∷ p) (c ∷ t) = b == c && begins p t

-- How many zeros t begins with.
unfoldable pub zeros : List ℕ → ℕ
zeros [] = 0
zeros (b ∷ bs) = cond (b == 48) (suc (zeros bs)) 0

abbrev pub empty_else : List ℕ
empty_else = codes "else" ++ (10 ∷ (codes "end" ++ (10 ∷ [])))

-- How many bytes are left out where a line begins: an else that an end follows, or a line that says that there are 0 cells.
abbrev pub no_cells : List ℕ → Bool
no_cells t = begins (codes "cells ") t && (nat_le 1 (zeros (drop 6 t)) && slice_index t (6 + zeros (drop 6 t)) == 10)

unfoldable pub left_out : List ℕ → ℕ
left_out t = cond (begins empty_else t) 5 (cond (no_cells t) (7 + zeros (drop 6 t)) 0)

-- A zero that begins a word and has a digit behind it.
abbrev pub zero_led : Bool → ℕ → ℕ → Bool
zero_led inside b c = not inside && (b == 48 && digit c)

-- What is copied of t, where k more bytes are left out, inside a word or not.
unfoldable pub copied : ℕ → Bool → List ℕ → List ℕ
copied k inside [] = []
copied (suc k) inside (b ∷ bs) = copied k inside bs
copied zero inside (b ∷ bs) =
    cond (zero_led inside b (slice_index bs 0)) (copied 0 false bs) (b ∷ copied (cond (b == 10) (left_out bs) 0) (word_byte b) bs)

-- The copy of whole lines.
unfoldable pub copy : List ℕ → List ℕ
copy t = copied (left_out t) false t
