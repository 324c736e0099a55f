-- Steps of the loops that copy a text.
use Rattle.std.proofs.Common.{◌≡◌, ℕ, zero, suc, ◌+◌, ◌-◌, ◌<◌, ◌≤◌, Bool, true, false, cond, ◌&&◌, eqb, leb, List, [], ◌∷◌, ◌++◌, length, get_or, take, drop, set, codes, sym, refl, ap, ◌∙◌, not-suc-le-zero, arith}
use Rattle.std.specs.List.{prefix_len}
use Rattle.std.specs.Cmp.Lexicographic.{pointwise}
use Rattle.std.proofs.lemmas.List.{append_assoc, append-nil, get_or-drop, take_more_set}
use Rattle.std.proofs.lemmas.Bool.{eq-eqb, ne_eqb, le-leb, lt-leb, and_parts, both_ways}
use Rattle.std.proofs.lemmas.Bool.Decides.{nat_tests}
use Rattle.grammar.specs.Spelling.{digit, word_byte}
use Rattle.writer.specs.Copy.{begins, zeros, empty_else, left_out, zero_led, copied, copy}

-- what the library says of a front, in the words of Copy
pub begins-is : (p t : List ℕ) → pointwise eqb p (take (length p) t) ≡ begins p t
unfolding begins
begins-is [] t = refl
begins-is (b ∷ p) [] = refl
begins-is (b ∷ p) (c ∷ t) = ap (λ (v : Bool). eqb b c && v) (begins-is p t)

eqb-sym : (a b : ℕ) → eqb a b ≡ eqb b a
eqb-sym a b = grind (arith, nat_tests)

pub begins-stripped : (p t : List ℕ) → pointwise eqb (take (length p) t) p ≡ begins p t
unfolding begins
begins-stripped [] t = refl
begins-stripped (b ∷ p) [] = refl
begins-stripped (b ∷ p) (c ∷ t) = rw (begins-stripped p t) (ap (λ (v : Bool). v && begins p t) (eqb-sym c b))

pub zeros-are : (t : List ℕ) → prefix_len (λ (b : ℕ). eqb b 48) t ≡ zeros t
unfolding zeros
zeros-are [] = refl
zeros-are (b ∷ t) = ap (λ (n : ℕ). cond (eqb b 48) n 0) (omega (arith, zeros-are t))

-- what is left out where a line begins
pub left-else : (t : List ℕ) → true ≡ begins empty_else t → 5 ≡ left_out t
unfolding left_out
left-else t e = rw (← e)

pub left-none : (t : List ℕ) → false ≡ begins empty_else t → false ≡ begins (codes "cells ") t → 0 ≡ left_out t
unfolding left_out
left-none t e f = rw (← e, ← f)

module _ (t cells : List ℕ) (z : ℕ) (e : false ≡ begins empty_else t) (here : begins (codes "cells ") t ≡ true) (is : cells ≡ drop 6 t) (many : z ≡ zeros cells) where
  there : get_or t (6 + zeros (drop 6 t)) 0 ≡ get_or cells z 0
  there = rw (← is, ← many) (sym (get_or-drop 6 t z 0) ∙ ap (λ (l : List ℕ). get_or l z 0) (sym is))

  counted : zeros (drop 6 t) ≡ z
  counted = rw (← is) (sym many)

  pub left-cells : 1 ≤ z → get_or cells z 0 ≡ 10 → 7 + z ≡ left_out t
  unfolding left_out
  left-cells h g = rw (← e, here, there, counted, le-leb 1 z h, eq-eqb (get_or cells z 0) 10 g)

  pub left-other : (get_or cells z 0 ≡ 10 → ⊥) → 0 ≡ left_out t
  unfolding left_out
  left-other h = rw (← e, here, there, counted, ne_eqb (get_or cells z 0) 10 h) (cond-none (leb 1 z))
    where
      cond-none : (b : Bool) → 0 ≡ cond {A = ℕ} (b && false) (7 + z) 0
      cond-none true = refl
      cond-none false = refl

  pub left-few : z ≤ 0 → 0 ≡ left_out t
  unfolding left_out
  left-few h = rw (← e, here, counted, lt-leb 1 z (omega arith))

-- one byte left out, a zero that leads, and one byte copied
pub copied-left : (t : List ℕ) (k b : ℕ) (w : Bool) → 0 < k → copied (k - 1) w t ≡ copied k w (b ∷ t)
unfolding copied
copied-left t zero b w p = absurd (not-suc-le-zero p)
copied-left t (suc k) b w p = ap (λ (j : ℕ). copied j w t) (less-one k)
  where
    less-one : (k : ℕ) → suc k - 1 ≡ k
    less-one k = omega arith

pub copied-zero : (t : List ℕ) (k b : ℕ) (w : Bool) → k ≤ 0 → true ≡ zero_led w b (get_or t 0 0) → copied k w t ≡ copied k w (b ∷ t)
unfolding copied
copied-zero t zero b false p e = let q = and_parts (eqb b 48) (digit (get_or t 0 0)) (sym e) in rw (q.0, q.1)
copied-zero t zero b true p e = absurd (both_ways false refl (sym e))
copied-zero t (suc k) b w p e = absurd (not-suc-le-zero p)

pub copied-byte : (ws t : List ℕ) (n k b : ℕ) (w : Bool) → n < length ws → k ≤ 0 → false ≡ zero_led w b (get_or t 0 0) →
    take (n + 1) (set ws n b) ++ copied (cond (eqb b 10) (left_out t) 0) (word_byte b) t ≡ take n ws ++ copied k w (b ∷ t)
unfolding copied
copied-byte ws t n zero b w m p e = rw (take_more_set ws n b m, ← e) (append_assoc (take n ws) (b ∷ []) _)
copied-byte ws t n (suc k) b w m p e = absurd (not-suc-le-zero p)

pub copy-starts : (t : List ℕ) (k : ℕ) → k ≡ left_out t → copied k false t ≡ copy t
unfolding copy
copy-starts t k e = ap (λ (j : ℕ). copied j false t) e

pub copy-ends : (ws : List ℕ) (n k : ℕ) (w : Bool) → take n ws ++ copied k w [] ≡ take n ws
unfolding copied
copy-ends ws n k w = append-nil (take n ws)
