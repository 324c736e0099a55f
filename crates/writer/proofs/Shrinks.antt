-- Written anew, no line grows and no line is added.
use Rattle.std.proofs.Common.{◌≡◌, ℕ, suc, ◌+◌, ◌≤◌, Bool, true, false, not, eqb, ltb, List, [], ◌∷◌, ◌++◌, length, refl, arith}
use Rattle.std.proofs.lemmas.List.{append_assoc}
use Rattle.std.proofs.lemmas.Bool.{and_parts, and_from, lt-ltb, ltb-true, not-true}
use Rattle.grammar.specs.Spelling.{each_byte}
use Rattle.grammar.specs.Taken.{lines_in, lines_within}
use Rattle.grammar.proofs.Bytewise.{lines-append}

-- no byte 10
abbrev pub plain : ℕ → Bool
plain b = not (eqb b 10)

not-ten : (b : ℕ) → plain b ≡ true → eqb b 10 ≡ false
not-ten b e = not-true (eqb b 10) e

pub lines-plain : (u : List ℕ) → each_byte plain u ≡ true → lines_in u ≡ 0
unfolding lines_in each_byte
lines-plain [] e = refl
lines-plain (b ∷ u) e = let s = and_parts (plain b) (each_byte plain u) e in rw (not-ten b s.0, lines-plain u s.1)

-- a line of bytes u is within m exactly if it has at most m in all
short-out : (m k : ℕ) (u z : List ℕ) → each_byte plain u ≡ true → lines_within m k (u ++ (10 ∷ z)) ≡ true → k ≤ m → (k + length u ≤ m) × (lines_within m 0 z ≡ true)
unfolding lines_within each_byte
short-out m k [] z e s h = (omega arith, s)
short-out m k (b ∷ u) z e s h =
    let p = and_parts (plain b) (each_byte plain u) e in
    let q = and_parts (ltb k m) (lines_within m (suc k) (u ++ (10 ∷ z))) (rw (not-ten b p.0) at s) in
    let l = ltb-true k m q.0 in
    let r = short-out m (suc k) u z p.1 q.1 l in (omega (arith, r.0), r.1)

short-in : (m k : ℕ) (u z : List ℕ) → each_byte plain u ≡ true → k + length u ≤ m → lines_within m 0 z ≡ true → lines_within m k (u ++ (10 ∷ z)) ≡ true
unfolding lines_within each_byte
short-in m k [] z e h s = s
short-in m k (b ∷ u) z e h s =
    let p = and_parts (plain b) (each_byte plain u) e in
    rw (not-ten b p.0) (and_from (ltb k m) (lines_within m (suc k) (u ++ (10 ∷ z))) (lt-ltb k m (omega arith)) (short-in m (suc k) u z p.1 (omega arith) s))

-- the whole lines t may be replaced by t'
pub record Shrinks (t t' : List ℕ) : Type 0 where
  pub fewer : lines_in t' ≤ lines_in t
  pub short : (m : ℕ) (w w' : List ℕ) → (lines_within m 0 w ≡ true → lines_within m 0 w' ≡ true) → lines_within m 0 (t ++ w) ≡ true → lines_within m 0 (t' ++ w') ≡ true

pub shrinks-none : Shrinks [] []
shrinks-none = record { fewer = omega arith; short = λ m w w' f s. f s }

pub shrinks-both : (t t' u u' : List ℕ) → Shrinks t t' → Shrinks u u' → Shrinks (t ++ u) (t' ++ u')
shrinks-both t t' u u' p q = record {
  fewer = rw (lines-append t u, lines-append t' u') (omega (arith, p.fewer, q.fewer));
  short = λ m w w' f s. rw (append_assoc t' u' w') (p.short m (u ++ w) (u' ++ w') (q.short m w w' f) (rw (append_assoc t u w) at s));
}

-- one line, and what is behind it
pub shrinks-line : (u u' t t' : List ℕ) → each_byte plain u ≡ true → each_byte plain u' ≡ true → length u' ≤ length u → Shrinks t t' → Shrinks (u ++ (10 ∷ t)) (u' ++ (10 ∷ t'))
unfolding lines_in
shrinks-line u u' t t' e e' h p = record {
  fewer = rw (lines-append u (10 ∷ t), lines-append u' (10 ∷ t'), lines-plain u e, lines-plain u' e') (omega (arith, p.fewer));
  short = λ m w w' f s.
      let r = short-out m 0 u (t ++ w) e (rw (append_assoc u (10 ∷ t) w) at s) (omega arith) in
      rw (append_assoc u' (10 ∷ t') w') (short-in m 0 u' (t' ++ w') e' (omega (arith, r.0)) (p.short m w w' f r.1));
}

-- a line that is left out
pub shrinks-away : (u t t' : List ℕ) → each_byte plain u ≡ true → Shrinks t t' → Shrinks (u ++ (10 ∷ t)) t'
unfolding lines_in
shrinks-away u t t' e p = record {
  fewer = rw (lines-append u (10 ∷ t), lines-plain u e) (omega (arith, p.fewer));
  short = λ m w w' f s. let r = short-out m 0 u (t ++ w) e (rw (append_assoc u (10 ∷ t) w) at s) (omega arith) in p.short m w w' f r.1;
}
