-- What a copy makes of words, expressions and lines.
use Rattle.std.proofs.Common.{◌≡◌, ℕ, ◌+◌, ◌-◌, ◌*◌, ◌<◌, ◌≤◌, Bool, true, false, ◌&&◌, eqb, List, [], ◌∷◌, ◌++◌, length, get_or, codes, decimal as digits_of, sym, refl, ap, ◌∙◌, inl, inr, not-suc-le-zero, arith}
use Rattle.std.proofs.lemmas.Fmt.{decimal-digits_value}
use Rattle.std.proofs.lemmas.List.{append_assoc}
use Rattle.std.proofs.lemmas.Bool.{and_parts, and_left, cases_Bool, both_ways, eqb-true, eqb-false}
use Rattle.std.proofs.lemmas.Bool.Decides.{nat_tests}
use Rattle.lanes.specs.Syntax.{Expr, fixed, var, lane, group, lanes, plus, minus, times, over, rest_of, less, same}
use Rattle.lanes.specs.Told.{ExprFits}
use Rattle.grammar.specs.Spelling.{letter, digit, word_byte, each_byte, same_bytes, decimal, infix_of, IsName, SpellsExpr, Named}
use Rattle.grammar.specs.Stands.{Apart}
use Rattle.grammar.proofs.Bytewise.{digit-word, apart-digit, word-no-end, digits-word}
use Rattle.writer.specs.Written.{written_expr}
use Rattle.writer.specs.Copy.{begins, copied, copy}
use Rattle.writer.proofs.Spelt.{own}

apart-no-zero : (b : ℕ) → word_byte b ≡ false → eqb b 48 ≡ false
apart-no-zero b e = grind (arith, nat_tests)

letter-no-zero : (b : ℕ) → letter b ≡ true → eqb b 48 ≡ false
letter-no-zero b e = grind (arith, nat_tests)

apart-word : (c b : ℕ) → word_byte c ≡ false → word_byte b ≡ true → eqb c b ≡ false
apart-word c b o w = grind (arith, nat_tests)

word-apart : (d b : ℕ) → word_byte d ≡ true → word_byte b ≡ false → eqb d b ≡ false
word-apart d b w o = grind (arith, nat_tests)

-- the rest of a word
pub copied-word : (u z : List ℕ) → each_byte word_byte u ≡ true → copied 0 true (u ++ z) ≡ u ++ copied 0 true z
unfolding copied each_byte
copied-word [] z e = refl
copied-word (b ∷ u) z e = let p = and_parts (word_byte b) (each_byte word_byte u) e in rw (word-no-end b p.0, p.0) (ap (λ (x : List ℕ). b ∷ x) (copied-word u z p.1))

pub copied-apart : (z : List ℕ) → Apart z → copied 0 true z ≡ copied 0 false z
unfolding copied
copied-apart [] a = refl
copied-apart (b ∷ z) a = rw (apart-no-zero b a)

-- a word that begins with no zero
first-copied : (b : ℕ) (u z : List ℕ) → eqb b 48 ≡ false → word_byte b ≡ true → each_byte word_byte u ≡ true → Apart z → copied 0 false (b ∷ (u ++ z)) ≡ b ∷ (u ++ copied 0 false z)
unfolding copied
first-copied b u z n w e a = rw (n, word-no-end b w, w) (ap (λ (x : List ℕ). b ∷ x) (copied-word u z e ∙ ap (λ (x : List ℕ). u ++ x) (copied-apart z a)))

pub copied-name : (u z : List ℕ) → IsName u → Apart z → copied 0 false (u ++ z) ≡ u ++ copied 0 false z
unfolding each_byte
copied-name [] z i a = absurd (not-suc-le-zero i.some)
copied-name (b ∷ u) z i a = let p = and_parts (word_byte b) (each_byte word_byte u) i.bytes in first-copied b u z (letter-no-zero b i.begins) p.0 p.1 a

-- a byte that is of no word and ends no line
pub copied-other : (b : ℕ) (z : List ℕ) → word_byte b ≡ false → eqb b 10 ≡ false → copied 0 false (b ∷ z) ≡ b ∷ copied 0 false z
unfolding copied
copied-other b z w n = rw (apart-no-zero b w, n, w)

-- a number loses its leading zeros
zero_more : (b : ℕ) (u z : List ℕ) → eqb b 48 ≡ true → digit (get_or (u ++ z) 0 0) ≡ true → copied 0 false (b ∷ (u ++ z)) ≡ copied 0 false (u ++ z)
unfolding copied
zero_more b u z e d = rw (e, d)

zero-last : (b : ℕ) (z : List ℕ) → word_byte b ≡ true → Apart z → copied 0 false (b ∷ z) ≡ b ∷ copied 0 false z
unfolding copied
zero-last b z w a = rw (apart-digit (get_or z 0 0) a, and_no (eqb b 48), word-no-end b w, w) (ap (λ (x : List ℕ). b ∷ x) (copied-apart z a))
  where
    and_no : (x : Bool) → (x && false) ≡ false
    and_no true = refl
    and_no false = refl

pub copied-number : (u z : List ℕ) → 1 ≤ length u → each_byte digit u ≡ true → decimal 0 u < 18446744073709551616 → Apart z → copied 0 false (u ++ z) ≡ digits_of (decimal 0 u) ++ copied 0 false z
unfolding each_byte decimal
copied-number [] z s d h a = absurd (not-suc-le-zero s)
copied-number (b ∷ []) z s d h a =
    let w = and_parts (digit b) true d in
    zero-last b z (digit-word b w.0) a ∙ ap (λ (x : List ℕ). x ++ copied 0 false z) (sym (decimal-digits_value own (b ∷ []) d (omega arith) (λ _. refl) h))
copied-number (b ∷ c ∷ u) z s d h a =
    let p = and_parts (digit b) (digit c && each_byte digit u) d in
    let q = and_parts (digit c) (each_byte digit u) p.1 in
    elim (cases_Bool (eqb b 48)) [
      | inl e ↦
          let is : b ≡ 48 = eqb-true b 48 e in
          let none : 0 * 10 + (b - 48) ≡ 0 = omega arith in
          let same : decimal (0 * 10 + (b - 48)) (c ∷ u) ≡ decimal 0 (c ∷ u) = ap (λ (x : ℕ). decimal x (c ∷ u)) none in
          zero_more b (c ∷ u) z e q.0 ∙ (copied-number (c ∷ u) z (omega arith) p.1 (rw same at h) a ∙ ap (λ (x : ℕ). digits_of x ++ copied 0 false z) (sym same))
      | inr e ↦
          first-copied b (c ∷ u) z e (digit-word b p.0) (digits-word (c ∷ u) p.1) a
          ∙ ap (λ (x : List ℕ). x ++ copied 0 false z) (sym (decimal-digits_value own (b ∷ c ∷ u) d (omega arith) (λ k. absurd (eqb-false b 48 e k)) h))
    ]

-- two parts with an operator between them
infix-copied : (t u v x y z : List ℕ) (b : ℕ) → word_byte b ≡ false → eqb b 10 ≡ false → t ≡ infix_of u b x → ((z : List ℕ) → Apart z → copied 0 false (u ++ z) ≡ v ++ copied 0 false z) →
    ((z : List ℕ) → Apart z → copied 0 false (x ++ z) ≡ y ++ copied 0 false z) → copied 0 false (t ++ z) ≡ infix_of v b y ++ copied 0 false z
infix-copied t u v x y z b w n q p r =
    let back : infix_of v b y ++ copied 0 false z ≡ 40 ∷ (v ++ (32 ∷ b ∷ 32 ∷ (y ++ (41 ∷ copied 0 false z)))) =
    rw (append_assoc v (32 ∷ b ∷ 32 ∷ (y ++ (41 ∷ []))) (copied 0 false z), append_assoc y (41 ∷ []) (copied 0 false z)) in
    let there : infix_of u b x ++ z ≡ 40 ∷ (u ++ (32 ∷ b ∷ 32 ∷ (x ++ (41 ∷ z)))) = rw (append_assoc u (32 ∷ b ∷ 32 ∷ (x ++ (41 ∷ []))) z, append_assoc x (41 ∷ []) z) in
    rw (
      q,
      back,
      there,
      copied-other 40 (u ++ (32 ∷ b ∷ 32 ∷ (x ++ (41 ∷ z)))) refl refl,
      p (32 ∷ b ∷ 32 ∷ (x ++ (41 ∷ z))) refl,
      copied-other 32 (b ∷ 32 ∷ (x ++ (41 ∷ z))) refl refl,
      copied-other b (32 ∷ (x ++ (41 ∷ z))) w n,
      copied-other 32 (x ++ (41 ∷ z)) refl refl,
      r (41 ∷ z) refl,
      copied-other 41 z refl refl,
    )

module _ (ns : List (List ℕ)) (names : (k : ℕ) → k < length ns → IsName (get_or ns k [])) where
  pub copied-own : (k : ℕ) (u z : List ℕ) → Named ns k u → Apart z → copied 0 false (u ++ z) ≡ get_or ns k [] ++ copied 0 false z
  copied-own k u z (h, q) a = rw q (copied-name (get_or ns k []) z (names k h) a)

  pub copied-expr : (e : Expr) (u z : List ℕ) → ExprFits (length ns) e → SpellsExpr (Named ns) e u → Apart z → copied 0 false (u ++ z) ≡ written_expr ns e ++ copied 0 false z
  unfolding ExprFits SpellsExpr written_expr each_byte
  copied-expr (fixed a) u z f s h = copied-number u z s.some s.bytes (omega (arith, s.value)) h ∙ ap (λ (x : ℕ). digits_of x ++ copied 0 false z) s.value
  copied-expr (var k) u z f s h = copied-own k u z s h
  copied-expr lane u z f s h = rw s (first-copied 108 (codes "ane") z refl refl refl h)
  copied-expr group u z f s h = rw s (first-copied 103 (codes "roup") z refl refl refl h)
  copied-expr lanes u z f s h = rw s (first-copied 108 (codes "anes") z refl refl refl h)
  copied-expr (plus e g) t z f (u, x, p, q, r) h = infix-copied t u (written_expr ns e) x (written_expr ns g) z 43 refl refl r (λ z. copied-expr e u z f.0 p) (λ z. copied-expr g x z f.1 q)
  copied-expr (minus e g) t z f (u, x, p, q, r) h = infix-copied t u (written_expr ns e) x (written_expr ns g) z 45 refl refl r (λ z. copied-expr e u z f.0 p) (λ z. copied-expr g x z f.1 q)
  copied-expr (times e g) t z f (u, x, p, q, r) h = infix-copied t u (written_expr ns e) x (written_expr ns g) z 42 refl refl r (λ z. copied-expr e u z f.0 p) (λ z. copied-expr g x z f.1 q)
  copied-expr (over e g) t z f (u, x, p, q, r) h = infix-copied t u (written_expr ns e) x (written_expr ns g) z 47 refl refl r (λ z. copied-expr e u z f.0 p) (λ z. copied-expr g x z f.1 q)
  copied-expr (rest_of e g) t z f (u, x, p, q, r) h = infix-copied t u (written_expr ns e) x (written_expr ns g) z 37 refl refl r (λ z. copied-expr e u z f.0 p) (λ z. copied-expr g x z f.1 q)
  copied-expr (less e g) t z f (u, x, p, q, r) h = infix-copied t u (written_expr ns e) x (written_expr ns g) z 60 refl refl r (λ z. copied-expr e u z f.0 p) (λ z. copied-expr g x z f.1 q)
  copied-expr (same e g) t z f (u, x, p, q, r) h = infix-copied t u (written_expr ns e) x (written_expr ns g) z 61 refl refl r (λ z. copied-expr e u z f.0 p) (λ z. copied-expr g x z f.1 q)

-- the end of a line
pub copied-line : (z : List ℕ) → copied 0 false (10 ∷ z) ≡ 10 ∷ copy z
unfolding copied copy
copied-line z = refl

-- t begins with the word w only if its own first word is w
pub begins-word : (w r a z : List ℕ) (c : ℕ) → each_byte word_byte w ≡ true → word_byte c ≡ false → each_byte word_byte a ≡ true → Apart z → same_bytes w a ≡ false → begins (w ++ (c ∷ r)) (a ++ z) ≡ false
unfolding begins each_byte same_bytes
begins-word [] r [] z c w o x h e = absurd (both_ways true e refl)
begins-word [] r (b ∷ a) z c w o x h e = and_left (eqb c b) (begins r (a ++ z)) (apart-word c b o (and_parts (word_byte b) (each_byte word_byte a) x).0)
begins-word (d ∷ w) r [] [] c p o x h e = refl
begins-word (d ∷ w) r [] (b ∷ z) c p o x h e = and_left (eqb d b) (begins (w ++ (c ∷ r)) z) (word-apart d b (and_parts (word_byte d) (each_byte word_byte w) p).0 h)
begins-word (d ∷ w) r (b ∷ a) z c p o x h e =
    elim (cases_Bool (eqb d b)) [
      | inl q ↦ rw q (begins-word w r a z c (and_parts (word_byte d) (each_byte word_byte w) p).1 o (and_parts (word_byte b) (each_byte word_byte a) x).1 h (rw q at e))
      | inr q ↦ and_left (eqb d b) (begins (w ++ (c ∷ r)) (a ++ z)) q
    ]
