-- Lines and their lengths: what is spelled in a line has no byte 10.
use Rattle.std.proofs.Common.{◌≡◌, ℕ, suc, ◌+◌, ◌<◌, ◌≤◌, true, false, cond, eqb, ◌⊎◌, List, [], ◌∷◌, ◌++◌, length, drop, refl, ap, ◌∙◌, inl, inr, arith}
use Rattle.std.proofs.lemmas.Bool.{and_parts, lt-ltb, cases_Bool}
use Rattle.std.proofs.lemmas.Bool.Decides.{nat_tests}
use Rattle.lanes.specs.Syntax.{Expr, fixed, var, lane, group, lanes, plus, minus, times, over, rest_of, less, same}
use Rattle.grammar.specs.Spelling.{digit, word_byte, each_byte, IsName, infix_of, SpellsExpr}
use Rattle.grammar.specs.Taken.{lines_in, lines_within}

pub lines-append : (u v : List ℕ) → lines_in (u ++ v) ≡ lines_in u + lines_in v
unfolding lines_in
lines-append [] v = omega arith
lines-append (b ∷ u) v = omega (arith, lines-append u v)

pub lines_cons : (b : ℕ) (u : List ℕ) → eqb b 10 ≡ false → lines_in (b ∷ u) ≡ lines_in u
unfolding lines_in
lines_cons b u h = rw h (omega arith)

pub lines_end : (z : List ℕ) → lines_in (10 ∷ z) ≡ suc (lines_in z)
unfolding lines_in
lines_end z = omega arith

pub lines-nil : lines_in [] ≡ 0
unfolding lines_in
lines-nil = refl

word-no-end : (b : ℕ) → word_byte b ≡ true → eqb b 10 ≡ false
word-no-end b h = grind (arith, nat_tests)

pub word-lines : (u : List ℕ) → each_byte word_byte u ≡ true → lines_in u ≡ 0
unfolding each_byte
word-lines [] h = lines-nil
word-lines (b ∷ u) h = let p = and_parts (word_byte b) (each_byte word_byte u) h in lines_cons b u (word-no-end b p.0) ∙ word-lines u p.1

digit-word : (b : ℕ) → digit b ≡ true → word_byte b ≡ true
digit-word b h = grind (arith, nat_tests)

digits-word : (u : List ℕ) → each_byte digit u ≡ true → each_byte word_byte u ≡ true
unfolding each_byte
digits-word [] h = refl
digits-word (b ∷ u) h = let p = and_parts (digit b) (each_byte digit u) h in rw (digit-word b p.0, digits-word u p.1) refl

pub digit-lines : (u : List ℕ) → each_byte digit u ≡ true → lines_in u ≡ 0
digit-lines u h = word-lines u (digits-word u h)

infix-lines : (u v t : List ℕ) (op : ℕ) → eqb op 10 ≡ false → lines_in u ≡ 0 → lines_in v ≡ 0 → t ≡ infix_of u op v → lines_in t ≡ 0
infix-lines u v t op o p q e =
    ap lines_in e
    ∙ omega (
      arith,
      lines_cons 40 (u ++ (32 ∷ op ∷ 32 ∷ (v ++ (41 ∷ [])))) refl,
      lines-append u (32 ∷ op ∷ 32 ∷ (v ++ (41 ∷ []))),
      lines_cons 32 (op ∷ 32 ∷ (v ++ (41 ∷ []))) refl,
      lines_cons op (32 ∷ (v ++ (41 ∷ []))) o,
      lines_cons 32 (v ++ (41 ∷ [])) refl,
      lines-append v (41 ∷ []),
      lines_cons 41 [] refl,
      lines-nil,
      p,
      q,
    )

module _ (N : ℕ → List ℕ → Type 0) (named : (k : ℕ) (u : List ℕ) → N k u → IsName u) where
  pub expr-lines : (e : Expr) (u : List ℕ) → SpellsExpr N e u → lines_in u ≡ 0
  unfolding SpellsExpr lines_in
  expr-lines (fixed a) u s = digit-lines u s.bytes
  expr-lines (var k) u s = word-lines u (named k u s).bytes
  expr-lines lane u s = ap lines_in s
  expr-lines group u s = ap lines_in s
  expr-lines lanes u s = ap lines_in s
  expr-lines (plus e f) t s = infix-lines s.0 s.1 t 43 refl (expr-lines e s.0 s.2) (expr-lines f s.1 s.3) s.4
  expr-lines (minus e f) t s = infix-lines s.0 s.1 t 45 refl (expr-lines e s.0 s.2) (expr-lines f s.1 s.3) s.4
  expr-lines (times e f) t s = infix-lines s.0 s.1 t 42 refl (expr-lines e s.0 s.2) (expr-lines f s.1 s.3) s.4
  expr-lines (over e f) t s = infix-lines s.0 s.1 t 47 refl (expr-lines e s.0 s.2) (expr-lines f s.1 s.3) s.4
  expr-lines (rest_of e f) t s = infix-lines s.0 s.1 t 37 refl (expr-lines e s.0 s.2) (expr-lines f s.1 s.3) s.4
  expr-lines (less e f) t s = infix-lines s.0 s.1 t 60 refl (expr-lines e s.0 s.2) (expr-lines f s.1 s.3) s.4
  expr-lines (same e f) t s = infix-lines s.0 s.1 t 61 refl (expr-lines e s.0 s.2) (expr-lines f s.1 s.3) s.4

cases : (b : ℕ) → (eqb b 10 ≡ true) ⊎ (eqb b 10 ≡ false)
cases b = cases_Bool (eqb b 10)

-- a short line in front
no_end : (b : ℕ) (u : List ℕ) → lines_in (b ∷ u) ≡ 0 → (eqb b 10 ≡ false) × (lines_in u ≡ 0)
unfolding lines_in
no_end b u h = elim (cases b) [ inl p ↦ absurd (let q : ◌≡◌ {A = ℕ} (cond (eqb b 10) 1 0) 1 = rw p refl in omega (arith, q, h)) | inr p ↦ let q : ◌≡◌ {A = ℕ} (cond (eqb b 10) 1 0) 0 = rw p refl in (p, omega (arith, q, h)) ]

short-step : (k b : ℕ) (u : List ℕ) → eqb b 10 ≡ false → k < 1024 → lines_within 1024 k (b ∷ u) ≡ lines_within 1024 (suc k) u
unfolding lines_within
short-step k b u h l = rw (h, lt-ltb k 1024 l) refl

short-end : (k : ℕ) (z : List ℕ) → lines_within 1024 k (10 ∷ z) ≡ lines_within 1024 0 z
unfolding lines_within
short-end k z = refl

short-front : (w z : List ℕ) (k : ℕ) → lines_in w ≡ 0 → k + length w ≤ 1024 → lines_within 1024 k (w ++ (10 ∷ z)) ≡ lines_within 1024 0 z
short-front [] z k h l = short-end k z
short-front (b ∷ w) z k h l = let p = no_end b w h in short-step k b (w ++ (10 ∷ z)) p.0 (omega arith) ∙ short-front w z (suc k) p.1 (omega arith)

pub record OneLine (text : List ℕ) (i n : ℕ) : Type 0 where
  pub count : lines_in (drop i text) ≡ suc (lines_in (drop n text))
  pub short : lines_within 1024 0 (drop i text) ≡ lines_within 1024 0 (drop n text)

pub one_line : (text : List ℕ) (i n : ℕ) (w : List ℕ) → lines_in w ≡ 0 → length w ≤ 1024 → drop i text ≡ w ++ (10 ∷ drop n text) → OneLine text i n
one_line text i n w h l e =
    record { count = ap lines_in e ∙ omega (arith, lines-append w (10 ∷ drop n text), lines_end (drop n text), h); short = ap (λ t. lines_within 1024 0 t) e ∙ short-front w (drop n text) 0 h (omega arith) }
