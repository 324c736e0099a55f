-- Reading as a function of the bytes: what spells an expression or a body is read as it, so it is one at most.
use Rattle.std.proofs.Common.{◌≡◌, ℕ, zero, suc, ◌+◌, ◌≤◌, Bool, true, false, cond, eqb, List, [], ◌∷◌, ◌++◌, length, get_or, drop, codes, refl, ap, not-suc-le-zero, arith, lit≤}
use Rattle.std.proofs.lemmas.List.{append_assoc}
use Rattle.std.proofs.lemmas.Bool.{and_parts, or_parts}
use Rattle.std.proofs.lemmas.Bool.Decides.{nat_tests}
use Rattle.lanes.specs.Syntax.{Expr, fixed, var, lane, group, lanes, plus, minus, times, over, rest_of, less, same}
use Rattle.grammar.specs.Spelling.{letter, digit, word_byte, each_byte, same_bytes, one_of, keywords, IsName, decimal, IsNumber, infix_of, SpellsExpr}
use Rattle.grammar.specs.Stands.{Apart}
use Rattle.grammar.proofs.Bytewise.{digit-word, each_weaken}

-- the longest front of bytes that have f, and what is behind it
abbrev pub front : (ℕ → Bool) → List ℕ → List ℕ
front f [] = []
front f (b ∷ bs) = cond (f b) (b ∷ front f bs) []

abbrev pub back : (ℕ → Bool) → List ℕ → List ℕ
back f [] = []
back f (b ∷ bs) = cond (f b) (back f bs) (b ∷ bs)

front_none : (f : ℕ → Bool) (z : List ℕ) → f (get_or z 0 0) ≡ false → front f z ≡ []
front_none f [] h = refl
front_none f (b ∷ bs) h = rw h

back_none : (f : ℕ → Bool) (z : List ℕ) → f (get_or z 0 0) ≡ false → back f z ≡ z
back_none f [] h = refl
back_none f (b ∷ bs) h = rw h

pub front-run : (f : ℕ → Bool) (u z : List ℕ) → each_byte f u ≡ true → f (get_or z 0 0) ≡ false → front f (u ++ z) ≡ u
unfolding each_byte
front-run f [] z e h = front_none f z h
front-run f (b ∷ u) z e h = let p = and_parts (f b) (each_byte f u) e in rw p.0 (ap (λ (x : List ℕ). b ∷ x) (front-run f u z p.1 h))

pub back-run : (f : ℕ → Bool) (u z : List ℕ) → each_byte f u ≡ true → f (get_or z 0 0) ≡ false → back f (u ++ z) ≡ z
unfolding each_byte
back-run f [] z e h = back_none f z h
back-run f (b ∷ u) z e h = let p = and_parts (f b) (each_byte f u) e in rw p.0 (back-run f u z p.1 h)

-- an expression by the byte of its operator
abbrev made : ℕ → Expr → Expr → Expr
made b x y =
    cond (eqb b 43) (plus x y) (cond (eqb b 45) (minus x y) (cond (eqb b 42) (times x y) (cond (eqb b 47) (over x y) (cond (eqb b 37) (rest_of x y) (cond (eqb b 60) (less x y) (same x y))))))

-- how many fits of brackets a reading may go into
unfoldable pub height : Expr → ℕ
height (fixed a) = 1
height (var k) = 1
height lane = 1
height group = 1
height lanes = 1
height (plus e f) = suc (height e + height f)
height (minus e f) = suc (height e + height f)
height (times e f) = suc (height e + height f)
height (over e f) = suc (height e + height f)
height (rest_of e f) = suc (height e + height f)
height (less e f) = suc (height e + height f)
height (same e f) = suc (height e + height f)

no-bracket : (b : ℕ) → word_byte b ≡ true → eqb b 40 ≡ false
no-bracket b e = grind (arith, nat_tests)

no-bracket-first : (u z : List ℕ) → each_byte word_byte u ≡ true → 1 ≤ length u → eqb (get_or (u ++ z) 0 0) 40 ≡ false
unfolding each_byte
no-bracket-first [] z w s = absurd (not-suc-le-zero s)
no-bracket-first (b ∷ u) z w s = no-bracket b (and_parts (word_byte b) (each_byte word_byte u) w).0

-- the bytes of an expression with an operator, and what is behind it
infix-behind : (u v z : List ℕ) (b : ℕ) → infix_of u b v ++ z ≡ 40 ∷ (u ++ (32 ∷ b ∷ 32 ∷ (v ++ (41 ∷ z))))
infix-behind u v z b = rw (append_assoc u (32 ∷ b ∷ 32 ∷ (v ++ (41 ∷ []))) z, append_assoc v (41 ∷ []) z)

digit-letter : (b : ℕ) → letter b ≡ true → digit b ≡ false
digit-letter b e = grind (arith, nat_tests)

first-digit : (u : List ℕ) → 1 ≤ length u → each_byte digit u ≡ true → digit (get_or u 0 0) ≡ true
unfolding each_byte
first-digit [] s w = absurd (not-suc-le-zero s)
first-digit (b ∷ u) s w = (and_parts (digit b) (each_byte digit u) w).0

-- a name is none of the words
unlike : (w : List ℕ) (ws : List (List ℕ)) (u : List ℕ) → one_of (w ∷ ws) u ≡ false → (same_bytes w u ≡ false) × (one_of ws u ≡ false)
unfolding one_of
unlike w ws u e = or_parts (same_bytes w u) (one_of ws u) e

pub record Unlike (u : List ℕ) : Type 0 where
  pub own : same_bytes (codes "own") u ≡ false
  pub cells : same_bytes (codes "cells") u ≡ false
  pub cell : same_bytes (codes "cell") u ≡ false
  pub field : same_bytes (codes "field") u ≡ false
  pub bar : same_bytes (codes "barrier") u ≡ false
  pub ifs : same_bytes (codes "if") u ≡ false
  pub elses : same_bytes (codes "else") u ≡ false
  pub ends : same_bytes (codes "end") u ≡ false
  pub whiles : same_bytes (codes "while") u ≡ false
  pub lane_is : same_bytes (codes "lane") u ≡ false
  pub group_is : same_bytes (codes "group") u ≡ false
  pub lanes_is : same_bytes (codes "lanes") u ≡ false

pub name-unlike : (u : List ℕ) → one_of keywords u ≡ false → Unlike u
unfolding keywords
name-unlike u e =
    let a = unlike _ _ u e in
    let b = unlike _ _ u a.1 in
    let c = unlike _ _ u b.1 in
    let d = unlike _ _ u c.1 in
    let f = unlike _ _ u d.1 in
    let g = unlike _ _ u f.1 in
    let h = unlike _ _ u g.1 in
    let i = unlike _ _ u h.1 in
    let j = unlike _ _ u i.1 in
    let k = unlike _ _ u j.1 in
    let l = unlike _ _ u k.1 in
    let m = unlike _ _ u l.1 in
    record { own = a.0; cells = b.0; cell = c.0; field = d.0; bar = f.0; ifs = g.0; elses = h.0; ends = i.0; whiles = j.0; lane_is = k.0; group_is = l.0; lanes_is = m.0 }

module _ (find : List ℕ → ℕ) where
  unfoldable pub leaf_of_spec : List ℕ → Expr
  leaf_of_spec w =
      cond (digit (get_or w 0 0)) (fixed (decimal 0 w))
      (cond (same_bytes (codes "lane") w) lane (cond (same_bytes (codes "group") w) group (cond (same_bytes (codes "lanes") w) lanes (var (find w)))))

  abbrev joined_to : (Expr × List ℕ) → (Expr × List ℕ) → Expr × List ℕ
  joined_to p q = (made (get_or p.1 1 0) p.0 q.0, drop 1 q.1)

  unfoldable pub parsed : ℕ → List ℕ → Expr × List ℕ
  parsed zero t = (lane, t)
  parsed (suc n) t =
      cond (eqb (get_or t 0 0) 40) (joined_to (parsed n (drop 1 t)) (parsed n (drop 3 (parsed n (drop 1 t)).1))) (leaf_of_spec (front word_byte t), back word_byte t)

  -- a word is read as what it is
  word_read : (e : Expr) (u z : List ℕ) (n : ℕ) → each_byte word_byte u ≡ true → 1 ≤ length u → leaf_of_spec u ≡ e → Apart z → 1 ≤ n → parsed n (u ++ z) ≡ (e, z)
  unfolding parsed
  word_read e u z zero w s l a h = absurd (not-suc-le-zero h)
  word_read e u z (suc n) w s l a h = rw (no-bracket-first u z w s, front-run word_byte u z w a, back-run word_byte u z w a, l)

  -- two parts with an operator between them
  infix-read : (e f : Expr) (u v z : List ℕ) (b n : ℕ) → parsed n (u ++ (32 ∷ b ∷ 32 ∷ (v ++ (41 ∷ z)))) ≡ (e, 32 ∷ b ∷ 32 ∷ (v ++ (41 ∷ z))) → parsed n (v ++ (41 ∷ z)) ≡ (f, 41 ∷ z) →
      parsed (suc n) (infix_of u b v ++ z) ≡ (made b e f, z)
  unfolding parsed
  infix-read e f u v z b n p q = rw (infix-behind u v z b, p, q)

  module _ (N : ℕ → List ℕ → Type 0) (is_name : (k : ℕ) (u : List ℕ) → N k u → IsName u) (found : (k : ℕ) (u : List ℕ) → N k u → find u ≡ k) where
    leaf-name : (k : ℕ) (u : List ℕ) → N k u → leaf_of_spec u ≡ var k
    unfolding leaf_of_spec
    leaf-name k u h =
        let i = is_name k u h in
        let n = name-unlike u i.free in
        rw (digit-letter (get_or u 0 0) i.begins, n.lane_is, n.group_is, n.lanes_is, found k u h)

    leaf-number : (a : ℕ) (u : List ℕ) → IsNumber a u → leaf_of_spec u ≡ fixed a
    unfolding leaf_of_spec
    leaf-number a u i = rw (first-digit u i.some i.bytes, i.value)

    both_read : (e f x : Expr) (u v w z : List ℕ) (b n : ℕ) → w ≡ infix_of u b v → x ≡ made b e f → SpellsExpr N e u → SpellsExpr N f v → Apart z → suc (height e + height f) ≤ n →
        ((n : ℕ) (z : List ℕ) → Apart z → height e ≤ n → parsed n (u ++ z) ≡ (e, z)) → ((n : ℕ) (z : List ℕ) → Apart z → height f ≤ n → parsed n (v ++ z) ≡ (f, z)) → parsed n (w ++ z) ≡ (x, z)
    both_read e f x u v w z b zero q m s t a h p r = absurd (not-suc-le-zero h)
    both_read e f x u v w z b (suc n) q m s t a h p r = rw (q, m) (infix-read e f u v z b n (p n _ refl (omega arith)) (r n _ refl (omega arith)))

    pub read_back : (e : Expr) (u z : List ℕ) (n : ℕ) → SpellsExpr N e u → Apart z → height e ≤ n → parsed n (u ++ z) ≡ (e, z)
    unfolding SpellsExpr height each_byte leaf_of_spec same_bytes
    read_back (fixed a) u z n s a' h = word_read (fixed a) u z n (each_weaken digit word_byte digit-word u s.bytes) s.some (leaf-number a u s) a' h
    read_back (var k) u z n s a h = word_read (var k) u z n (is_name k u s).bytes (is_name k u s).some (leaf-name k u s) a h
    read_back lane u z n s a h = rw s (word_read lane (codes "lane") z n refl (lit≤ tt) refl a h)
    read_back group u z n s a h = rw s (word_read group (codes "group") z n refl (lit≤ tt) refl a h)
    read_back lanes u z n s a h = rw s (word_read lanes (codes "lanes") z n refl (lit≤ tt) refl a h)
    read_back (plus e f) w z n (u, v, s, t, q) a h = both_read e f _ u v w z 43 n q refl s t a h (λ n z. read_back e u z n s) (λ n z. read_back f v z n t)
    read_back (minus e f) w z n (u, v, s, t, q) a h = both_read e f _ u v w z 45 n q refl s t a h (λ n z. read_back e u z n s) (λ n z. read_back f v z n t)
    read_back (times e f) w z n (u, v, s, t, q) a h = both_read e f _ u v w z 42 n q refl s t a h (λ n z. read_back e u z n s) (λ n z. read_back f v z n t)
    read_back (over e f) w z n (u, v, s, t, q) a h = both_read e f _ u v w z 47 n q refl s t a h (λ n z. read_back e u z n s) (λ n z. read_back f v z n t)
    read_back (rest_of e f) w z n (u, v, s, t, q) a h = both_read e f _ u v w z 37 n q refl s t a h (λ n z. read_back e u z n s) (λ n z. read_back f v z n t)
    read_back (less e f) w z n (u, v, s, t, q) a h = both_read e f _ u v w z 60 n q refl s t a h (λ n z. read_back e u z n s) (λ n z. read_back f v z n t)
    read_back (same e f) w z n (u, v, s, t, q) a h = both_read e f _ u v w z 61 n q refl s t a h (λ n z. read_back e u z n s) (λ n z. read_back f v z n t)
