-- How far an expression goes in a text, and what it is made of.
use Rattle.std.proofs.Common.{◌≡◌, ℕ, suc, ◌+◌, ◌≤◌, true, ◌≢◌, List, [], ◌∷◌, ◌++◌, length, get_or, drop, codes, sym, refl, ap, ◌∙◌, append_assoc, arith}
use Rattle.std.proofs.lemmas.List.{length-append, get_or_append_left}
use Rattle.std.proofs.lemmas.Bool.{and_parts}
use Rattle.std.proofs.lemmas.Bool.Decides.{nat_tests}
use Rattle.lanes.specs.Syntax.{Expr, fixed, var, lane, group, lanes, plus, minus, times, over, rest_of, less, same}
use Rattle.grammar.specs.Spelling.{word_byte, digit, each_byte, IsName, infix_of, SpellsExpr, Named}
use Rattle.grammar.specs.Stands.{Stands}
use Rattle.grammar.specs.Words.{WordEnd}
use Rattle.grammar.proofs.Scanned.{byte_at, word-ends}
use Rattle.grammar.proofs.Bytewise.{digit-word, each_weaken, named-names}
use Rattle.code.specs.Scan.{in_line, closing, EndsAt}
use Rattle.code.proofs.Texts.{closing-plain, closing-open, closing-shut, closing-last, drop-on, first_byte}

pub word-in_line : (b : ℕ) → word_byte b ≡ true → in_line b ≡ true
word-in_line b h = grind (arith, nat_tests)

word-open : (b : ℕ) → word_byte b ≡ true → b ≢ 40
word-open b h = grind (arith, nat_tests)

word-shut : (b : ℕ) → word_byte b ≡ true → b ≢ 41
word-shut b h = grind (arith, nat_tests)

-- A word goes by without a bracket.
word-passes : (u : List ℕ) → each_byte word_byte u ≡ true → (d : ℕ) (w : List ℕ) → closing d (u ++ w) ≡ length u + closing d w
unfolding each_byte
word-passes [] h d w = omega arith
word-passes (b ∷ u) h d w =
    let p = and_parts (word_byte b) (each_byte word_byte u) h in
    closing-plain d b (u ++ w) (word-open b p.0) (word-shut b p.0) ∙ rw (word-passes u p.1 d w) (omega arith)

infix-append : (u v w : List ℕ) (op : ℕ) → infix_of u op v ++ w ≡ 40 ∷ (u ++ (32 ∷ op ∷ 32 ∷ (v ++ (41 ∷ w))))
infix-append u v w op =
    ap (λ t. 40 ∷ t) (append_assoc u (32 ∷ op ∷ 32 ∷ (v ++ (41 ∷ []))) w ∙ ap (λ t. u ++ (32 ∷ op ∷ 32 ∷ t)) (append_assoc v (41 ∷ []) w))

infix-length : (u v : List ℕ) (op : ℕ) → length (infix_of u op v) ≡ 5 + (length u + length v)
infix-length u v op = simp length-append (omega arith)

-- The brackets of (u op v), whose parts go by.
infix-passes : (u v : List ℕ) (op d : ℕ) (w : List ℕ) → op ≢ 40 → op ≢ 41 → ((t : List ℕ) → closing (suc d) (u ++ t) ≡ length u + closing (suc d) t)
    → ((t : List ℕ) → closing (suc d) (v ++ t) ≡ length v + closing (suc d) t) → closing d (infix_of u op v ++ w) ≡ (4 + (length u + length v)) + closing (suc d) (41 ∷ w)
infix-passes u v op d w h k pu pv =
    let a = closing-open d 40 (u ++ (32 ∷ op ∷ 32 ∷ (v ++ (41 ∷ w)))) refl in
    let b = pu (32 ∷ op ∷ 32 ∷ (v ++ (41 ∷ w))) in
    let c = closing-plain (suc d) 32 (op ∷ 32 ∷ (v ++ (41 ∷ w))) (omega arith) (omega arith) in
    let e = closing-plain (suc d) op (32 ∷ (v ++ (41 ∷ w))) h k in
    let f = closing-plain (suc d) 32 (v ++ (41 ∷ w)) (omega arith) (omega arith) in
    let g = pv (41 ∷ w) in
    rw (infix-append u v w op, a, b, c, e, f, g) (omega arith)

module _ (N : ℕ → List ℕ → Type 0) (names : (k : ℕ) (u : List ℕ) → N k u → IsName u) where
  -- Inside brackets a part goes by.
  inner : (u v : List ℕ) (op d : ℕ) (t w : List ℕ) → t ≡ infix_of u op v → op ≢ 40 → op ≢ 41 → ((s : List ℕ) → closing (suc (suc d)) (u ++ s) ≡ length u + closing (suc (suc d)) s)
      → ((s : List ℕ) → closing (suc (suc d)) (v ++ s) ≡ length v + closing (suc (suc d)) s) → closing (suc d) (t ++ w) ≡ length t + closing (suc d) w
  inner u v op d t w e h k pu pv =
      let q : closing (suc (suc d)) (41 ∷ w) ≡ suc (closing (suc d) w) = closing-shut (suc (suc d)) 41 w refl (omega arith) ∙ ap (λ n. suc (closing n w)) (omega arith) in
      rw (e, infix-length u v op, infix-passes u v op (suc d) w h k pu pv, q) (omega arith)

  passes : (e : Expr) (t : List ℕ) → SpellsExpr N e t → (d : ℕ) (w : List ℕ) → closing (suc d) (t ++ w) ≡ length t + closing (suc d) w
  unfolding SpellsExpr each_byte
  passes (fixed a) t s d w = word-passes t (each_weaken digit word_byte digit-word t s.bytes) (suc d) w
  passes (var k) t s d w = word-passes t (names k t s).bytes (suc d) w
  passes lane t s d w = rw s (word-passes (codes "lane") refl (suc d) w)
  passes group t s d w = rw s (word-passes (codes "group") refl (suc d) w)
  passes lanes t s d w = rw s (word-passes (codes "lanes") refl (suc d) w)
  passes (plus e f) t s d w = inner s.0 s.1 43 d t w s.4 (omega arith) (omega arith) (passes e s.0 s.2 (suc d)) (passes f s.1 s.3 (suc d))
  passes (minus e f) t s d w = inner s.0 s.1 45 d t w s.4 (omega arith) (omega arith) (passes e s.0 s.2 (suc d)) (passes f s.1 s.3 (suc d))
  passes (times e f) t s d w = inner s.0 s.1 42 d t w s.4 (omega arith) (omega arith) (passes e s.0 s.2 (suc d)) (passes f s.1 s.3 (suc d))
  passes (over e f) t s d w = inner s.0 s.1 47 d t w s.4 (omega arith) (omega arith) (passes e s.0 s.2 (suc d)) (passes f s.1 s.3 (suc d))
  passes (rest_of e f) t s d w = inner s.0 s.1 37 d t w s.4 (omega arith) (omega arith) (passes e s.0 s.2 (suc d)) (passes f s.1 s.3 (suc d))
  passes (less e f) t s d w = inner s.0 s.1 60 d t w s.4 (omega arith) (omega arith) (passes e s.0 s.2 (suc d)) (passes f s.1 s.3 (suc d))
  passes (same e f) t s d w = inner s.0 s.1 61 d t w s.4 (omega arith) (omega arith) (passes e s.0 s.2 (suc d)) (passes f s.1 s.3 (suc d))

  -- An expression is a word, or stands in brackets, which close where it ends.
  pub data Form (t : List ℕ) : Type 0 where
    word : each_byte word_byte t ≡ true → 1 ≤ length t → Form t
    bracket : get_or t 0 0 ≡ 40 → 1 ≤ length t → ((w : List ℕ) → closing 0 (t ++ w) ≡ length t) → Form t

  whole : (e f : Expr) (op : ℕ) (t u v : List ℕ) → t ≡ infix_of u op v → op ≢ 40 → op ≢ 41 → SpellsExpr N e u → SpellsExpr N f v → Form t
  whole e f op t u v q h k su sv =
      let n = infix-length u v op in
      bracket (ap (λ x. get_or x 0 0) q) (rw q (omega arith))
      (λ w. rw (q, n, infix-passes u v op 0 w h k (passes e u su 0) (passes f v sv 0), closing-last 1 41 w refl (omega arith)) (omega arith))

  pub form : (e : Expr) (t : List ℕ) → SpellsExpr N e t → Form t
  unfolding SpellsExpr each_byte
  form (fixed a) t s = word (each_weaken digit word_byte digit-word t s.bytes) s.some
  form (var k) t s = word (names k t s).bytes (names k t s).some
  form lane t s = word (ap (each_byte word_byte) s) (rw s (omega arith))
  form group t s = word (ap (each_byte word_byte) s) (rw s (omega arith))
  form lanes t s = word (ap (each_byte word_byte) s) (rw s (omega arith))
  form (plus e f) t s = whole e f 43 t s.0 s.1 s.4 (omega arith) (omega arith) s.2 s.3
  form (minus e f) t s = whole e f 45 t s.0 s.1 s.4 (omega arith) (omega arith) s.2 s.3
  form (times e f) t s = whole e f 42 t s.0 s.1 s.4 (omega arith) (omega arith) s.2 s.3
  form (over e f) t s = whole e f 47 t s.0 s.1 s.4 (omega arith) (omega arith) s.2 s.3
  form (rest_of e f) t s = whole e f 37 t s.0 s.1 s.4 (omega arith) (omega arith) s.2 s.3
  form (less e f) t s = whole e f 60 t s.0 s.1 s.4 (omega arith) (omega arith) s.2 s.3
  form (same e f) t s = whole e f 61 t s.0 s.1 s.4 (omega arith) (omega arith) s.2 s.3

  pub first_of : (u z : List ℕ) → 1 ≤ length u → get_or (u ++ z) 0 0 ≡ get_or u 0 0
  first_of u z h = get_or_append_left u z 0 0 (omega arith)

  -- Where a bracket stands the expression ends where it closes; elsewhere it is a word.
  pub ends_bracket : (text : List ℕ) (x y : ℕ) (e : Expr) (s : Stands N text x e) → get_or text x 0 ≡ 40 → y ≡ x + closing 0 (drop x text) → drop y text ≡ s.behind
  ends_bracket text x y e s h q =
      let b : get_or (s.spelling ++ s.behind) 0 0 ≡ 40 = sym (first_byte text _ x s.here) ∙ h in
      elim (form e s.spelling s.spells) [
        | word p n ↦ absurd (word-open _ (byte_at word_byte s.spelling 0 p (omega arith)) (sym (first_of s.spelling s.behind n) ∙ b))
        | bracket p n c ↦ drop-on text s.spelling s.behind x y s.here (q ∙ ap (λ t. x + closing 0 t) s.here ∙ ap (λ m. x + m) (c s.behind))
      ]

  pub ends_word : (text : List ℕ) (x y : ℕ) (e : Expr) (s : Stands N text x e) → get_or text x 0 ≢ 40 → WordEnd text x y → drop y text ≡ s.behind
  ends_word text x y e s h w =
      elim (form e s.spelling s.spells) [
        | word p n ↦ drop-on text s.spelling s.behind x y s.here (word-ends text x y s.spelling s.behind w s.here p s.apart)
        | bracket p n c ↦ absurd (h (first_byte text _ x s.here ∙ first_of s.spelling s.behind n ∙ p))
      ]

pub bracket-ends : (text : List ℕ) (x y : ℕ) → get_or text x 0 ≡ 40 → y ≡ x + closing 0 (drop x text) → EndsAt text x y
unfolding EndsAt
bracket-ends text x y h q ns e names s = ends_bracket (Named ns) (named-names ns names) text x y e s h q

pub word-ends-at : (text : List ℕ) (x y : ℕ) → get_or text x 0 ≢ 40 → WordEnd text x y → EndsAt text x y
unfolding EndsAt
word-ends-at text x y h w ns e names s = ends_word (Named ns) (named-names ns names) text x y e s h w
