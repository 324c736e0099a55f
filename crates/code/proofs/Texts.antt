-- Parts of a text from a byte on.
use Rattle.std.proofs.Common.{◌≡◌, ℕ, suc, ◌+◌, ◌-◌, ◌<◌, ◌≤◌, true, ◌≢◌, List, [], ◌∷◌, ◌++◌, length, get_or, take, drop, position, eqb, Some, Option, not, sym, refl, ap, ◌∙◌, add-zero, arith}
use Rattle.std.specs.List.{between, prefix_len}
use Rattle.std.proofs.lemmas.List.{drop_at, drop-drop, take_at, length-append, length-drop, at_drop_more, get_or-drop}
use Rattle.std.proofs.lemmas.Bool.{and_parts, eq-eqb, ne_eqb, le-leb, lt-leb, lt-ltb}
use Rattle.grammar.specs.Spelling.{word_byte, each_byte}
use Rattle.grammar.specs.Stands.{Apart}
use Rattle.grammar.specs.Words.{WordEnd}
use Rattle.grammar.proofs.Scanned.{word-ends}
use Rattle.code.specs.Scan.{in_line, closing}

-- Behind what stands at byte i.
pub drop-on : (text u z : List ℕ) (i r : ℕ) → drop i text ≡ u ++ z → r ≡ i + length u → drop r text ≡ z
drop-on text u z i r e q = ap (λ m. drop m text) q ∙ sym (drop-drop (length u) i text) ∙ ap (λ t. drop (length u) t) e ∙ drop_at u z (length u) refl

pub drop-behind : (text u z : List ℕ) (i r b : ℕ) → drop i text ≡ u ++ (b ∷ z) → r ≡ i + length u → drop (r + 1) text ≡ z
drop-behind text u z i r b e q = drop-on text (b ∷ []) z r (r + 1) (drop-on text u (b ∷ z) i r e q) refl

-- The word that stands at byte i, if what is behind is apart from it.
pub word_at : (text u z : List ℕ) (i r : ℕ) → WordEnd text i r → drop i text ≡ u ++ z → each_byte word_byte u ≡ true → Apart z → between i r text ≡ u
word_at text u z i r w e h a =
    let q : r - i ≡ length u = omega (arith, word-ends text i r u z w e h a) in
    ap (λ n. take n (drop i text)) q ∙ ap (λ t. take (length u) t) e ∙ take_at u z (length u) refl

-- Byte i lies in the text, if something stands there.
pub within : (text u z : List ℕ) (i b : ℕ) → drop i text ≡ u ++ (b ∷ z) → i + length u < length text
within text u z i b e =
    let n : length (drop i text) ≡ length u + length (b ∷ z) = ap length e ∙ length-append u (b ∷ z) in
    omega (arith, n, length-drop i text)

-- The first line of these bytes ends where they say.
line_len : (u z : List ℕ) → each_byte in_line u ≡ true → prefix_len (λ (b : ℕ). not (eqb b 10)) (u ++ (10 ∷ z)) ≡ length u
unfolding each_byte
line_len [] z h = refl
line_len (b ∷ u) z h = let p = and_parts (in_line b) (each_byte in_line u) h in rw p.0 (omega (arith, line_len u z p.1))

pub line-at : (u z : List ℕ) → each_byte in_line u ≡ true → position (λ (b : ℕ). eqb b 10) (u ++ (10 ∷ z)) ≡ Some (length u)
line-at u z h =
    let long : length u < length (u ++ (10 ∷ z)) = simp length-append (omega arith) in
    rw (line_len u z h, lt-ltb (length u) (length (u ++ (10 ∷ z))) long)

-- Where a line ends that these bytes begin with, if the search for its end found n.
pub line-found : (text u z : List ℕ) (i : ℕ) (n : Option ℕ) → n ≡ position (λ (b : ℕ). eqb b 10) (drop i text) → drop i text ≡ u ++ (10 ∷ z) → each_byte in_line u ≡ true → n ≡ Some (length u)
line-found text u z i n q e h = q ∙ ap (position (λ (b : ℕ). eqb b 10)) e ∙ line-at u z h

-- One byte further in the search for a closing bracket.
pub closing-open : (d b : ℕ) (bs : List ℕ) → b ≡ 40 → closing d (b ∷ bs) ≡ suc (closing (suc d) bs)
unfolding closing
closing-open d b bs h = rw (eq-eqb b 40 h)

pub closing-last : (d b : ℕ) (bs : List ℕ) → b ≡ 41 → d ≤ 1 → closing d (b ∷ bs) ≡ 1
unfolding closing
closing-last d b bs h k = let q : b ≢ 40 = omega arith in rw (ne_eqb b 40 q, eq-eqb b 41 h, le-leb d 1 k)

pub closing-shut : (d b : ℕ) (bs : List ℕ) → b ≡ 41 → 1 < d → closing d (b ∷ bs) ≡ suc (closing (d - 1) bs)
unfolding closing
closing-shut d b bs h k = let q : b ≢ 40 = omega arith in rw (ne_eqb b 40 q, eq-eqb b 41 h, lt-leb d 1 k)

pub closing-plain : (d b : ℕ) (bs : List ℕ) → b ≢ 40 → b ≢ 41 → closing d (b ∷ bs) ≡ suc (closing d bs)
unfolding closing
closing-plain d b bs h k = rw (ne_eqb b 40 h, ne_eqb b 41 k)

pub closing-none : (d : ℕ) → closing d [] ≡ 0
unfolding closing
closing-none d = refl

module _ (text : List ℕ) (i d : ℕ) (h : i < length text) where
  pub step-open : get_or text i 0 ≡ 40 → i + closing d (drop i text) ≡ (i + 1) + closing (d + 1) (drop (i + 1) text)
  step-open e =
      let q : d + 1 ≡ suc d = omega arith in
      let p = at_drop_more (closing d) text i 0 h ∙ closing-open d (get_or text i 0) (drop (i + 1) text) e in
      rw (p, q) (omega arith)

  pub step-last : get_or text i 0 ≡ 41 → d ≤ 1 → i + closing d (drop i text) ≡ i + 1
  step-last e k = ap (λ n. i + n) (at_drop_more (closing d) text i 0 h ∙ closing-last d (get_or text i 0) (drop (i + 1) text) e k)

  pub step-shut : get_or text i 0 ≡ 41 → 1 < d → i + closing d (drop i text) ≡ (i + 1) + closing (d - 1) (drop (i + 1) text)
  step-shut e k = let p = at_drop_more (closing d) text i 0 h ∙ closing-shut d (get_or text i 0) (drop (i + 1) text) e k in rw p (omega arith)

  pub step-plain : get_or text i 0 ≢ 40 → get_or text i 0 ≢ 41 → i + closing d (drop i text) ≡ (i + 1) + closing d (drop (i + 1) text)
  step-plain e k = let p = at_drop_more (closing d) text i 0 h ∙ closing-plain d (get_or text i 0) (drop (i + 1) text) e k in rw p (omega arith)

-- The byte at i is the first of what stands there.
pub first_byte : (text t : List ℕ) (i : ℕ) → drop i text ≡ t → get_or text i 0 ≡ get_or t 0 0
first_byte text t i e = ap (λ m. get_or text m 0) (sym (add-zero i)) ∙ sym (get_or-drop i text 0 0) ∙ ap (λ l. get_or l 0 0) e
