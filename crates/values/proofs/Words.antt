-- Expressions that are one word.
use Rattle.std.proofs.Common.{◌≡◌, ℕ, ◌-◌, ◌%◌, ◌<◌, ◌≤◌, true, false, ◌≢◌, List, [], length, get_or, drop, codes, Some, sym, refl, ap, ◌∙◌, add-zero, arith}
use Rattle.std.specs.List.{between}
use Rattle.std.proofs.lemmas.Bool.{false≢true, both_ways}
use Rattle.std.proofs.lemmas.Bool.Decides.{nat_tests}
use Rattle.std.proofs.lemmas.List.{length-take, get_or-take, get_or-drop}
use Rattle.lanes.specs.Syntax.{Expr, fixed, var, lane, group, lanes, plus, minus, times, over, rest_of, less, same}
use Rattle.lanes.specs.Step.{whole}
use Rattle.grammar.specs.Spelling.{Named, SpellsExpr, IsNumber, letter, digit, decimal, one_of, keywords, same_bytes}
use Rattle.grammar.specs.declared.keywords.Keyword.{Keyword}
use Rattle.grammar.specs.declared.keywords.Keyword.TheVariants as kw
use Rattle.grammar.specs.Runs.{written}
use Rattle.grammar.specs.Walk.{key_of}
use Rattle.grammar.proofs.Walks.{key-written}
use Rattle.grammar.specs.Names.{NamesIn, FirstAt}
use Rattle.grammar.proofs.Scanned.{byte_at}
use Rattle.values.specs.declared.leaves.Leaf.{Leaf}
use Rattle.values.specs.declared.leaves.Leaf.TheVariants.{Fixed, Own, Lane, Group, Lanes}
use Rattle.values.specs.Worth.{simple, plain, LeafIs, LeafAt}

module _ (ns : List (List ℕ)) (u : List ℕ) (P : Expr → Type 0) (at-fixed : (a : ℕ) → IsNumber a u → P (fixed a)) (at-var : (k : ℕ) → Named ns k u → P (var k)) where
  -- A number or a name, by cases.
  pub plain-cases : (e : Expr) → SpellsExpr (Named ns) e u → plain e ≡ true → P e
  unfolding SpellsExpr
  plain-cases (fixed a) s h = at-fixed a s
  plain-cases (var k) s h = at-var k s
  plain-cases lane s h = absurd (false≢true h)
  plain-cases group s h = absurd (false≢true h)
  plain-cases lanes s h = absurd (false≢true h)
  plain-cases (plus e f) s h = absurd (false≢true h)
  plain-cases (minus e f) s h = absurd (false≢true h)
  plain-cases (times e f) s h = absurd (false≢true h)
  plain-cases (over e f) s h = absurd (false≢true h)
  plain-cases (rest_of e f) s h = absurd (false≢true h)
  plain-cases (less e f) s h = absurd (false≢true h)
  plain-cases (same e f) s h = absurd (false≢true h)

  -- Any word.
  pub word-cases : (u ≡ codes "lane" → P lane) → (u ≡ codes "group" → P group) → (u ≡ codes "lanes" → P lanes) → (e : Expr) → SpellsExpr (Named ns) e u → simple e ≡ true → P e
  unfolding SpellsExpr
  word-cases at-lane at-group at-lanes (fixed a) s h = at-fixed a s
  word-cases at-lane at-group at-lanes (var k) s h = at-var k s
  word-cases at-lane at-group at-lanes lane s h = at-lane s
  word-cases at-lane at-group at-lanes group s h = at-group s
  word-cases at-lane at-group at-lanes lanes s h = at-lanes s
  word-cases at-lane at-group at-lanes (plus e f) s h = absurd (false≢true h)
  word-cases at-lane at-group at-lanes (minus e f) s h = absurd (false≢true h)
  word-cases at-lane at-group at-lanes (times e f) s h = absurd (false≢true h)
  word-cases at-lane at-group at-lanes (over e f) s h = absurd (false≢true h)
  word-cases at-lane at-group at-lanes (rest_of e f) s h = absurd (false≢true h)
  word-cases at-lane at-group at-lanes (less e f) s h = absurd (false≢true h)
  word-cases at-lane at-group at-lanes (same e f) s h = absurd (false≢true h)

-- A part of the text begins with the byte where it begins.
pub first-same : (text : List ℕ) (i e : ℕ) → 1 ≤ length (between i e text) → get_or text i 0 ≡ get_or (between i e text) 0 0
first-same text i e h =
    let some : 0 < e - i = omega (arith, h, length-take (e - i) (drop i text)) in
    sym (get_or-take (e - i) (drop i text) 0 0 some ∙ get_or-drop i text 0 0 ∙ ap (λ m. get_or text m 0) (add-zero i))

no_both : (b : ℕ) → letter b ≡ true → digit b ≡ true → ⊥
no_both b l d = grind (arith, nat_tests)

number-first : (a : ℕ) (u : List ℕ) → IsNumber a u → digit (get_or u 0 0) ≡ true
number-first a u i = byte_at digit u 0 i.bytes i.some

module _ (text u : List ℕ) (b : ℕ) (first : 1 ≤ length u → b ≡ get_or u 0 0) where
  -- A word that begins with a digit is a number.
  pub number-leaf : (r : ℕ) → digit b ≡ true → r ≡ decimal 0 u % whole → LeafAt plain text u (Fixed r)
  number-leaf r d q ns n di =
      plain-cases ns u (LeafIs (length ns) (Fixed r)) (λ a i. (a, refl, q ∙ ap (λ m. m % whole) i.value))
      (λ k m.
      let is = n.names k m.0 in
      let some : 1 ≤ length u = omega (arith, is.some, ap length m.1) in
      absurd (no_both (get_or u 0 0) (ap (λ w. letter (get_or w 0 0)) m.1 ∙ is.begins) (ap digit (sym (first some)) ∙ d)))

  not-number : (a : ℕ) → digit b ≡ false → IsNumber a u → ⊥
  not-number a d i = both_ways (digit b) d (ap digit (first i.some) ∙ number-first a u i)

  -- Any other is a name.
  pub name-leaf : (k : ℕ) → digit b ≡ false → ((ns : List (List ℕ)) → NamesIn ns text → FirstAt ns u k) → LeafAt plain text u (Own k)
  name-leaf k d f ns n di =
      plain-cases ns u (LeafIs (length ns) (Own k)) (λ a i. absurd (not-number a d i))
      (λ j m. (ap var (di j k m.0 (f ns n).there (sym m.1 ∙ sym (f ns n).is)), (f ns n).there))

  pub no-leaf : digit b ≡ false → ((ns : List (List ℕ)) → NamesIn ns text → (k : ℕ) → k < length ns → get_or ns k [] ≢ u) → LeafAt plain text u (Fixed 0)
  no-leaf d f ns n di =
      plain-cases ns u (LeafIs (length ns) (Fixed 0)) (λ a i. absurd (not-number a d i)) (λ j m. absurd (f ns n j m.0 (sym m.1)))

module _ (text u w : List ℕ) (q : u ≡ w) (no_digit : digit (get_or w 0 0) ≡ false) (word : one_of keywords w ≡ true) where
  -- A word of the language is no number and no name.
  no_number : (a : ℕ) → IsNumber a u → ⊥
  no_number a i = both_ways (digit (get_or u 0 0)) (ap (λ t. digit (get_or t 0 0)) q ∙ no_digit) (number-first a u i)

  no_name : (ns : List (List ℕ)) → NamesIn ns text → (k : ℕ) → Named ns k u → ⊥
  no_name ns n k m = both_ways (one_of keywords u) (ap (one_of keywords) m.1 ∙ (n.names k m.0).free) (ap (one_of keywords) q ∙ word)

pub lane-leaf : (text u : List ℕ) → u ≡ codes "lane" → LeafAt simple text u Lane
unfolding one_of keywords same_bytes
lane-leaf text u q ns n di =
    word-cases ns u (LeafIs (length ns) Lane) (λ a i. absurd (no_number text u (codes "lane") q refl refl a i)) (λ k m. absurd (no_name text u (codes "lane") q refl refl ns n k m))
    (λ _. refl) (λ p. absurd (omega (arith, ap length (sym q ∙ p)))) (λ p. absurd (omega (arith, ap length (sym q ∙ p))))

pub group-leaf : (text u : List ℕ) → u ≡ codes "group" → LeafAt simple text u Group
unfolding one_of keywords same_bytes
group-leaf text u q ns n di =
    word-cases ns u (LeafIs (length ns) Group) (λ a i. absurd (no_number text u (codes "group") q refl refl a i)) (λ k m. absurd (no_name text u (codes "group") q refl refl ns n k m))
    (λ p. absurd (omega (arith, ap length (sym q ∙ p)))) (λ _. refl) (λ p. absurd (omega (arith, ap (λ t. get_or t 0 0) (sym q ∙ p))))

pub lanes-leaf : (text u : List ℕ) → u ≡ codes "lanes" → LeafAt simple text u Lanes
unfolding one_of keywords same_bytes
lanes-leaf text u q ns n di =
    word-cases ns u (LeafIs (length ns) Lanes) (λ a i. absurd (no_number text u (codes "lanes") q refl refl a i)) (λ k m. absurd (no_name text u (codes "lanes") q refl refl ns n k m))
    (λ p. absurd (omega (arith, ap length (sym q ∙ p)))) (λ p. absurd (omega (arith, ap (λ t. get_or t 0 0) (sym q ∙ p)))) (λ _. refl)

-- No two words of the language are written alike.
pub same-word : (k j : Keyword) → written k ≡ written j → k ≡ j
same-word k j e = let q : Some k ≡ Some j = sym (key-written k) ∙ ap key_of e ∙ key-written j in cc

-- A word that is no word of the language.
pub other-leaf : (text u : List ℕ) (r : Leaf) → (u ≡ codes "lane" → ⊥) → (u ≡ codes "group" → ⊥) → (u ≡ codes "lanes" → ⊥) → LeafAt plain text u r → LeafAt simple text u r
unfolding SpellsExpr
other-leaf text u r l g s p ns n di =
    word-cases ns u (LeafIs (length ns) r) (λ a i. p ns n di (fixed a) i refl) (λ k m. p ns n di (var k) m refl) (λ q. absurd (l q)) (λ q. absurd (g q)) (λ q. absurd (s q))
