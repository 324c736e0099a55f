-- How an expression that stands in a text is made up: a word, or two expressions in a bracket.
use Rattle.std.proofs.Common.{◌≡◌, ℕ, ◌≤◌, true, false, List, [], ◌∷◌, length, get_or, codes, sym, refl, subst, arith}
use Rattle.std.proofs.lemmas.Bool.{true≢false, and_parts, and_from}
use Rattle.std.proofs.lemmas.Bool.Decides.{nat_tests}
use Rattle.lanes.specs.Syntax.{Expr, fixed, var, lane, group, lanes, plus, minus, times, over, rest_of, less, same}
use Rattle.grammar.specs.Spelling.{Named, SpellsExpr, digit, word_byte, each_byte, infix_of}
use Rattle.grammar.specs.Names.{NamesIn}
use Rattle.values.specs.declared.ops.Op.{Op}
use Rattle.values.specs.declared.ops.Op.TheVariants.{Plus, Minus, Times, Over, Rest, Less, Same}
use Rattle.values.specs.Ops.{node, byte_of}
use Rattle.values.specs.Worth.{simple}
use Rattle.values.proofs.Words.{word-cases}

-- Letters and digits, one at least.
pub record Word (u : List ℕ) : Type 0 where
  pub some : 1 ≤ length u
  pub bytes : each_byte word_byte u ≡ true

digit-word : (b : ℕ) → digit b ≡ true → word_byte b ≡ true
digit-word b h = grind (arith, nat_tests)

digits-word : (u : List ℕ) → each_byte digit u ≡ true → each_byte word_byte u ≡ true
unfolding each_byte
digits-word [] h = refl
digits-word (b ∷ u) h = and_from _ _ (digit-word b (and_parts (digit b) (each_byte digit u) h).0) (digits-word u (and_parts (digit b) (each_byte digit u) h).1)

word_same : (u w : List ℕ) → u ≡ w → Word w → Word u
word_same u w q x = subst (λ (t : List ℕ). Word t) (sym q) x

lane_word : Word (codes "lane")
unfolding each_byte
lane_word = record { some = omega arith; bytes = refl }

group-word : Word (codes "group")
unfolding each_byte
group-word = record { some = omega arith; bytes = refl }

lanes_word : Word (codes "lanes")
unfolding each_byte
lanes_word = record { some = omega arith; bytes = refl }

pub word-spelt : (ns : List (List ℕ)) (text u : List ℕ) → NamesIn ns text → (e : Expr) → SpellsExpr (Named ns) e u → simple e ≡ true → Word u
word-spelt ns text u n =
    word-cases ns u (λ _. Word u) (λ a i. record { some = i.some; bytes = digits-word u i.bytes })
    (λ k m. let is = n.names k m.0 in word_same u (get_or ns k []) m.1 record { some = is.some; bytes = is.bytes })
    (λ q. word_same u _ q lane_word) (λ q. word_same u _ q group-word) (λ q. word_same u _ q lanes_word)

-- Two expressions in a bracket.
pub record Halves (ns : List (List ℕ)) (e : Expr) (t : List ℕ) : Type 0 where
  pub op : Op
  pub left : Expr
  pub right : Expr
  pub u : List ℕ
  pub v : List ℕ
  pub is : e ≡ node op left right
  pub spells_left : SpellsExpr (Named ns) left u
  pub spells_right : SpellsExpr (Named ns) right v
  pub whole : t ≡ infix_of u (byte_of op) v

pub halves : (ns : List (List ℕ)) (e : Expr) (t : List ℕ) → SpellsExpr (Named ns) e t → simple e ≡ false → Halves ns e t
unfolding SpellsExpr
halves ns (fixed a) t s h = absurd (true≢false h)
halves ns (var k) t s h = absurd (true≢false h)
halves ns lane t s h = absurd (true≢false h)
halves ns group t s h = absurd (true≢false h)
halves ns lanes t s h = absurd (true≢false h)
halves ns (plus e f) t s h = record { op = Plus; left = e; right = f; u = s.0; v = s.1; is = refl; spells_left = s.2; spells_right = s.3; whole = s.4 }
halves ns (minus e f) t s h = record { op = Minus; left = e; right = f; u = s.0; v = s.1; is = refl; spells_left = s.2; spells_right = s.3; whole = s.4 }
halves ns (times e f) t s h = record { op = Times; left = e; right = f; u = s.0; v = s.1; is = refl; spells_left = s.2; spells_right = s.3; whole = s.4 }
halves ns (over e f) t s h = record { op = Over; left = e; right = f; u = s.0; v = s.1; is = refl; spells_left = s.2; spells_right = s.3; whole = s.4 }
halves ns (rest_of e f) t s h = record { op = Rest; left = e; right = f; u = s.0; v = s.1; is = refl; spells_left = s.2; spells_right = s.3; whole = s.4 }
halves ns (less e f) t s h = record { op = Less; left = e; right = f; u = s.0; v = s.1; is = refl; spells_left = s.2; spells_right = s.3; whole = s.4 }
halves ns (same e f) t s h = record { op = Same; left = e; right = f; u = s.0; v = s.1; is = refl; spells_left = s.2; spells_right = s.3; whole = s.4 }
