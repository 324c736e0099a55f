-- Words that stand in a text.
use Rattle.std.proofs.Common.{◌≡◌, ℕ, zero, suc, ◌+◌, ◌-◌, ◌<◌, Bool, true, List, [], ◌∷◌, ◌++◌, length, get_or, drop, sym, ap, ◌∙◌, inl, inr, arith}
use Rattle.std.proofs.lemmas.List.{get_or-drop, get_or_append_left, get_or-append-add}
use Rattle.std.proofs.lemmas.Bool.{and_parts, both_ways, cases_order}
use Rattle.grammar.specs.Spelling.{word_byte, each_byte}
use Rattle.grammar.specs.Stands.{Apart}
use Rattle.grammar.specs.Words.{WordEnd}

-- What holds of each byte holds of the one at k.
pub byte_at : (f : ℕ → Bool) (u : List ℕ) (k : ℕ) → each_byte f u ≡ true → k < length u → f (get_or u k 0) ≡ true
unfolding each_byte
byte_at f [] k e h = absurd (omega arith)
byte_at f (b ∷ u) zero e h = (and_parts (f b) (each_byte f u) e).0
byte_at f (b ∷ u) (suc k) e h = byte_at f u k (and_parts (f b) (each_byte f u) e).1 (omega arith)

-- What stands at i in a text that goes on with u ++ z from there.
pub at_part : (text u z : List ℕ) (i k : ℕ) → drop i text ≡ u ++ z → k < length u → get_or text (i + k) 0 ≡ get_or u k 0
at_part text u z i k e h = sym (get_or-drop i text k 0) ∙ ap (λ t. get_or t k 0) e ∙ get_or_append_left u z 0 k h

pub behind-part : (text u z : List ℕ) (i k : ℕ) → drop i text ≡ u ++ z → get_or text (i + (length u + k)) 0 ≡ get_or z k 0
behind-part text u z i k e = sym (get_or-drop i text (length u + k) 0) ∙ ap (λ t. get_or t (length u + k) 0) e ∙ get_or-append-add u z k 0

-- A word that is apart from what is behind it ends where it ends.
pub word-ends : (text : List ℕ) (i r : ℕ) (u z : List ℕ) → WordEnd text i r → drop i text ≡ u ++ z → each_byte word_byte u ≡ true → Apart z → r ≡ i + length u
word-ends text i r u z w e h a =
    elim (cases_order r (i + length u)) [
      | inl p ↦ p
      | inr (inl p) ↦
          let k : r - i < length u = omega (arith, w.from) in
          let q : get_or text r 0 ≡ get_or u (r - i) 0 = ap (λ m. get_or text m 0) (omega (arith, w.from)) ∙ at_part text u z i (r - i) e k in
          absurd (both_ways _ w.apart (ap word_byte q ∙ byte_at word_byte u (r - i) h k))
      | inr (inr p) ↦
          let q : get_or text (i + length u) 0 ≡ get_or z 0 0 = ap (λ m. get_or text m 0) (omega arith) ∙ behind-part text u z i 0 e in
          absurd (both_ways _ (ap word_byte q ∙ a) (w.word (i + length u) (omega arith) p))
    ]
