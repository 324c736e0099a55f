-- Where the parts of an expression stand, and what it is worth by theirs.
use Rattle.std.proofs.Common.{◌≡◌, ℕ, ◌+◌, ◌-◌, ◌<◌, ◌≤◌, true, false, ◌≢◌, List, length, get_or, take, sym, ap, ◌∙◌, subst, inl, inr, add-zero, arith}
use Rattle.std.specs.List.{between}
use Rattle.std.proofs.lemmas.List.{length-append, length-drop, take_at}
use Rattle.std.proofs.lemmas.Bool.{both_ways, cases_Bool}
use Rattle.lanes.specs.Syntax.{Expr}
use Rattle.grammar.specs.Spelling.{Named, SpellsExpr, word_byte}
use Rattle.grammar.specs.Stands.{Stands}
use Rattle.grammar.specs.Names.{NamesIn, Distinct}
use Rattle.grammar.specs.Words.{WordEnd}
use Rattle.grammar.proofs.Scanned.{byte_at, at_part, word-ends}
use Rattle.values.specs.declared.leaves.Leaf.{Leaf}
use Rattle.values.specs.declared.leaves.Leaf.TheVariants.{Fixed, Own, Lane, Group, Lanes}
use Rattle.values.specs.declared.row.Row.{Row}
use Rattle.values.specs.Worth.{simple, LeafIs, LeafAt}
use Rattle.values.specs.Rows.{LeafWorth, Evaluated}
use Rattle.values.proofs.Spelt.{word-spelt, halves}

module _ (ns : List (List ℕ)) (text : List ℕ) (n : NamesIn ns text) (i : ℕ) (e : Expr) (s : Stands (Named ns) text i e) where
  first_byte : 1 ≤ length s.spelling → get_or text i 0 ≡ get_or s.spelling 0 0
  first_byte h = ap (λ m. get_or text m 0) (sym (add-zero i)) ∙ at_part text s.spelling s.behind i 0 s.here h

  room : 1 ≤ length s.spelling → i + length s.spelling ≤ length text
  room h = omega (arith, h, length-drop i text, ap length s.here, length-append s.spelling s.behind)

  opens : simple e ≡ false → get_or text i 0 ≡ 40
  opens f =
      let h = halves ns e s.spelling s.spells f in
      first_byte (omega (arith, ap length h.whole)) ∙ ap (λ t. get_or t 0 0) h.whole

  no-bracket : simple e ≡ true → get_or text i 0 ≢ 40
  no-bracket t q =
      let w = word-spelt ns text s.spelling n e s.spells t in
      both_ways (word_byte (get_or text i 0)) (ap word_byte q) (ap word_byte (first_byte w.some) ∙ byte_at word_byte s.spelling 0 w.bytes w.some)

  is_word : get_or text i 0 ≢ 40 → simple e ≡ true
  is_word h = elim (cases_Bool (simple e)) [ inl p ↦ p | inr p ↦ absurd (h (opens p)) ]

  pub is-bracket : get_or text i 0 ≡ 40 → simple e ≡ false
  is-bracket h = elim (cases_Bool (simple e)) [ inl p ↦ absurd (no-bracket p h) | inr p ↦ p ]

  some-text : 1 ≤ length s.spelling
  some-text =
      elim (cases_Bool (simple e)) [
        | inl p ↦ (word-spelt ns text s.spelling n e s.spells p).some
        | inr p ↦ omega (arith, ap length (halves ns e s.spelling s.spells p).whole)
      ]

  pub in-text : i + length s.spelling ≤ length text
  in-text = room some-text

  pub here-text : i < length text
  here-text = omega (arith, some-text, in-text)

  -- A word: it ends where the run of letters and digits ends.
  module _ (h : get_or text i 0 ≢ 40) (j : ℕ) (we : WordEnd text i j) where
    pub word-stop : j ≡ i + length s.spelling
    word-stop = word-ends text i j s.spelling s.behind we s.here (word-spelt ns text s.spelling n e s.spells (is_word h)).bytes s.apart

    pub word_part : between i j text ≡ s.spelling
    word_part = ap (λ t. take (j - i) t) s.here ∙ take_at s.spelling s.behind (j - i) (omega (arith, word-stop))

    pub word-leaf : (leaf : Leaf) → Distinct ns → LeafAt simple text (between i j text) leaf → LeafIs (length ns) leaf e
    word-leaf leaf di at = at ns n di e (subst (λ (t : List ℕ). SpellsExpr (Named ns) e t) (sym word_part) s.spells) (is_word h)

-- An own number below one bound is below a larger one.
pub leaf-more : (m n : ℕ) (leaf : Leaf) (e : Expr) → m ≤ n → LeafIs m leaf e → LeafIs n leaf e
leaf-more m n (Fixed a) e h is = is
leaf-more m n (Own k) e h is = (is.0, omega (arith, is.1))
leaf-more m n Lane e h is = is
leaf-more m n Group e h is = is
leaf-more m n Lanes e h is = is

pub word-evaluated : (text : List ℕ) (i : ℕ) (r : Row) (out : List ℕ) (j : ℕ) (leaf : Leaf) → get_or text i 0 ≢ 40 → WordEnd text i j → LeafAt simple text (between i j text) leaf → LeafWorth leaf r out → Evaluated text i r out j
word-evaluated text i r out j leaf h we at worth =
    record {
      from = we.from;
      within = we.within;
      stop = λ ns n di le e s. word-stop ns text n i e s h j we;
      each = λ ns n di le e s. worth e (leaf-more (length ns) r.owns leaf e le (word-leaf ns text n i e s h j we leaf di at));
    }

pub none-evaluated : (text : List ℕ) (i : ℕ) (r : Row) (out : List ℕ) → length text ≤ i → Evaluated text i r out i
none-evaluated text i r out h =
    record {
      from = omega arith;
      within = λ q. q;
      stop = λ ns n di le e s. absurd (omega (arith, here-text ns text n i e s));
      each = λ ns n di le e s. absurd (omega (arith, here-text ns text n i e s));
    }
