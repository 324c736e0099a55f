-- Each way through the lines before the body is what specs/Heads says.
use Rattle.std.proofs.Common.{◌≡◌, ℕ, zero, suc, ◌+◌, ◌-◌, ◌<◌, ◌≤◌, Bool, true, false, cond, eqb, leb, List, [], ◌∷◌, ◌++◌, length, get_or, take, drop, Some, None, Ok, Err, codes, Option, Result, sym, refl, ap, ◌∙◌, inl, inr, arith}
use Rattle.std.proofs.lemmas.Bool.{cases_Bool, le-leb, lt-leb}
use Rattle.std.specs.Option.{is_some}
use Rattle.grammar.specs.Spelling.{letter, word_byte, one_of}
use Rattle.grammar.specs.Runs.{run_of}
use Rattle.grammar.specs.Words.{WordEnd}
use Rattle.grammar.specs.Walk.{short_word_at, word_part, key_at, bytes_at, and_then}
use Rattle.grammar.specs.declared.refusals.Refusal.{Refusal}
use Rattle.grammar.specs.declared.refusals.Refusal.TheVariants.{Shape, Twice, ManyNames}
use Rattle.grammar.specs.declared.keywords.Keyword.{Keyword}
use Rattle.grammar.proofs.Walks.{Keyed, key_here, word_end_run}
use Rattle.grammar.proofs.Atoms.{then-err, then_ok}
use Rattle.reader.specs.Heads.{is_key, is_own_spec, name_at, names_at, own_at, counted}

pub no_key : (w : List ℕ) (k : Option Keyword) → Keyed w k → is_some k ≡ false → Keyed w None
no_key w None q s = q
no_key w (Some k) q s = let z : ◌≡◌ {A = Bool} true false = s in absurd (grind arith)

module _ (seen : List (List ℕ)) (text : List ℕ) (i : ℕ) where
  -- what a short word, up to byte r, is as a name
  abbrev as_name : ℕ → Result ℕ Refusal
  as_name r = cond (is_key (key_at text i)) (Err (Shape r)) (cond (one_of seen (word_part text i)) (Err (Twice i)) (cond (leb 64 (length seen)) (Err (ManyNames i)) (Ok r)))

  name_by : and_then (short_word_at text i) as_name ≡ name_at seen text i
  unfolding name_at short_word_at
  name_by =
      elim (cases_Bool (letter (get_or text i 0))) [
        | inl p ↦ elim (cases_Bool (leb 9 (run_of word_byte (drop i text)))) [ inl q ↦ rw (p, q) refl | inr q ↦ rw (p, q) refl ]
        | inr p ↦ rw p refl
      ]

  pub name_err : (e : Refusal) → Err e ≡ short_word_at text i → Err e ≡ name_at seen text i
  name_err e h = then-err (short_word_at text i) as_name e h ∙ name_by

  module _ (r : ℕ) (h : Ok r ≡ short_word_at text i) (w : WordEnd text i r) where
    made : as_name r ≡ name_at seen text i
    made = then_ok (short_word_at text i) as_name r h ∙ name_by

    part : take (r - i) (drop i text) ≡ word_part text i
    part = ap (λ m. take m (drop i text)) (omega (arith, word_end_run text i r w))

    pub name-key : (k : Option Keyword) → Keyed (take (r - i) (drop i text)) k → is_some k ≡ true → Err (Shape r) ≡ name_at seen text i
    name-key None q s = let z : ◌≡◌ {A = Bool} false true = s in absurd (grind arith)
    name-key (Some k) q s = let e : Err (Shape r) ≡ as_name r = rw (sym (key_here text i r (Some k) w q)) refl in e ∙ made

    module _ (q : Keyed (take (r - i) (drop i text)) None) where
      free : None ≡ key_at text i
      free = key_here text i r None w q

      pub name-twice : true ≡ one_of seen (take (r - i) (drop i text)) → Err (Twice i) ≡ name_at seen text i
      name-twice o = let e : Err (Twice i) ≡ as_name r = rw (sym free, sym (o ∙ ap (one_of seen) part)) refl in e ∙ made

      module _ (o : false ≡ one_of seen (take (r - i) (drop i text))) where
        pub name-many : 64 ≤ length seen → Err (ManyNames i) ≡ name_at seen text i
        name-many m = let e : Err (ManyNames i) ≡ as_name r = rw (sym free, sym (o ∙ ap (one_of seen) part), le-leb 64 (length seen) m) refl in e ∙ made

        pub name-ok : length seen < 64 → Ok r ≡ name_at seen text i
        name-ok m = let e : Ok r ≡ as_name r = rw (sym free, sym (o ∙ ap (one_of seen) part), lt-leb 64 (length seen) m) refl in e ∙ made

-- the names one after the other
module _ (text : List ℕ) where
  pub names-step : (n : ℕ) (seen : List (List ℕ)) (i : ℕ) → 0 < n
      → and_then (bytes_at text (codes " ") i) (λ j. and_then (name_at seen text j) (λ e. cond (eqb (get_or text e 0) 10) (Ok (record { names = seen ++ (word_part text j ∷ []); next = e + 1 })) (names_at text (n - 1) (seen ++ (word_part text j ∷ [])) e)))
      ≡ names_at text n seen i
  unfolding names_at
  names-step zero seen i h = absurd (omega arith)
  names-step (suc n) seen i h = let q : suc n - 1 ≡ n = omega arith in rw q refl

  pub own-none : is_own_spec (key_at text 0) ≡ false → Ok (record { many = 0; next = 0 }) ≡ counted (own_at text)
  unfolding own_at
  own-none h = rw h refl

  pub own-some : is_own_spec (key_at text 0) ≡ true → names_at text 66 [] 3 ≡ own_at text
  unfolding own_at
  own-some h = rw h refl
