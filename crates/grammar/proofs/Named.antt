-- Walking through the line that names own numbers.
use Rattle.std.proofs.Common.{◌≡◌, ℕ, ◌+◌, ◌-◌, ◌<◌, ◌≤◌, ◌≢◌, List, [], ◌∷◌, ◌++◌, length, get_or, take, drop, codes, sym, refl, ap, ◌∙◌, inl, inr, append_assoc, add-zero, arith}
use Rattle.std.specs.List.{between}
use Rattle.std.proofs.lemmas.List.{drop_more, drop_all, drop_at, drop-drop, take_at, get_or-drop}
use Rattle.std.proofs.lemmas.Bool.{cases_lt, cases_eq}
use Rattle.grammar.specs.Stands.{Apart}
use Rattle.grammar.specs.Words.{WordEnd}
use Rattle.grammar.specs.Names.{spaced, NamesIn, NamesAt, FirstAt}
use Rattle.grammar.proofs.Scanned.{word-ends}

-- From byte i on stand the names from place k on, and then z; none of those before is u.
pub record Walked (ns : List (List ℕ)) (text z u : List ℕ) (i k : ℕ) : Type 0 where
  pub left : drop i text ≡ spaced (drop k ns) ++ z
  pub passed : (j : ℕ) → j < k → j < length ns → get_or ns j [] ≢ u

-- The line of names is there exactly if there are names.
line-begins : (ns : List (List ℕ)) (rest : List ℕ) → ns ≢ [] → take 4 ((codes "own" ++ (spaced ns ++ (10 ∷ []))) ++ rest) ≡ codes "own "
line-begins [] rest h = absurd (h refl)
line-begins (n ∷ ns) rest h = refl

pub no_names : (ns : List (List ℕ)) (text u : List ℕ) → NamesIn ns text → (take 4 text ≡ codes "own " → ⊥) → (k : ℕ) → k < length ns → get_or ns k [] ≢ u
no_names ns text u n e k h =
    elim n.own_line [
      | inl p ↦ absurd (omega (arith, ap length p.0))
      | inr p ↦ absurd (e (ap (λ t. take 4 t) (n.whole ∙ ap (λ t. t ++ n.rest) p.1) ∙ line-begins ns n.rest p.0))
    ]

-- No name is empty.
pub not-empty : (ns : List (List ℕ)) (text u : List ℕ) → NamesIn ns text → length u ≡ 0 → (k : ℕ) → k < length ns → get_or ns k [] ≢ u
not-empty ns text u n e k h q = omega (arith, (n.names k h).some, ap length q)

pub apart-spaced : (ns : List (List ℕ)) (z : List ℕ) → Apart z → Apart (spaced ns ++ z)
apart-spaced [] z a = a
apart-spaced (n ∷ ns) z a = refl

-- What stands at byte i up to e, if there is another name: a space and the name, and then the names behind it.
pub record Next (ns : List (List ℕ)) (text z u : List ℕ) (i k e : ℕ) : Type 0 where
  pub more : k < length ns
  pub name : between (i + 1) e text ≡ get_or ns k []
  pub on : get_or ns k [] ≢ u → Walked ns text z u e (k + 1)

module _ (ns : List (List ℕ)) (text z u : List ℕ) (many i k : ℕ) (n : NamesAt ns z many text) (w : Walked ns text z u i k) where
  first_byte : (t : List ℕ) → drop i text ≡ t → get_or text i 0 ≡ get_or t 0 0
  first_byte t e = ap (λ m. get_or text m 0) (sym (add-zero i)) ∙ sym (get_or-drop i text 0 0) ∙ ap (λ t. get_or t 0 0) e

  -- no name is left: what comes is behind them
  ends : length ns ≤ k → get_or text i 0 ≡ get_or z 0 0
  ends h = first_byte z (w.left ∙ ap (λ ms. spaced ms ++ z) (drop_all k ns h))

  -- a name is left
  space : k < length ns → drop i text ≡ 32 ∷ (get_or ns k [] ++ (spaced (drop (k + 1) ns) ++ z))
  space h = w.left ∙ ap (λ ms. spaced ms ++ z) (drop_more ns k [] h) ∙ ap (λ t. 32 ∷ t) (append_assoc (get_or ns k []) (spaced (drop (k + 1) ns)) z)

  pub stopped : (get_or text i 0 ≡ 32 → ⊥) → (j : ℕ) → j < length ns → get_or ns j [] ≢ u
  stopped h j hj =
      elim (cases_lt k (length ns)) [ inl p ↦ absurd (h (first_byte _ (space p))) | inr p ↦ w.passed j (omega arith) hj ]

  module _ (e : ℕ) (we : WordEnd text (i + 1) e) (h : k < length ns) where
    from_name : drop (i + 1) text ≡ get_or ns k [] ++ (spaced (drop (k + 1) ns) ++ z)
    from_name = sym (drop-drop 1 i text) ∙ ap (λ t. drop 1 t) (space h)

    end_is : e ≡ (i + 1) + length (get_or ns k [])
    end_is = word-ends text (i + 1) e (get_or ns k []) _ we from_name (n.words k h) (apart-spaced (drop (k + 1) ns) z n.apart)

    next_there : Next ns text z u i k e
    next_there =
        record {
          more = h;
          name = ap (λ t. take (e - (i + 1)) t) from_name ∙ take_at (get_or ns k []) _ (e - (i + 1)) (omega (arith, end_is));
          on = λ ne. record {
            left = ap (λ m. drop m text) end_is ∙ sym (drop-drop (length (get_or ns k [])) (i + 1) text) ∙ ap (λ t. drop (length (get_or ns k [])) t) from_name ∙ drop_at (get_or ns k []) _ _ refl;
            passed = λ j hj hn. elim (cases_eq j k) [ inl p ↦ (λ q. ne (ap (λ m. get_or ns m []) (sym p) ∙ q)) | inr p ↦ w.passed j (omega arith) hn ];
          };
        }

  pub next : (e : ℕ) → WordEnd text (i + 1) e → k < many → get_or text i 0 ≡ 32 → Next ns text z u i k e
  next e we m h =
      elim (cases_lt k (length ns)) [
        | inl p ↦ next_there e we p
        | inr p ↦ absurd (elim n.all [ inl q ↦ omega arith | inr q ↦ q.1 (sym (ends p) ∙ h) ])
      ]

  pub found : (e : ℕ) → Next ns text z u i k e → between (i + 1) e text ≡ u → FirstAt ns u k
  found e x q = record { there = x.more; is = sym x.name ∙ q; first = λ j h. w.passed j h (omega (arith, x.more)) }
