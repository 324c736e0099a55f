-- A refusal for a text's shape stands on the bytes up to its place, and on no others.
use Rattle.std.proofs.Common.{◌≡◌, ℕ, zero, suc, ◌+◌, ◌-◌, ◌<◌, ◌≤◌, true, false, cond, eqb, ltb, leb, List, [], ◌∷◌, ◌++◌, length, get_or, drop, Ok, Err, codes, Result, refl, ap, ◌∙◌, inl, inr, arith}
use Rattle.std.proofs.lemmas.Bool.{cases_Bool, leb-true, le-leb}
use Rattle.grammar.specs.Spelling.{letter, digit, word_byte, one_of}
use Rattle.grammar.specs.Runs.{run_of}
use Rattle.grammar.specs.Walk.{word_part, key_at, bytes_at, number_part, and_then}
use Rattle.grammar.specs.declared.refusals.Refusal.{Refusal}
use Rattle.grammar.specs.declared.refusals.Refusal.TheVariants.{Shape as No-text, Twice, ManyNames, ManyCells, Long}
use Rattle.grammar.proofs.Sound.{cond_cases, not_err, same_ok}
use Rattle.grammar.proofs.Goeson.{Agree, agree_less, agree-drop, run_at, run-least, SameRead, same_end, same_shape, same_then, same_cond, same_from, same_other}
use Rattle.grammar.proofs.Goesonexpr.{itself, bytes_same}
use Rattle.reader.specs.Heads.{is_key, name_at, names_at, Found}
use Rattle.reader.specs.declared.heads.Head.{Head}

abbrev pub found_of : Found → ℕ
found_of f = f.next - 1

abbrev pub head_of : Head → ℕ
head_of h = h.next - 1

no-twice : (i q : ℕ) → Twice i ≡ No-text q → ⊥
no-twice i q e = let z : ◌≡◌ {A = ℕ} 0 1 = cc in omega arith

no_names : (i q : ℕ) → ManyNames i ≡ No-text q → ⊥
no_names i q e = let z : ◌≡◌ {A = ℕ} 0 1 = cc in omega arith

no_cells : (i q : ℕ) → ManyCells i ≡ No-text q → ⊥
no_cells i q e = let z : ◌≡◌ {A = ℕ} 0 1 = cc in omega arith

no-long : (i q : ℕ) → Long i ≡ No-text q → ⊥
no-long i q e = let z : ◌≡◌ {A = ℕ} 0 1 = cc in omega arith

module _ (text t : List ℕ) where
  same-then-at : {X Y : Type 0} (pos : X → ℕ) (qos : Y → ℕ) (i : ℕ) (r s : Result X Refusal) (f g : X → Result Y Refusal)
      → SameRead text t pos i r s → ((x : X) → r ≡ Ok x → SameRead text t qos (pos x) (f x) (g x)) → SameRead text t qos i (and_then r f) (and_then s g)
  same-then-at pos qos i (Ok x) s f g a b =
      let p = a.ok x refl in
      record {
        ok = λ y e. let q = (b x refl).ok y e in let l : i ≤ qos y = omega (arith, p.0, q.0) in (l, λ h. rw (p.1 (agree_less (qos y) (pos x) text t q.0 h)) (q.1 h));
        err = λ m e. let q = (b x refl).err m e in let l : i ≤ m = omega (arith, p.0, q.0) in (l, λ h. rw (p.1 (agree_less m (pos x) text t q.0 h)) (q.1 h));
      }
  same-then-at pos qos i (Err d) s f g a b =
      record {
        ok = λ y e. absurd (not_err d y e);
        err = λ m e. let n : d ≡ No-text m = cc in let q = a.err m (ap (λ x. Err x) n) in (q.0, λ h. rw (q.1 h) refl);
      }

  same-swap : {X : Type 0} (pos : X → ℕ) (i : ℕ) (r s s' : Result X Refusal) → (Agree i text t → s' ≡ s) → SameRead text t pos i r s → SameRead text t pos i r s'
  same-swap pos i r s s' h a =
      record {
        ok = λ x e. let q = a.ok x e in (q.0, λ g. h (agree_less (pos x) i text t q.0 g) ∙ q.1 g);
        err = λ m e. let q = a.err m e in (q.0, λ g. h (agree_less m i text t q.0 g) ∙ q.1 g);
      }

  -- only refusals
  abbrev pub Refused : {X : Type 0} → ℕ → ℕ → Result X Refusal → Type 0
  Refused i q s = (i ≤ q) × (Agree q text t → s ≡ Err (No-text q))

  pub err-then : {X Y : Type 0} (pos : X → ℕ) (i q : ℕ) (r s : Result X Refusal) (f g : X → Result Y Refusal) → SameRead text t pos i r s
      → ((x : X) → r ≡ Ok x → f x ≡ Err (No-text q) → Refused (pos x) q (g x)) → and_then r f ≡ Err (No-text q) → Refused i q (and_then s g)
  err-then pos i q (Ok x) s f g a b e =
      let p = a.ok x refl in
      let k = b x refl e in
      let l : i ≤ q = omega (arith, p.0, k.0) in
      (l, λ h. rw (p.1 (agree_less q (pos x) text t k.0 h)) (k.1 h))
  err-then pos i q (Err d) s f g a b e = let n : d ≡ No-text q = cc in let k = a.err q (ap (λ x. Err x) n) in (k.0, λ h. rw (k.1 h) refl)

  -- a name of the own line
  abbrev name_rest : List (List ℕ) → List ℕ → ℕ → Result ℕ Refusal
  name_rest seen s i =
      cond (is_key (key_at s i)) (Err (No-text (i + run_of word_byte (drop i s))))
      (cond (one_of seen (word_part s i)) (Err (Twice i)) (cond (leb 64 (length seen)) (Err (ManyNames i)) (Ok (i + run_of word_byte (drop i s)))))

  abbrev name_long : List (List ℕ) → List ℕ → ℕ → Result ℕ Refusal
  name_long seen s i = cond (leb 9 (run_of word_byte (drop i s))) (Err (No-text (i + 8))) (name_rest seen s i)

  rest_ok : (seen : List (List ℕ)) (i x : ℕ) → name_rest seen text i ≡ Ok x → i + run_of word_byte (drop i text) ≡ x
  rest_ok seen i x e =
      elim (cond_cases (is_key (key_at text i)) _ _ (Ok x) e) [
        | inl k ↦ absurd (not_err (No-text (i + run_of word_byte (drop i text))) x k.1)
        | inr k ↦
            elim (cond_cases (one_of seen (word_part text i)) _ _ (Ok x) k.1) [
              | inl o ↦ absurd (not_err (Twice i) x o.1)
              | inr o ↦
                  elim (cond_cases (leb 64 (length seen)) _ _ (Ok x) o.1) [ inl m ↦ absurd (not_err (ManyNames i) x m.1) | inr m ↦ same_ok (i + run_of word_byte (drop i text)) x m.1 ]
            ]
      ]

  rest-err : (seen : List (List ℕ)) (i q : ℕ) → name_rest seen text i ≡ Err (No-text q) → i + run_of word_byte (drop i text) ≡ q
  rest-err seen i q e =
      elim (cond_cases (is_key (key_at text i)) _ _ (Err (No-text q)) e) [
        | inl k ↦ let x = k.1 in cc
        | inr k ↦
            elim (cond_cases (one_of seen (word_part text i)) _ _ (Err (No-text q)) k.1) [
              | inl o ↦ let x = o.1 in let z : ◌≡◌ {A = ℕ} 0 1 = cc in absurd (omega arith)
              | inr o ↦
                  elim (cond_cases (leb 64 (length seen)) _ _ (Err (No-text q)) o.1) [ inl m ↦ let x = m.1 in let z : ◌≡◌ {A = ℕ} 0 1 = cc in absurd (omega arith) | inr m ↦ let x = m.1 in let z : ◌≡◌ {A = ℕ} 0 1 = cc in absurd (omega arith) ]
            ]
      ]

  rest-same : (seen : List (List ℕ)) (i : ℕ) → leb 9 (run_of word_byte (drop i text)) ≡ false → Agree (i + run_of word_byte (drop i text)) text t → name_long seen t i ≡ name_rest seen text i
  rest-same seen i h a =
      let q = run_at text t word_byte refl i (i + run_of word_byte (drop i text)) (omega arith) a in
      rw (q.1, q.0, h) refl

  long_same : (seen : List (List ℕ)) (i : ℕ) → leb 9 (run_of word_byte (drop i text)) ≡ true → Agree (i + 8) text t → name_long seen t i ≡ Err (No-text (i + 8))
  long_same seen i h a =
      let q : 8 < run_of word_byte (drop i t) = run-least word_byte refl (drop i text) (drop i t) 8 (omega (arith, leb-true 9 (run_of word_byte (drop i text)) h)) (agree-drop (i + 8) i 8 text t (omega arith) a) in
      rw (le-leb 9 (run_of word_byte (drop i t)) (omega arith)) refl

  long-read : (seen : List (List ℕ)) (i : ℕ) → SameRead text t itself i (name_long seen text i) (name_long seen t i)
  long-read seen i =
      elim (cases_Bool (leb 9 (run_of word_byte (drop i text)))) [
        | inl h ↦ rw h (record {
          ok = λ x e. absurd (not_err (No-text (i + 8)) x e);
          err = λ q e. let n : i + 8 ≡ q = cc in let l : i ≤ q = omega arith in (l, λ a. long_same seen i h (agree_less q (i + 8) text t (omega arith) a) ∙ e);
        })
        | inr h ↦ rw h (record {
          ok = λ x e. let n = rest_ok seen i x e in let l : i ≤ x = omega arith in (l, λ a. rest-same seen i h (agree_less x (i + run_of word_byte (drop i text)) text t (omega arith) a) ∙ e);
          err = λ q e. let n = rest-err seen i q e in let l : i ≤ q = omega arith in (l, λ a. rest-same seen i h (agree_less q (i + run_of word_byte (drop i text)) text t (omega arith) a) ∙ e);
        })
      ]

  name-same : (seen : List (List ℕ)) (i : ℕ) → SameRead text t itself i (name_at seen text i) (name_at seen t i)
  unfolding name_at
  name-same seen i =
      same_cond text t itself i (letter (get_or text i 0)) (letter (get_or t i 0)) (name_long seen text i) (Err (No-text i)) (name_long seen t i) (Err (No-text i)) (λ a. ap letter (a.bytes i (omega arith))) (long-read seen i) (same_shape text t itself i i (omega arith))

  name-end : (seen : List (List ℕ)) (i x : ℕ) → name_at seen text i ≡ Ok x → i + run_of word_byte (drop i text) ≡ x
  unfolding name_at
  name-end seen i x e =
      elim (cond_cases (letter (get_or text i 0)) (name_long seen text i) (Err (No-text i)) (Ok x) e) [
        | inr p ↦ absurd (not_err (No-text i) x p.1)
        | inl p ↦
            elim (cond_cases (leb 9 (run_of word_byte (drop i text))) (Err (No-text (i + 8))) (name_rest seen text i) (Ok x) p.1) [ inl q ↦ absurd (not_err (No-text (i + 8)) x q.1) | inr q ↦ rest_ok seen i x q.1 ]
      ]

  abbrev after_name : List ℕ → ℕ → List (List ℕ) → ℕ → Result Found Refusal
  after_name s n seen m = cond (eqb (get_or s m 0) 10) (Ok (record { names = seen; next = m + 1 })) (names_at s n seen m)

  pub names_same : (n : ℕ) (seen : List (List ℕ)) (i : ℕ) → SameRead text t found_of i (names_at text n seen i) (names_at t n seen i)
  unfolding names_at
  names_same zero seen i = same_shape text t found_of i i (omega arith)
  names_same (suc n) seen i =
      same_then text t itself found_of i (bytes_at text (codes " ") i) (bytes_at t (codes " ") i) _ _ (bytes_same text t (codes " ") i)
      (λ j. same-then-at itself found_of j (name_at seen text j) (name_at seen t j) (after_name text n (seen ++ (word_part text j ∷ []))) (after_name t n (seen ++ (word_part t j ∷ []))) (name-same seen j)
      (λ m e. same-swap found_of m (after_name text n (seen ++ (word_part text j ∷ [])) m) (after_name t n (seen ++ (word_part text j ∷ [])) m) (after_name t n (seen ++ (word_part t j ∷ [])) m)
      (λ a. let q = run_at text t word_byte refl j m (omega (arith, name-end seen j m e)) a in ap (λ (w : List ℕ). after_name t n (seen ++ (w ∷ [])) m) q.1)
      (same_cond text t found_of m (eqb (get_or text m 0) 10) (eqb (get_or t m 0) 10) (Ok (record { names = seen ++ (word_part text j ∷ []); next = m + 1 })) (names_at text n (seen ++ (word_part text j ∷ [])) m)
      (Ok (record { names = seen ++ (word_part text j ∷ []); next = m + 1 })) (names_at t n (seen ++ (word_part text j ∷ [])) m) (λ a. ap (λ c. eqb c 10) (a.bytes m (omega arith)))
      (same_end text t found_of m _ (omega arith)) (names_same n (seen ++ (word_part text j ∷ [])) m))))

  -- the number of cells
  abbrev pub count-end : List ℕ → ℕ → ℕ → Result Head Refusal
  count-end s v k = and_then (bytes_at s (codes "\n") k) (λ n. Ok (record { many = v; next = n }))

  count-is : (s : List ℕ) (v k : ℕ) → count-end s v k ≡ cond (eqb (get_or s k 0) 10) (Ok (record { many = v; next = k + 1 })) (Err (No-text k))
  unfolding bytes_at
  count-is s v k = elim (cases_Bool (eqb (get_or s k 0) 10)) [ inl h ↦ rw h refl | inr h ↦ rw h refl ]

  count_same : (v k : ℕ) → SameRead text t head_of k (count-end text v k) (count-end t v k)
  count_same v k =
      rw (count-is text v k, count-is t v k)
      (same_cond text t head_of k (eqb (get_or text k 0) 10) (eqb (get_or t k 0) 10) (Ok (record { many = v; next = k + 1 })) (Err (No-text k)) (Ok (record { many = v; next = k + 1 })) (Err (No-text k))
      (λ a. ap (λ m. eqb m 10) (a.bytes k (omega arith))) (same_end text t head_of k _ (omega arith)) (same_shape text t head_of k k (omega arith)))

  abbrev pub count_at : List ℕ → ℕ → ℕ → ℕ → ℕ → Result Head Refusal
  count_at s i j v k = cond (ltb 16384 v) (Err (ManyCells j)) (cond (ltb 1024 (k - i)) (Err (Long (i + 1024))) (count-end s v k))

  count-at-same : (i j v k : ℕ) → SameRead text t head_of k (count_at text i j v k) (count_at t i j v k)
  count-at-same i j v k =
      same_cond text t head_of k (ltb 16384 v) (ltb 16384 v) (Err (ManyCells j)) (cond (ltb 1024 (k - i)) (Err (Long (i + 1024))) (count-end text v k)) (Err (ManyCells j)) (cond (ltb 1024 (k - i)) (Err (Long (i + 1024))) (count-end t v k)) (λ a. refl)
      (same_other text t head_of k (ManyCells j) _ (no_cells j))
      (same_cond text t head_of k (ltb 1024 (k - i)) (ltb 1024 (k - i)) (Err (Long (i + 1024))) (count-end text v k) (Err (Long (i + 1024))) (count-end t v k) (λ a. refl) (same_other text t head_of k (Long (i + 1024)) _ (no-long (i + 1024))) (count_same v k))

  abbrev pub number_at : List ℕ → ℕ → ℕ → Result Head Refusal
  number_at s i j = cond (digit (get_or s j 0)) (count_at s i j (number_part s j) (j + run_of digit (drop j s))) (Err (No-text j))

  pub number_same : (i j : ℕ) → SameRead text t head_of j (number_at text i j) (number_at t i j)
  number_same i j =
      let k : ℕ = j + run_of digit (drop j text) in
      same_cond text t head_of j (digit (get_or text j 0)) (digit (get_or t j 0)) (count_at text i j (number_part text j) k) (Err (No-text j)) (count_at t i j (number_part t j) (j + run_of digit (drop j t))) (Err (No-text j)) (λ a. ap digit (a.bytes j (omega arith)))
      (same_from text t head_of j k _ _ (omega arith)
      (same-swap head_of k (count_at text i j (number_part text j) k) (count_at t i j (number_part text j) k) (count_at t i j (number_part t j) (j + run_of digit (drop j t)))
      (λ a. let q = run_at text t digit refl j k (omega arith) a in rw (q.1, q.0) refl) (count-at-same i j (number_part text j) k)))
      (same_shape text t head_of j j (omega arith))

  abbrev pub cells_here : List ℕ → ℕ → Result Head Refusal
  cells_here s i = and_then (bytes_at s (codes "cells ") i) (λ j. number_at s i j)

  pub cells-here-same : (i : ℕ) → SameRead text t head_of i (cells_here text i) (cells_here t i)
  cells-here-same i = same_then text t itself head_of i (bytes_at text (codes "cells ") i) (bytes_at t (codes "cells ") i) (λ j. number_at text i j) (λ j. number_at t i j) (bytes_same text t (codes "cells ") i) (λ j. number_same i j)
