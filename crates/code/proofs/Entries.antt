-- One entry read, and one written, and what that leaves.
use Rattle.std.proofs.Common.{◌≡◌, ℕ, zero, suc, ◌+◌, ◌*◌, ◌/◌, ◌<◌, ◌≤◌, ◌⊎◌, List, length, get_or, drop, set, Some, None, Option, Bor, sym, ap, ◌∙◌, inl, inr, ⊎_elim, add-zero, not-suc-le-zero, arith, length-set, MatchOption}
use borrow.Rule.Slice.PartMut.{put_mid}
use Rattle.std.specs.Option.{IfSome}
use Rattle.std.specs.Simd.{first_chunks}
use Rattle.std.proofs.lemmas.List.{get_or-set_same, get_or-set_other, get_or-take, get_or-drop, places}
use Rattle.std.proofs.lemmas.Bool.{cases_order, lt-ltb}
use Rattle.code.specs.declared.step.Step.{Step}
use Rattle.code.specs.Words.{step_of, step_at, text_line_spec, EntryAt, Wrote}

-- A word of one of k pieces of n words.
piece-at : (n k : ℕ) (ws : List ℕ) (i j : ℕ) (d : List ℕ) → i < k → j < n → get_or (get_or (first_chunks n k ws) i d) j 0 ≡ get_or ws (i * n + j) 0
piece-at n zero ws i j d h g = absurd (not-suc-le-zero h)
piece-at n (suc k) ws zero j d h g = get_or-take n ws j 0 g ∙ ap (λ (m : ℕ). get_or ws m 0) (omega arith)
piece-at n (suc k) ws (suc i) j d h g = piece-at n k (drop n ws) i j d (omega arith) g ∙ get_or-drop n ws (i * n + j) 0 ∙ ap (λ (m : ℕ). get_or ws m 0) (next n i j)
  where
    next : (n i j : ℕ) → n + (i * n + j) ≡ suc i * n + j
    next n i j = omega arith

-- What a look at the pieces of 16 words gives.
pub entry-read : (ws : List ℕ) (front : List (List ℕ)) (i : ℕ) (Q : Bor (List ℕ) → Type 0) (r : Option (Bor (List ℕ))) → front ≡ first_chunks 16 (length ws / 16) ws → length front ≡ length ws / 16
    → IfSome r (λ x. x.now ≡ get_or front i x.now) → MatchOption r (length front ≤ i) (λ x. (i < length front) × Q x) → MatchOption r (length ws / 16 ≤ i) (λ e. (i < length ws / 16) × EntryAt ws i e.now)
entry-read ws front i Q None f n one two = omega arith
entry-read ws front i Q (Some e) f n one two =
    let here : i < length ws / 16 = omega (arith, two.0) in
    let word : (j : ℕ) → j < 16 → get_or e.now j 0 ≡ get_or ws (i * 16 + j) 0 = λ j h. ap (λ (t : List ℕ). get_or t j 0) (one ∙ ap (λ (t : List (List ℕ)). get_or t i e.now) f) ∙ piece-at 16 (length ws / 16) ws i j e.now here h in
    (here, record { kind = word 0 (omega arith) ∙ ap (λ (m : ℕ). get_or ws m 0) (add-zero (i * 16)); first = word 1 (omega arith); second = word 2 (omega arith); third = word 3 (omega arith); fourth = word 4 (omega arith); line = word 15 (omega arith) })

-- Five words and the line of the text, written at entry i.
length_part : (ws ys : List ℕ) (m k : ℕ) → k ≡ length ys → m + k ≤ length ws → length (put_mid m k ws ys) ≡ length ws
length_part ws ys m k e h = grind (arith, places)

part_in : (ws ys : List ℕ) (m k j : ℕ) → k ≡ length ys → m + k ≤ length ws → j < length ys → get_or (put_mid m k ws ys) (m + j) 0 ≡ get_or ys j 0
part_in ws ys m k j e h g = grind (arith, places)

part_out : (ws ys : List ℕ) (m k q : ℕ) → k ≡ length ys → m + k ≤ length ws → (q < m) ⊎ (m + k ≤ q) → get_or (put_mid m k ws ys) q 0 ≡ get_or ws q 0
part_out ws ys m k q e h g = grind (arith, places)

pub wrote : (ws ys : List ℕ) (i k l : ℕ) (s : Step) → i < length ws / 16 → k ≡ 5 → length ys ≡ 5 → step_of (get_or ys 0 0) (get_or ys 1 0) (get_or ys 2 0) (get_or ys 3 0) (get_or ys 4 0) ≡ s
    → Wrote ws (set (put_mid (i * 16) k ws ys) (i * 16 + 15) l) i s l
unfolding step_at text_line_spec
wrote ws ys i k l s h e n q =
    let fits : i * 16 + 16 ≤ length ws = omega arith in
    let part : List ℕ = put_mid (i * 16) k ws ys in
    let long_part : length part ≡ length ws = length_part ws ys (i * 16) k (omega arith) (omega arith) in
    let long : length (set part (i * 16 + 15) l) ≡ length ws = simp length-set long_part in
    let word : (j : ℕ) → j < 5 → get_or (set part (i * 16 + 15) l) (i * 16 + j) 0 ≡ get_or ys j 0 =
    λ j g. get_or-set_other part (i * 16 + 15) (i * 16 + j) l 0 (λ u. omega arith) ∙ part_in ws ys (i * 16) k j (omega arith) (omega arith) (omega arith) in
    let kind : get_or (set part (i * 16 + 15) l) (i * 16) 0 ≡ get_or ys 0 0 = ap (λ (m : ℕ). get_or (set part (i * 16 + 15) l) m 0) (sym (add-zero (i * 16))) ∙ word 0 (omega arith) in
    let others : (m : ℕ) → (m < i * 16) ⊎ (i * 16 + 16 ≤ m) → get_or (set part (i * 16 + 15) l) m 0 ≡ get_or ws m 0 =
    λ m u. get_or-set_other part (i * 16 + 15) m l 0 (λ v. ⊎_elim (λ p. omega arith) (λ p. omega arith) u) ∙ part_out ws ys (i * 16) k m (omega arith) (omega arith) (⊎_elim (λ p. inl p) (λ p. inr (omega arith)) u) in
    record {
      here = λ lines g. rw (lt-ltb i lines g, long, lt-ltb i (length ws / 16) h, kind, word 1 (omega arith), word 2 (omega arith), word 3 (omega arith), word 4 (omega arith)) q;
      told = get_or-set_same part (i * 16 + 15) l 0 (omega arith);
      others = λ j lines g.
          let away : (m : ℕ) → m < 16 → (j * 16 + m < i * 16) ⊎ (i * 16 + 16 ≤ j * 16 + m) =
          λ m u. elim (cases_order j i) [ inl p ↦ absurd (g p) | inr (inl p) ↦ inl (omega arith) | inr (inr p) ↦ inr (omega arith) ] in
          let away0 : (j * 16 < i * 16) ⊎ (i * 16 + 16 ≤ j * 16) =
          elim (cases_order j i) [ inl p ↦ absurd (g p) | inr (inl p) ↦ inl (omega arith) | inr (inr p) ↦ inr (omega arith) ] in
          rw (long, others (j * 16) away0, others (j * 16 + 1) (away 1 (omega arith)), others (j * 16 + 2) (away 2 (omega arith)), others (j * 16 + 3) (away 3 (omega arith)), others (j * 16 + 4) (away 4 (omega arith)));
      lines_kept = λ j g.
          others (j * 16 + 15) (elim (cases_order j i) [ inl p ↦ absurd (g p) | inr (inl p) ↦ inl (omega arith) | inr (inr p) ↦ inr (omega arith) ]);
      long = long;
      words_kept = others;
    }
