-- How many are so, when some change; and the counts of a group.
use Rattle.std.proofs.Common.{◌≡◌, ℕ, zero, suc, ◌+◌, ◌<◌, ◌≤◌, Bool, true, false, cond, ◌&&◌, eqb, List, sym, refl, ap, ◌∙◌, inl, inr, add-zero, add-one, arith}
use Rattle.std.proofs.lemmas.Bool.{both_ways, cases_Bool, cases_eq, eq-eqb, ne_eqb}
use Rattle.lanes.specs.Syntax as body
use Rattle.lanes.specs.Syntax.{Body, at_barrier}
use Rattle.store.specs.declared.Sizes.{Sizes}
use Rattle.store.specs.Lent.{line_at, waiting_of_spec, ended_of, Aside}
use Rattle.store.specs.Counts.{how_many, Counted, Tallied}

pub many-start : (f : ℕ → Bool) → how_many f 0 ≡ 0
unfolding how_many
many-start f = refl

pub many_more : (f : ℕ → Bool) (n : ℕ) → how_many f (n + 1) ≡ how_many f n + cond (f n) 1 0
unfolding how_many
many_more f n = rw add-one

one_at_most : (b : Bool) → cond b 1 0 ≤ 1
one_at_most true = omega arith
one_at_most false = omega arith

pub many-few : (f : ℕ → Bool) (n : ℕ) → how_many f n ≤ n
unfolding how_many
many-few f zero = omega arith
many-few f (suc n) = let p = many-few f n in let q = one_at_most (f n) in omega arith

pub many-same : (f h : ℕ → Bool) (n : ℕ) → ((l : ℕ) → l < n → h l ≡ f l) → how_many h n ≡ how_many f n
unfolding how_many
many-same f h zero e = refl
many-same f h (suc n) e = rw (many-same f h n (λ l k. e l (omega arith)), e n (omega arith))

pub many-none : (f : ℕ → Bool) (n : ℕ) → ((l : ℕ) → l < n → f l ≡ false) → how_many f n ≡ 0
unfolding how_many
many-none f zero e = refl
many-none f (suc n) e = rw (many-none f n (λ l k. e l (omega arith)), e n (omega arith))

pub many-all : (f : ℕ → Bool) (n : ℕ) → ((l : ℕ) → l < n → f l ≡ true) → how_many f n ≡ n
unfolding how_many
many-all f zero e = refl
many-all f (suc n) e = rw (many-all f n (λ l k. e l (omega arith)), e n (omega arith)) (add-one n)

-- if not all are so, there is one that isn't; and if as many as there are are so, all are
pub some-not : (f : ℕ → Bool) (n : ℕ) → (how_many f n ≡ n → ⊥) → (l : ℕ) × (l < n) × (f l ≡ false)
unfolding how_many
some-not f zero ne = absurd (ne refl)
some-not f (suc n) ne = elim (cases_Bool (f n)) [
  | inl e ↦ let r = some-not f n (λ q. ne (rw (q, e) (add-one n))) in (r.0, (let h = r.1 in omega arith), r.2)
  | inr e ↦ (n, omega arith, e)
]

pub all-many : (f : ℕ → Bool) (n : ℕ) → how_many f n ≡ n → (l : ℕ) → l < n → f l ≡ true
unfolding how_many
all-many f zero e l h = absurd (omega arith)
all-many f (suc n) e l h = elim (cases_Bool (f n)) [
  | inl t ↦ let p : how_many f n + 1 ≡ suc n = rw t at e in
      elim (cases_eq l n) [ inl q ↦ rw q t | inr ne ↦ all-many f n (omega arith) l (omega arith) ]
  | inr t ↦ absurd (let p : how_many f n + 0 ≡ suc n = rw t at e in let q = many-few f n in omega arith)
]

-- one more
many-one : (f h : ℕ → Bool) (n i : ℕ) → i < n → f i ≡ false → h i ≡ true → ((l : ℕ) → l < n → (l ≡ i → ⊥) → h l ≡ f l) → how_many h n ≡ how_many f n + 1
unfolding how_many
many-one f h zero i hi a b e = absurd (omega arith)
many-one f h (suc n) i hi a b e = elim (cases_eq n i) [
  | inl q ↦ let p = many-same f h n (λ l k. e l (omega arith) (λ x. omega arith)) in rw (p, q, a, b) (omega arith)
  | inr ne ↦ let p = many-one f h n i (omega arith) a b (λ l k x. e l (omega arith) x) in rw (p, e n (omega arith) ne) (omega arith)
]

-- h, but that it isn't so of k
abbrev without : (ℕ → Bool) → ℕ → ℕ → Bool
without h k l = cond (eqb l k) false (h l)

without-here : (h : ℕ → Bool) (k : ℕ) → without h k k ≡ false
without-here h k = rw (eq-eqb k k refl)

without-else : (h : ℕ → Bool) (k l : ℕ) → (l ≡ k → ⊥) → without h k l ≡ h l
without-else h k l ne = rw (ne_eqb l k ne)

-- of those of a row of which m says so, none was so before, and some are so now; of all others it is so as it was
module _ (n start : ℕ) (m : ℕ → Bool) where
  abbrev pub RowCounts : (ℕ → Bool) → (ℕ → Bool) → ℕ → Type 0
  RowCounts f h i =
      ((j : ℕ) → j < i → m j ≡ true → start + j < n) → ((j : ℕ) → j < i → m j ≡ true → f (start + j) ≡ false) →
      ((l : ℕ) → l < n → ((j : ℕ) → l ≡ start + j → j < i → m j ≡ true → ⊥) → h l ≡ f l) → how_many h n ≡ how_many f n + how_many (λ j. m j && h (start + j)) i

  module _ (i : ℕ) (before : (f h : ℕ → Bool) → RowCounts f h i) (f h : ℕ → Bool) (there : (j : ℕ) → j < suc i → m j ≡ true → start + j < n)
      (off : (j : ℕ) → j < suc i → m j ≡ true → f (start + j) ≡ false) (same : (l : ℕ) → l < n → ((j : ℕ) → l ≡ start + j → j < suc i → m j ≡ true → ⊥) → h l ≡ f l) where
    other : (l : ℕ) → l < n → (l ≡ start + i → ⊥) → ((j : ℕ) → l ≡ start + j → j < i → m j ≡ true → ⊥) → h l ≡ f l
    other l k q ne = same l k (λ j x y o. ne j x (elim (cases_eq j i) [ inl r ↦ absurd (q (rw r at x)) | inr r ↦ omega arith ]) o)

    -- this one is not so, as before
    stays : (m i ≡ true → h (start + i) ≡ false) → (m i && h (start + i)) ≡ false → how_many h n ≡ how_many f n + how_many (λ j. m j && h (start + j)) (suc i)
    unfolding how_many
    stays not e =
        rw (e, add-zero (how_many (λ j. m j && h (start + j)) i))
        (before f h (λ j k. there j (omega arith)) (λ j k. off j (omega arith)) (λ l k ne. elim (cases_eq l (start + i)) [
          | inl q ↦ elim (cases_Bool (m i)) [
            | inl t ↦ rw q (not t ∙ sym (off i (omega arith) t))
            | inr t ↦ same l k (λ j x y o. elim (cases_eq j i) [ inl r ↦ both_ways (m i) t (rw r at o) | inr r ↦ ne j x (omega arith) o ])
          ]
          | inr q ↦ other l k q ne
        ]))

    -- it is so now
    comes : m i ≡ true → h (start + i) ≡ true → how_many h n ≡ how_many f n + how_many (λ j. m j && h (start + j)) (suc i)
    unfolding how_many
    comes a b =
        let one = many-one (without h (start + i)) h n (start + i) (there i (omega arith) a) (without-here h (start + i)) b (λ l k ne. sym (without-else h (start + i) l ne)) in
        let rec = before f (without h (start + i)) (λ j k. there j (omega arith)) (λ j k. off j (omega arith)) (λ l k ne. elim (cases_eq l (start + i)) [
          | inl q ↦ rw q (without-here h (start + i) ∙ sym (off i (omega arith) a))
          | inr q ↦ without-else h (start + i) l q ∙ other l k q ne
        ]) in
        let rest = many-same (λ j. m j && h (start + j)) (λ j. m j && without h (start + i) (start + j)) i (λ j k. rw (without-else h (start + i) (start + j) (λ x. omega arith))) in
        rw (a, b) (omega (arith, one, rec, rest))

    row_step : how_many h n ≡ how_many f n + how_many (λ j. m j && h (start + j)) (suc i)
    row_step = elim (cases_Bool (m i)) [
      | inl a ↦ elim (cases_Bool (h (start + i))) [ inl b ↦ comes a b | inr b ↦ stays (λ _. b) (rw (a, b)) ]
      | inr a ↦ stays (λ t. absurd (both_ways (m i) a t)) (rw a)
    ]

  pub many-row : (i : ℕ) (f h : ℕ → Bool) → RowCounts f h i
  unfolding how_many
  many-row zero f h there off same = many-same f h n (λ l k. same l k (λ j _ x _. absurd (omega arith))) ∙ sym (add-zero (how_many f n))
  many-row (suc i) f h there off same = row_step i (many-row i) f h there off same

-- both counts are put, one after the other
pub tallied : (z : Sizes) (g w e : ℕ) (ls ls' ls'' : List ℕ) → 0 < z.lanes → Aside z g 4 0 w ls ls' → Aside z g 5 0 e ls' ls'' → Tallied z g w e ls ls''
tallied z g w e ls ls' ls'' some p q = record {
  waiting = q.rest g 4 0 (omega arith) (omega arith) (λ _ x _. omega arith) ∙ p.here;
  ended = q.here;
  rest = λ g' s l hs hl ne. q.rest g' s l hs hl (λ a b _. ne a (inr b)) ∙ p.rest g' s l hs hl (λ a b _. ne a (inl b));
  lined = λ lines h. q.lined lines (p.lined lines h);
  grid = λ at cs. q.grid at cs ∙ p.grid at cs;
}

-- counts that are right stay so
module _ (z : Sizes) (at : ℕ → Body) (ls ls' : List ℕ) (g : ℕ) where
  pub counted_same : waiting_of_spec z ls' g ≡ waiting_of_spec z ls g → ended_of z ls' g ≡ ended_of z ls g → ((l : ℕ) → l < z.lanes → at (line_at z ls' g l) ≡ at (line_at z ls g l)) →
      Counted z at ls g → Counted z at ls' g
  counted_same w e same c = record {
    waiting = w ∙ c.waiting ∙ sym (many-same (λ l. at_barrier (at (line_at z ls g l))) (λ l. at_barrier (at (line_at z ls' g l))) z.lanes (λ l h. ap at_barrier (same l h)));
    ended = e ∙ c.ended ∙ sym (many-same (λ l. body.ended (at (line_at z ls g l))) (λ l. body.ended (at (line_at z ls' g l))) z.lanes (λ l h. ap body.ended (same l h)));
  }

  -- those of a row that could step, and of which some wait now, or have ended, are counted in
  pub counted-row : (start : ℕ) (m : ℕ → Bool) (i : ℕ) →
      ((j : ℕ) → j < i → m j ≡ true → start + j < z.lanes) → ((j : ℕ) → j < i → m j ≡ true → (at_barrier (at (line_at z ls g (start + j))) ≡ false) × (body.ended (at (line_at z ls g (start + j))) ≡ false)) →
      ((l : ℕ) → l < z.lanes → ((j : ℕ) → l ≡ start + j → j < i → m j ≡ true → ⊥) → line_at z ls' g l ≡ line_at z ls g l) →
      waiting_of_spec z ls' g ≡ waiting_of_spec z ls g + how_many (λ j. m j && at_barrier (at (line_at z ls' g (start + j)))) i →
      ended_of z ls' g ≡ ended_of z ls g + how_many (λ j. m j && body.ended (at (line_at z ls' g (start + j)))) i →
      Counted z at ls g → Counted z at ls' g
  counted-row start m i there off same w e c = record {
    waiting = w ∙ ap (λ (k : ℕ). k + how_many (λ j. m j && at_barrier (at (line_at z ls' g (start + j)))) i) c.waiting
        ∙ sym (many-row z.lanes start m i (λ l. at_barrier (at (line_at z ls g l))) (λ l. at_barrier (at (line_at z ls' g l))) there (λ j h o. (off j h o).0) (λ l h ne. ap (λ (k : ℕ). at_barrier (at k)) (same l h ne)));
    ended = e ∙ ap (λ (k : ℕ). k + how_many (λ j. m j && body.ended (at (line_at z ls' g (start + j)))) i) c.ended
        ∙ sym (many-row z.lanes start m i (λ l. body.ended (at (line_at z ls g l))) (λ l. body.ended (at (line_at z ls' g l))) there (λ j h o. (off j h o).1) (λ l h ne. ap (λ (k : ℕ). body.ended (at k)) (same l h ne)));
  }
