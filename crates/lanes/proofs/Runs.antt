-- Rows of turns that all can be done, to one end: any turn that can be done can be pulled to the front, so every row of turns goes on to the same end.
-- Pulling a turn to the front keeps each lane's own marks in their order.
use Rattle.std.proofs.Common.{◌≡◌, ℕ, zero, suc, ◌+◌, ◌<◌, true, false, ◌&&◌, eqb, ◌⊎◌, List, [], ◌∷◌, ◌++◌, length, get_or, sym, refl, ap, ◌∙◌, subst, inl, inr, append_assoc, suc-le-suc, zero-le, le_of_suc-le-suc, not-suc-le-zero, arith}
use Rattle.std.proofs.lemmas.Bool.{cases_Bool, cases_eq}
use Rattle.std.proofs.lemmas.Bool.Decides.{nat_tests}
use Rattle.lanes.specs.Step.{Touch}
use Rattle.lanes.specs.Grid.{Grid, Mark, Turn, of, release, can, did, marks, marks_at, weight, turns, marked, steps}
use Rattle.lanes.specs.Race.{race}
use Rattle.lanes.specs.Promise.{Apart, marks_of}
use Rattle.lanes.proofs.Turns.{turn-idle, marked-idle, steps-idle, turns-did, marked-did, steps-did}
use Rattle.lanes.proofs.Crossing.{All, apart, apart-sym, same-can, same-marks, cross}

module _ {A : Type 0} (P : A → Type 0) where
  pub all_append : (xs ys : List A) → All P xs → All P ys → All P (xs ++ ys)
  all_append [] ys s t = t
  all_append (x ∷ xs) ys s t = (s.0, all_append xs ys s.1 t)

  pub all_left : (xs ys : List A) → All P (xs ++ ys) → All P xs
  all_left [] ys s = tt
  all_left (x ∷ xs) ys s = (s.0, all_left xs ys s.1)

  pub all_right : (xs ys : List A) → All P (xs ++ ys) → All P ys
  all_right [] ys s = s
  all_right (x ∷ xs) ys s = all_right xs ys s.1

  pub all-at : (xs : List A) (j : ℕ) (a : A) → All P xs → j < length xs → get_or xs j a ≡ a → P a
  all-at [] j a s h e = absurd (not-suc-le-zero h)
  all-at (x ∷ xs) zero a s h e = subst P e s.0
  all-at (x ∷ xs) (suc j) a s h e = all-at xs j a s.1 (le_of_suc-le-suc h) e

  pub all_from : (xs : List A) → ((j : ℕ) (a : A) → j < length xs → get_or xs j a ≡ a → P a) → All P xs
  all_from [] f = tt
  all_from (x ∷ xs) f = (f 0 x (suc-le-suc zero-le) refl, all_from xs (λ j a h e. f (suc j) a (suc-le-suc h) e))

-- the marks of one lane
pub marks_of-append : (g l : ℕ) (ms ks : List Mark) → marks_of g l (ms ++ ks) ≡ marks_of g l ms ++ marks_of g l ks
unfolding marks_of
marks_of-append g l [] ks = refl
marks_of-append g l (a ∷ ms) ks =
    elim (cases_Bool (eqb a.by_group g && eqb a.by_lane l)) [
      | inl e ↦ rw (e, marks_of-append g l ms ks)
      | inr e ↦ rw (e, marks_of-append g l ms ks)
    ]

marks-other : (g l h k p : ℕ) (ts : List Touch) → (h ≡ g → k ≡ l → ⊥) → marks_of g l (marks h k p ts) ≡ []
unfolding marks_of marks
marks-other g l h k p [] a = refl
marks-other g l h k p (t ∷ ts) a = let z = marks-other g l h k p ts a in let q : (eqb h g && eqb k l) ≡ false = grind (arith, nat_tests) in rw (q, z)

-- of two turns of different lanes one has no mark of a lane
one_none : (n : ℕ) (d : Grid) (x u : Turn) (g l : ℕ) → Apart x u → (marks_of g l (marks_at n d x) ≡ []) ⊎ (marks_of g l (marks_at n d u) ≡ [])
unfolding Apart marks_at marks_of
one_none n d (release h) u g l a = inl refl
one_none n d (of h k) (release i) g l a = inr refl
one_none n d (of h k) (of i j) g l a =
    elim (cases_eq h g) [
      | inr q ↦ inl (marks-other g l h k _ _ (λ e _. q e))
      | inl q ↦ elim (cases_eq k l) [
        | inr r ↦ inl (marks-other g l h k _ _ (λ _ e. r e))
        | inl r ↦ inr (marks-other g l i j _ _ (λ e f. a (q ∙ sym e) (r ∙ sym f)))
      ]
    ]

-- so they may stand in either order
swapped : (xs ys zs : List Mark) → (xs ≡ []) ⊎ (ys ≡ []) → xs ++ (ys ++ zs) ≡ ys ++ (xs ++ zs)
swapped xs ys zs (inl e) = rw e
swapped xs ys zs (inr e) = rw e

-- a row of turns that can be done, from a grid to e, with the marks ms, all of which have P, in k steps of lanes
pub data Run (n : ℕ) (P : Mark → Type 0) (e : Grid) : ℕ → List Mark → Grid → Type 0 where
  stop : {d : Grid} → d ≡ e → Run n P e 0 [] d
  go : {d : Grid} {k : ℕ} {ms : List Mark} (t : Turn) → can n d t ≡ true → All P (marks_at n d t) → Run n P e k ms (did n d t) → Run n P e (weight t + k) (marks_at n d t ++ ms) d

-- the same run under another name of its grid, its number or its marks
at-grid : {n : ℕ} {P : Mark → Type 0} {e : Grid} {k : ℕ} {ms : List Mark} {d z : Grid} → d ≡ z → Run n P e k ms d → Run n P e k ms z
at-grid {n} {P} {e} {k} {ms} q r = subst (λ z. Run n P e k ms z) q r

at-number : {n : ℕ} {P : Mark → Type 0} {e : Grid} {k j : ℕ} {ms : List Mark} {d : Grid} → k ≡ j → Run n P e k ms d → Run n P e j ms d
at-number {n} {P} {e} {ms = ms} {d = d} q r = subst (λ z. Run n P e z ms d) q r

at-marks : {n : ℕ} {P : Mark → Type 0} {e : Grid} {k : ℕ} {ms ks : List Mark} {d : Grid} → ms ≡ ks → Run n P e k ms d → Run n P e k ks d
at-marks {n} {P} {e} {k} {d = d} q r = subst (λ z. Run n P e k z d) q r

pub run-from : (n : ℕ) (P : Mark → Type 0) (e : Grid) (ts : List Turn) (d : Grid) → All P (marked n d ts) → turns n d ts ≡ e → Run n P e (steps n d ts) (marked n d ts) d
unfolding turns steps marked
run-from n P e [] d s q = stop q
run-from n P e (t ∷ ts) d s q =
    elim (cases_Bool (can n d t)) [
      | inl f ↦
          let s' : All P (marks_at n d t ++ marked n (did n d t) ts) = rw (marked-did n d t ts f) at s in
          at-marks (sym (marked-did n d t ts f)) (at-number (sym (steps-did n d t ts f))
          (go t f (all_left P (marks_at n d t) (marked n (did n d t) ts) s')
          (run-from n P e ts (did n d t) (all_right P (marks_at n d t) (marked n (did n d t) ts) s') (sym (turns-did n d t ts f) ∙ q))))
      | inr f ↦ at-marks (sym (marked-idle n d t ts f)) (at-number (sym (steps-idle n d t ts f)) (run-from n P e ts d (rw (marked-idle n d t ts f) at s) (rw (turn-idle n d t f) at q)))
    ]

pub run-turns : {n : ℕ} {P : Mark → Type 0} {e d : Grid} {k : ℕ} {ms : List Mark} → Run n P e k ms d → (vs : List Turn) × (turns n d vs ≡ e)
unfolding turns
run-turns (stop q) = ([], q)
run-turns {n} (go {d = d} t f s r) = let z = run-turns r in (t ∷ z.0, turns-did n d t z.0 f ∙ z.1)

module _ (n : ℕ) (P : Mark → Type 0) (calm : (a b : Mark) → P a → P b → race a b ≡ false) (e : Grid) (over : (t : Turn) → can n e t ≡ true → ⊥) where
  -- what is left of a run of k steps with marks ms, once some turns with m steps and marks ks have been done
  pub record Left (m k : ℕ) (ks ms : List Mark) (z : Grid) : Type 0 where
    pub number : ℕ
    pub counts : k ≡ m + number
    pub kept : All P ks
    pub later : List Mark
    pub in_order : (g l : ℕ) → marks_of g l ms ≡ marks_of g l ks ++ marks_of g l later
    pub run : Run n P e number later z

  pull : (u : Turn) {k : ℕ} {ms : List Mark} {d : Grid} → Run n P e k ms d → can n d u ≡ true → Left (weight u) k (marks_at n d u) ms (did n d u)
  pull u (stop q) f = absurd (over u (subst (λ d. can n d u ≡ true) q f))
  pull u (go {d = d} {k = k} {ms = ms} x fx sx r) f =
      elim (apart n d x u fx f) [
        | inl q ↦
            subst (λ t. Left (weight t) (weight x + k) (marks_at n d t) (marks_at n d x ++ ms) (did n d t)) q
            (record { number = k; counts = refl; kept = sx; later = ms; in_order = λ g l. marks_of-append g l (marks_at n d x) ms; run = r })
        | inr a ↦
            let rest = pull u r (same-can n d x u a ∙ f) in
            let su : All P (marks_at n d u) = subst (λ (ks : List Mark). All P ks) (same-marks n d x u a) rest.kept in
            let sx' : All P (marks_at n (did n d u) x) = subst (λ (ks : List Mark). All P ks) (sym (same-marks n d u x (apart-sym x u a))) sx in
            let counts' : k ≡ weight u + rest.number = rest.counts in
            record {
              number = weight x + rest.number;
              counts = omega arith;
              kept = su;
              later = marks_at n d x ++ rest.later;
              in_order = λ g l.
                  marks_of-append g l (marks_at n d x) ms
                  ∙ ap (λ (ks : List Mark). marks_of g l (marks_at n d x) ++ ks) (rest.in_order g l ∙ ap (λ (ks : List Mark). marks_of g l ks ++ marks_of g l rest.later) (same-marks n d x u a))
                  ∙ swapped (marks_of g l (marks_at n d x)) (marks_of g l (marks_at n d u)) (marks_of g l rest.later) (one_none n d x u g l a)
                  ∙ ap (λ (ks : List Mark). marks_of g l (marks_at n d u) ++ ks) (sym (marks_of-append g l (marks_at n d x) rest.later));
              run =
                  at-marks (ap (λ (ks : List Mark). ks ++ rest.later) (same-marks n d u x (apart-sym x u a)))
                  (go x (same-can n d u x (apart-sym x u a) ∙ fx) sx' (at-grid (cross P calm n d x u a sx su) rest.run));
            }
      ]

  pub follow : (us : List Turn) {k : ℕ} {ms : List Mark} {d : Grid} → Run n P e k ms d → Left (steps n d us) k (marked n d us) ms (turns n d us)
  unfolding marked turns steps marks_of
  follow [] {k} {ms} r = record { number = k; counts = omega arith; kept = tt; later = ms; in_order = λ g l. refl; run = r }
  follow (u ∷ us) {k} {ms} {d} r =
      elim (cases_Bool (can n d u)) [
        | inl f ↦
            let now = pull u r f in
            let rest = follow us now.run in
            let c = now.counts in
            let c' = rest.counts in
            let w = steps-did n d u us f in
            record {
              number = rest.number;
              counts = omega arith;
              kept = subst (λ (ks : List Mark). All P ks) (sym (marked-did n d u us f)) (all_append P (marks_at n d u) (marked n (did n d u) us) now.kept rest.kept);
              later = rest.later;
              in_order = λ g l.
                  now.in_order g l
                  ∙ ap (λ (ks : List Mark). marks_of g l (marks_at n d u) ++ ks) (rest.in_order g l)
                  ∙ sym (append_assoc (marks_of g l (marks_at n d u)) (marks_of g l (marked n (did n d u) us)) (marks_of g l rest.later))
                  ∙ ap (λ (ks : List Mark). ks ++ marks_of g l rest.later) (sym (marks_of-append g l (marks_at n d u) (marked n (did n d u) us)))
                  ∙ ap (λ (ks : List Mark). marks_of g l ks ++ marks_of g l rest.later) (sym (marked-did n d u us f));
              run = at-grid (sym (turns-did n d u us f)) rest.run;
            }
        | inr f ↦
            let rest = follow us r in
            let c' = rest.counts in
            let w = steps-idle n d u us f in
            record {
              number = rest.number;
              counts = omega arith;
              kept = subst (λ (ks : List Mark). All P ks) (sym (marked-idle n d u us f)) rest.kept;
              later = rest.later;
              in_order = λ g l. rest.in_order g l ∙ ap (λ (ks : List Mark). marks_of g l ks ++ marks_of g l rest.later) (sym (marked-idle n d u us f));
              run = at-grid (ap (λ (z : Grid). turns n z us) (sym (turn-idle n d u f))) rest.run;
            }
      ]

  -- a run from where nothing can go on has arrived
  pub arrived : {d : Grid} {k : ℕ} {ms : List Mark} → Run n P e k ms d → ((t : Turn) → can n d t ≡ true → ⊥) → (d ≡ e) × (k ≡ 0) × (ms ≡ [])
  arrived (stop q) f = (q, refl, refl)
  arrived (go t h s r) f = absurd (f t h)
