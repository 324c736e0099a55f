-- Open joins, and what is left of them when lanes go on.
use Rattle.std.proofs.Common.{◌≡◌, ℕ, Bool, true, false, not, ◌&&◌, ◌||◌, eqb, ◌⊎◌, List, [], ◌∷◌, Some, refl, ap, ◌∙◌, inl, inr, arith}
use Rattle.std.proofs.lemmas.Bool.{cases_Bool, both_ways, eqb-true, eqb-false, eq-eqb, ne_eqb, cond-true, cond-false, and_left, and_right, and_from, or_left, or_right}
use Rattle.masks.specs.Masks.{on, lacking}
use Rattle.masks.proofs.Bits.{on-lacking, on-above}
use Rattle.joins.specs.Story.{Open, less, thinned, leave, topmost, still_in, branches_of}

-- A join without the lanes of a mask.
pub less-on : (o : Open) (m i : ℕ) → on m i ≡ true → on (lacking o.lanes m) i ≡ false
less-on o m i h = on-lacking o.lanes m i ∙ and_right (on o.lanes i) (not (on m i)) (ap not h)

and-true : (x : Bool) → (x && true) ≡ x
and-true true = refl
and-true false = refl

pub less-off : (o : Open) (m i : ℕ) → on m i ≡ false → on (lacking o.lanes m) i ≡ on o.lanes i
less-off o m i h = on-lacking o.lanes m i ∙ (ap (λ (b : Bool). on o.lanes i && not b) h ∙ and-true (on o.lanes i))

zero-off : (m i : ℕ) → m ≡ 0 → on m i ≡ on 0 i
zero-off m i e = ap (λ (k : ℕ). on k i) e

pub nothing-on : (i : ℕ) → on 0 i ≡ false
nothing-on i = on-above 0 0 i (omega arith) (omega arith)

-- What the topmost join is.
pub top-here : (o : Open) (os : List Open) (i : ℕ) → on o.lanes i ≡ true → topmost (o ∷ os) i ≡ Some o
unfolding topmost
top-here o os i h = cond-true (on o.lanes i) (Some o) (topmost os i) h

pub top_below : (o : Open) (os : List Open) (i : ℕ) → on o.lanes i ≡ false → topmost (o ∷ os) i ≡ topmost os i
unfolding topmost
top_below o os i h = cond-false (on o.lanes i) (Some o) (topmost os i) h

pub branches-here : (o : Open) (os : List Open) (i : ℕ) → on o.lanes i ≡ true → branches_of (o ∷ os) i ≡ o.branch ∷ branches_of os i
unfolding branches_of
branches-here o os i h = cond-true (on o.lanes i) (o.branch ∷ branches_of os i) (branches_of os i) h

pub branches-below : (o : Open) (os : List Open) (i : ℕ) → on o.lanes i ≡ false → branches_of (o ∷ os) i ≡ branches_of os i
unfolding branches_of
branches-below o os i h = cond-false (on o.lanes i) (o.branch ∷ branches_of os i) (branches_of os i) h

pub still-below : (o : Open) (os : List Open) (n i : ℕ) → on o.lanes i ≡ false → still_in (o ∷ os) n i ≡ still_in os n i
unfolding still_in
still-below o os n i h = ap (λ (b : Bool). b || still_in os n i) (and_right (eqb o.number n) (on o.lanes i) h)

pub still-apart : (o : Open) (os : List Open) (n i : ℕ) → (o.number ≡ n → ⊥) → still_in (o ∷ os) n i ≡ still_in os n i
unfolding still_in
still-apart o os n i h = ap (λ (b : Bool). b || still_in os n i) (and_left (eqb o.number n) (on o.lanes i) (ne_eqb o.number n h))

pub still-here : (o : Open) (os : List Open) (n i : ℕ) → o.number ≡ n → on o.lanes i ≡ true → still_in (o ∷ os) n i ≡ true
unfolding still_in
still-here o os n i e h = or_left (eqb o.number n && on o.lanes i) (still_in os n i) (and_from (eqb o.number n) (on o.lanes i) (eq-eqb o.number n e) h)

-- Lanes in a join behind the first.
pub still-further : (o : Open) (os : List Open) (n i : ℕ) → still_in os n i ≡ true → still_in (o ∷ os) n i ≡ true
unfolding still_in
still-further o os n i h = or_right (eqb o.number n && on o.lanes i) (still_in os n i) h

pub still_alike : (o : Open) (os vs : List Open) (n i : ℕ) → still_in vs n i ≡ still_in os n i → still_in (o ∷ vs) n i ≡ still_in (o ∷ os) n i
unfolding still_in
still_alike o os vs n i e = ap (λ (b : Bool). (eqb o.number n && on o.lanes i) || b) e

pub still-less : (o : Open) (m : ℕ) (os : List Open) (n i : ℕ) → on (lacking o.lanes m) i ≡ on o.lanes i → still_in (less o m ∷ os) n i ≡ still_in (o ∷ os) n i
unfolding still_in
still-less o m os n i e = ap (λ (b : Bool). (eqb o.number n && b) || still_in os n i) e

-- Two ways to take lanes out: a join is no more, or it is there with fewer lanes.
pub thin-cases : (o : Open) (m : ℕ) (os : List Open) → ((lacking o.lanes m ≡ 0) × (thinned o m os ≡ os)) ⊎ ((lacking o.lanes m ≡ 0 → ⊥) × (thinned o m os ≡ less o m ∷ os))
unfolding thinned
thin-cases o m os =
    elim (cases_Bool (eqb (lacking o.lanes m) 0)) [
      | inl p ↦ inl (eqb-true (lacking o.lanes m) 0 p, cond-true (eqb (lacking o.lanes m) 0) os (less o m ∷ os) p)
      | inr p ↦ inr (eqb-false (lacking o.lanes m) 0 p, cond-false (eqb (lacking o.lanes m) 0) os (less o m ∷ os) p)
    ]

pub thin-in : (o : Open) (m : ℕ) (os : List Open) (i : ℕ) → on (lacking o.lanes m) i ≡ true → thinned o m os ≡ less o m ∷ os
thin-in o m os i h =
    elim (thin-cases o m os) [
      | inl p ↦ absurd (both_ways (on (lacking o.lanes m) i) (zero-off (lacking o.lanes m) i p.0 ∙ nothing-on i) h)
      | inr p ↦ p.1
    ]

-- What a join without the lane does not change is as it is without that join.
pub thin-out : {X : Type 0} (F : List Open → X) (o : Open) (m : ℕ) (os : List Open) → F (less o m ∷ os) ≡ F os → F (thinned o m os) ≡ F os
thin-out F o m os e = elim (thin-cases o m os) [ inl p ↦ ap F p.1 | inr p ↦ ap F p.1 ∙ e ]

pub leave-here : (n m : ℕ) (o : Open) (os : List Open) → o.number ≡ n → leave n m (o ∷ os) ≡ thinned o m os
unfolding leave
leave-here n m o os e = cond-true (eqb o.number n) (thinned o m os) (o ∷ leave n m os) (eq-eqb o.number n e)

pub leave-further : (n m : ℕ) (o : Open) (os : List Open) → (o.number ≡ n → ⊥) → leave n m (o ∷ os) ≡ o ∷ leave n m os
unfolding leave
leave-further n m o os e = cond-false (eqb o.number n) (thinned o m os) (o ∷ leave n m os) (ne_eqb o.number n e)

pub leave_none : (n m : ℕ) → leave n m [] ≡ []
unfolding leave
leave_none n m = refl
