-- One place of a list, changed by a function.
use Rattle.std.proofs.Common.{◌≡◌, ℕ, zero, suc, ◌<◌, List, [], ◌∷◌, length, get_or, set, refl, ap, le_of_suc-le-suc, not-suc-le-zero}

module _ {A : Type 0} (d : A) where
  abbrev pub at : List A → ℕ → (A → A) → List A
  at xs i f = set xs i (f (get_or xs i d))

  pub at_same : (xs : List A) (i : ℕ) (f : A → A) → i < length xs → get_or (at xs i f) i d ≡ f (get_or xs i d)
  at_same [] i f h = absurd (not-suc-le-zero h)
  at_same (x ∷ xs) zero f h = refl
  at_same (x ∷ xs) (suc i) f h = at_same xs i f (le_of_suc-le-suc h)

  -- what f keeps is kept at every place
  pub at-keeps : {B : Type 0} (k : A → B) (xs : List A) (i j : ℕ) (f : A → A) → (i ≡ j → (x : A) → k (f x) ≡ k x) → k (get_or (at xs i f) j d) ≡ k (get_or xs j d)
  at-keeps k [] i j f h = refl
  at-keeps k (x ∷ xs) zero zero f h = h refl x
  at-keeps k (x ∷ xs) zero (suc j) f h = refl
  at-keeps k (x ∷ xs) (suc i) zero f h = refl
  at-keeps k (x ∷ xs) (suc i) (suc j) f h = at-keeps k xs i j f (λ e. h (ap suc e))

  -- a property that f keeps is kept at every place
  pub at-holds : (P : A → Type 0) (xs : List A) (i j : ℕ) (f : A → A) → (i ≡ j → P (get_or xs j d) → P (f (get_or xs j d))) → P (get_or xs j d) → P (get_or (at xs i f) j d)
  at-holds P [] i j f h p = p
  at-holds P (x ∷ xs) zero zero f h p = h refl p
  at-holds P (x ∷ xs) zero (suc j) f h p = p
  at-holds P (x ∷ xs) (suc i) zero f h p = p
  at-holds P (x ∷ xs) (suc i) (suc j) f h p = at-holds P xs i j f (λ e. h (ap suc e)) p

  -- two changes in either order
  pub at-comm : (xs : List A) (i j : ℕ) (f h : A → A) → (i ≡ j → (x : A) → h (f x) ≡ f (h x)) → at (at xs i f) j h ≡ at (at xs j h) i f
  at-comm [] i j f h c = refl
  at-comm (x ∷ xs) zero zero f h c = ap (λ (y : A). y ∷ xs) (c refl x)
  at-comm (x ∷ xs) zero (suc j) f h c = refl
  at-comm (x ∷ xs) (suc i) zero f h c = refl
  at-comm (x ∷ xs) (suc i) (suc j) f h c = ap (λ (ys : List A). x ∷ ys) (at-comm xs i j f h (λ e. c (ap suc e)))
