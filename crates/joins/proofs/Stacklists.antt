-- The stack as a list of joins: one put on top, one changed, one taken out.
use Rattle.std.proofs.Common.{◌≡◌, ℕ, zero, suc, ◌<◌, ◌≤◌, List, [], ◌∷◌, ◌++◌, length, sym, refl, ap, ◌∙◌, ap₂, inl, inr, arith, length-append}
use Rattle.std.proofs.lemmas.Bool.{eq-eqb, ne_eqb, cases_eq}
use Rattle.masks.specs.Masks.{lacking}
use Rattle.joins.specs.declared.Join.{Join}
use Rattle.joins.specs.Stack.{down_from, lost, kept_on, leaves}

pub down-same : (f h : ℕ → Join) (n : ℕ) → ((k : ℕ) → k < n → h k ≡ f k) → down_from h n ≡ down_from f n
unfolding down_from
down-same f h zero e = refl
down-same f h (suc n) e = ap₂ (λ (j : Join) (js : List Join). j ∷ js) (e n (omega arith)) (down-same f h n (λ k l. e k (omega arith)))

pub down-length : (f : ℕ → Join) (n : ℕ) → length (down_from f n) ≡ n
unfolding down_from
down-length f zero = refl
down-length f (suc n) = ap suc (down-length f n)

pub down-none : (f : ℕ → Join) → down_from f 0 ≡ []
unfolding down_from
down-none f = refl

pub down-more : (f h : ℕ → Join) (n : ℕ) (j : Join) → h n ≡ j → ((k : ℕ) → k < n → h k ≡ f k) → down_from h (suc n) ≡ j ∷ down_from f n
unfolding down_from
down-more f h n j e s = ap₂ (λ (x : Join) (js : List Join). x ∷ js) e (down-same f h n s)

-- join k, with those above it and those below
pub down-split : (f : ℕ → Join) (n k : ℕ) → k < n → (above : List Join) × (down_from f n ≡ above ++ (f k ∷ down_from f k))
unfolding down_from
down-split f zero k h = absurd (omega arith)
down-split f (suc n) k h = elim (cases_eq n k) [
  | inl e ↦ ([], rw e)
  | inr ne ↦ let p = down-split f n k (omega arith) in (f n ∷ p.0, ap (λ (js : List Join). f n ∷ js) p.1)
]

-- which join of a list is meant
leaves-here : (j : Join) (js : List Join) (k mask : ℕ) → length js ≡ k → leaves (j ∷ js) k mask ≡ kept_on (lost j mask) js
unfolding leaves
leaves-here j js k mask e = rw (eq-eqb (length js) k e)

leaves-above : (j : Join) (js : List Join) (k mask : ℕ) → (length js ≡ k → ⊥) → leaves (j ∷ js) k mask ≡ j ∷ leaves js k mask
unfolding leaves
leaves-above j js k mask ne = rw (ne_eqb (length js) k ne)

pub leaves-past : (js : List Join) (k mask : ℕ) → length js ≤ k → leaves js k mask ≡ js
unfolding leaves
leaves-past [] k mask h = refl
leaves-past (j ∷ js) k mask h = leaves-above j js k mask (λ e. omega arith) ∙ ap (λ (xs : List Join). j ∷ xs) (leaves-past js k mask (omega arith))

-- in the middle of a list: the join loses the lanes of the mask, and is gone if it has none left
pub leaves-middle : (above : List Join) (j : Join) (below : List Join) (mask : ℕ) → leaves (above ++ (j ∷ below)) (length below) mask ≡ above ++ kept_on (lost j mask) below
leaves-middle [] j below mask = leaves-here j below (length below) mask refl
leaves-middle (x ∷ above) j below mask =
    let e = length-append above (j ∷ below) in
    leaves-above x (above ++ (j ∷ below)) (length below) mask (λ q. omega arith) ∙ ap (λ (xs : List Join). x ∷ xs) (leaves-middle above j below mask)

pub kept-none : (j : Join) (js : List Join) → j.lanes ≡ 0 → kept_on j js ≡ js
unfolding kept_on
kept-none j js e = rw (eq-eqb j.lanes 0 e)

pub kept-some : (j : Join) (js : List Join) → (j.lanes ≡ 0 → ⊥) → kept_on j js ≡ j ∷ js
unfolding kept_on
kept-some j js ne = rw (ne_eqb j.lanes 0 ne)

-- join k has lanes left
pub down-lost : (f h : ℕ → Join) (n k mask : ℕ) → k < n → h k ≡ lost (f k) mask → (lacking (f k).lanes mask ≡ 0 → ⊥) →
    ((i : ℕ) → i < n → (i ≡ k → ⊥) → h i ≡ f i) → down_from h n ≡ leaves (down_from f n) k mask
unfolding down_from
down-lost f h zero k mask hk here some others = absurd (omega arith)
down-lost f h (suc n) k mask hk here some others = elim (cases_eq n k) [
  | inl e ↦
      let len : length (down_from f n) ≡ k = down-length f n ∙ e in
      let top : h n ≡ lost (f n) mask = rw e here in
      let left : (lost (f n) mask).lanes ≡ 0 → ⊥ = rw e some in
      ap₂ (λ (x : Join) (js : List Join). x ∷ js) top (down-same f h n (λ i l. others i (omega arith) (λ q. omega arith)))
      ∙ sym (leaves-here (f n) (down_from f n) k mask len ∙ kept-some (lost (f n) mask) (down_from f n) left)
  | inr ne ↦
      let len : length (down_from f n) ≡ k → ⊥ = λ q. ne (sym (down-length f n) ∙ q) in
      ap₂ (λ (x : Join) (js : List Join). x ∷ js) (others n (omega arith) ne)
      (down-lost f h n k mask (omega arith) here some (λ i l q. others i (omega arith) q))
      ∙ sym (leaves-above (f n) (down_from f n) k mask len)
]

-- join k has none left, and those above it have moved down
down-out-here : (f h : ℕ → Join) (n k mask : ℕ) → n ≡ k → lacking (f k).lanes mask ≡ 0 → ((i : ℕ) → i < k → h i ≡ f i) → down_from h n ≡ leaves (down_from f (suc n)) k mask
unfolding down_from
down-out-here f h n k mask e none low =
    let len : length (down_from f n) ≡ k = down-length f n ∙ e in
    let gone : (lost (f n) mask).lanes ≡ 0 = rw e none in
    down-same f h n (λ i l. low i (omega arith)) ∙ sym (leaves-here (f n) (down_from f n) k mask len ∙ kept-none (lost (f n) mask) (down_from f n) gone)

pub down_out : (f h : ℕ → Join) (n k mask : ℕ) → k ≤ n → lacking (f k).lanes mask ≡ 0 → ((i : ℕ) → i < k → h i ≡ f i) →
    ((i : ℕ) → k ≤ i → i < n → h i ≡ f (suc i)) → down_from h n ≡ leaves (down_from f (suc n)) k mask
unfolding down_from
down_out f h zero k mask hk none low high = down-out-here f h 0 k mask (omega arith) none low
down_out f h (suc n) k mask hk none low high = elim (cases_eq (suc n) k) [
  | inl e ↦ down-out-here f h (suc n) k mask e none low
  | inr ne ↦
      let len : length (down_from f (suc n)) ≡ k → ⊥ = λ q. ne (sym (down-length f (suc n)) ∙ q) in
      ap₂ (λ (x : Join) (js : List Join). x ∷ js) (high n (omega arith) (omega arith)) (down_out f h n k mask (omega arith) none low (λ i a l. high i a (omega arith)))
      ∙ sym (leaves-above (f (suc n)) (down_from f (suc n)) k mask len)
]
