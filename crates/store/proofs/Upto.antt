-- A list counted up, and the same with one place changed.
use Rattle.std.proofs.Common.{◌≡◌, ℕ, ◌+◌, ◌*◌, ◌/◌, ◌%◌, ◌<◌, ◌≢◌, ◌⊎◌, List, [], ◌∷◌, map, length, get_or, set, replicate, sym, refl, ap, ◌∙◌, inl, inr, arith, length-set, get_or-set_other, get_or-set_same}
use lib.Arith.{digits_div, digits_mod}
use lib.ListN.{length-replicate, get_or-replicate}
use Rattle.std.specs.List.{range_with_len}
use Rattle.std.proofs.lemmas.List.FromFn.{length-map-range_with_len, get_or-map-range_with_len, fill_by_all}
use Rattle.std.proofs.lemmas.Bool.{cases_eq}
use Rattle.store.specs.Lent.{upto}

module _ {A : Type 0} (d : A) where
  pub upto-at : (f : ℕ → A) (n i : ℕ) → i < n → get_or (upto f n) i d ≡ f i
  unfolding upto
  upto-at f n i h = get_or-map-range_with_len f 0 n i i d h (omega arith)

  pub upto_is : (f : ℕ → A) (n : ℕ) (xs : List A) → length xs ≡ n → ((k : ℕ) → k < n → get_or xs k d ≡ f k) → xs ≡ upto f n
  unfolding upto
  upto_is f n xs e h = fill_by_all f xs n d e h

pub upto-length : {A : Type 0} (f : ℕ → A) (n : ℕ) → length (upto f n) ≡ n
unfolding upto
upto-length f n = length-map-range_with_len f 0 n

module _ {A : Type 0} (d : A) where
  pub upto-same : (f h : ℕ → A) (n : ℕ) → ((i : ℕ) → i < n → f i ≡ h i) → upto f n ≡ upto h n
  upto-same f h n e = upto_is d h n (upto f n) (upto-length f n) (λ k l. upto-at d f n k l ∙ e k l)

  -- one place changed
  pub upto-set : (f h : ℕ → A) (n i : ℕ) (v : A) → h i ≡ v → ((j : ℕ) → j < n → j ≢ i → h j ≡ f j) → upto h n ≡ set (upto f n) i v
  upto-set f h n i v here else =
      sym (upto_is d h n (set (upto f n) i v) (length-set (upto f n) i v ∙ upto-length f n)
      (λ k l. by k l (cases_eq k i)))
    where
      by : (k : ℕ) → k < n → (k ≡ i) ⊎ (k ≡ i → ⊥) → get_or (set (upto f n) i v) k d ≡ h k
      by k l (inl e) = let m : i < length (upto f n) = rw upto-length (rw e at l) in rw e (get_or-set_same (upto f n) i v d m ∙ sym here)
      by k l (inr ne) = get_or-set_other (upto f n) i k v d ne ∙ upto-at d f n k l ∙ sym (else k l ne)

  -- all the same
  pub upto-replicate : (f : ℕ → A) (n : ℕ) (a : A) → ((i : ℕ) → i < n → f i ≡ a) → upto f n ≡ replicate n a
  upto-replicate f n a h = sym (upto_is d f n (replicate n a) (length-replicate n a) (λ k l. get_or-replicate n k a d l ∙ sym (h k l)))

pub map-upto : {A B : Type 0} (d : B) (h : A → B) (f : ℕ → A) (n : ℕ) → map h (upto f n) ≡ upto (λ i. h (f i)) n
unfolding upto
map-upto d h f n = map-over (range_with_len 0 n)
  where
    map-over : (xs : List ℕ) → map h (map f xs) ≡ map (λ i. h (f i)) xs
    map-over [] = refl
    map-over (x ∷ xs) = ap (λ ys. h (f x) ∷ ys) (map-over xs)

-- the digits of a number
pub digits_same : (m q q' r r' : ℕ) → r < m → r' < m → q * m + r ≡ q' * m + r' → (q ≡ q') × (r ≡ r')
digits_same m q q' r r' h h' e =
    (sym (digits_div q h) ∙ ap (λ n. n / m) e ∙ digits_div q' h', sym (digits_mod q h) ∙ ap (λ n. n % m) e ∙ digits_mod q' h')
