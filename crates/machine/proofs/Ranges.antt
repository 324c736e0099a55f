-- `all`, `any` and `find` over the numbers below n.
use Rattle.std.proofs.Common.{◌≡◌, ℕ, ◌+◌, ◌<◌, Bool, true, false, length, get_or, MatchBool, refl, subst, arith, ◌≤◌, Option, Some, None, MatchOption}
use denote.Param.Members.{Mut, Called}
use Rattle.std.specs.declared.ops.Range.{Range}
use Rattle.std.specs.Iterator.{ChecksAll, ChecksAny}
use Rattle.std.specs.List.{range_with_len, AllWithin, HoldsAt}
use Rattle.std.proofs.iter.Yields.{nat_range_steps}
use Rattle.std.proofs.lemmas.Iterator.{cases_from_all, cases_from_any, YieldsList-from_range}
use Rattle.std.proofs.lemmas.List.FromFn.{length-range_with_len, get_or-range_with_len}

each-below : (n : ℕ) (P : ℕ → Type 0) → AllWithin P (range_with_len 0 n) 0 (length (range_with_len 0 n)) → (k : ℕ) → k < n → P k
each-below n P h k l = subst P (omega (arith, get_or-range_with_len 0 n k 0 l)) (h k 0 (omega arith) (omega (arith, length-range_with_len 0 n)))

some-below : (n : ℕ) (P : ℕ → Type 0) → (k : ℕ) × (k < length (range_with_len 0 n)) × HoldsAt P (range_with_len 0 n) k → (k : ℕ) × (k < n) × P k
some-below n P (k, l, h) = let m : k < n = omega (arith, length-range_with_len 0 n) in (k, m, subst P (omega (arith, get_or-range_with_len 0 n k 0 m)) (h 0))

module _ {F : Type 0} {g : Mut F (ℕ × Unit {0}) Bool} (m n : ℕ) (same : m ≡ n) (u : Range ℕ) (f : F) where
  pub all-below : (r : Bool) (Yes No : ℕ → Type 0) → ChecksAll nat_range_steps g (record { start = 0; end = m }) f r u →
      ((x : ℕ) (q : F) → Called g f (x, tt) true q → (q ≡ f) × Yes x) → ((x : ℕ) (q : F) → Called g f (x, tt) false q → No x) →
      MatchBool r ((k : ℕ) → k < n → Yes k) ((k : ℕ) × (k < n) × No k)
  all-below r Yes No ran y o = by r (cases_from_all u f r Yes No ran (YieldsList-from_range 0 m n refl (omega arith)) y o)
    where
      by : (r : Bool) → MatchBool r (AllWithin Yes (range_with_len 0 n) 0 (length (range_with_len 0 n))) ((k : ℕ) × (k < length (range_with_len 0 n)) × HoldsAt No (range_with_len 0 n) k) →
          MatchBool r ((k : ℕ) → k < n → Yes k) ((k : ℕ) × (k < n) × No k)
      by true h = each-below n Yes h
      by false h = some-below n No h

  pub any-below : (r : Bool) (Yes No : ℕ → Type 0) → ChecksAny nat_range_steps g (record { start = 0; end = m }) f r u →
      ((x : ℕ) (q : F) → Called g f (x, tt) true q → Yes x) → ((x : ℕ) (q : F) → Called g f (x, tt) false q → (q ≡ f) × No x) →
      MatchBool r ((k : ℕ) × (k < n) × Yes k) ((k : ℕ) → k < n → No k)
  any-below r Yes No ran y o = by r (cases_from_any u f r Yes No ran (YieldsList-from_range 0 m n refl (omega arith)) y o)
    where
      by : (r : Bool) → MatchBool r ((k : ℕ) × (k < length (range_with_len 0 n)) × HoldsAt Yes (range_with_len 0 n) k) (AllWithin No (range_with_len 0 n) 0 (length (range_with_len 0 n))) →
          MatchBool r ((k : ℕ) × (k < n) × Yes k) ((k : ℕ) → k < n → No k)
      by true h = some-below n Yes h
      by false h = each-below n No h

pub find-below : (from m n : ℕ) → m ≡ n → (r : Option ℕ) (Yes No : ℕ → Type 0) →
    MatchOption r ((k : ℕ) → from ≤ k → k < m → No k) (λ l. (from ≤ l) × (l < m) × Yes l × ((k : ℕ) → from ≤ k → k < l → No k)) →
    MatchOption r ((k : ℕ) → from ≤ k → k < n → No k) (λ l. (from ≤ l) × (l < n) × Yes l × ((k : ℕ) → from ≤ k → k < l → No k))
find-below from m n e None Yes No h = λ k a b. h k a (omega arith)
find-below from m n e (Some l) Yes No h = (h.0, omega (arith, h.1), h.2, h.3)
