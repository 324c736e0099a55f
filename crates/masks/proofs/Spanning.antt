-- The first span of a mask from a lane on.
use Rattle.std.proofs.Common.{◌≡◌, ℕ, zero, suc, ◌+◌, ◌-◌, ◌/◌, ◌%◌, ◌^◌, ◌<◌, ◌≤◌, true, false, eqb, ◌⊎◌, inl, inr, sym, ap, ◌∙◌, MatchOption, Option, Some, None, w32, arith}
use Rattle.std.proofs.lemmas.Nat.{shr-shr, shr_le}
use Rattle.std.proofs.lemmas.Nat.Bits.{bit_at_not, bit_at-lt}
use Rattle.std.proofs.lemmas.Bool.{cases_lt, both_ways}
use Rattle.std.proofs.lemmas.Bool.Decides.{nat_tests}
use Rattle.masks.specs.Masks.{on, Lowest}
use Rattle.masks.specs.Spans.{Spanned}
use Rattle.masks.proofs.Bits.{on-above}

-- a lane of what is shifted down
shifted : (m i j : ℕ) → i ≤ j → on (m / 2 ^ i) (j - i) ≡ on m j
shifted m i j h = let e : i + (j - i) ≡ j = omega arith in ap (λ (n : ℕ). eqb (n % 2) 1) (shr-shr m i (j - i) ∙ ap (λ (n : ℕ). m / 2 ^ n) e)

pub none_behind : (m i : ℕ) → ((j : ℕ) → on (m / 2 ^ i) j ≡ false) → (j : ℕ) → i ≤ j → on m j ≡ false
none_behind m i off j h = sym (shifted m i j h) ∙ off (j - i)

-- a lane that is lacking in what is left of all lanes
left_on : (m j : ℕ) → m < 2 ^ 32 → j < 32 → on (4294967295 - m) j ≡ false → on m j ≡ true
left_on m j h l e = let p = bit_at_not w32 m j h l in let q = bit_at-lt m j in grind (arith, nat_tests)

left-off : (m j : ℕ) → m < 2 ^ 32 → j < 32 → on (4294967295 - m) j ≡ true → on m j ≡ false
left-off m j h l e = let p = bit_at_not w32 m j h l in let q = bit_at-lt m j in grind (arith, nat_tests)

module _ (mask i n : ℕ) (hm : mask < 2 ^ 32) (low : Lowest (mask / 2 ^ i) n) where
  starts : on mask (i + n) ≡ true
  starts = let e : i + n - i ≡ n = omega arith in sym (shifted mask i (i + n) (omega arith)) ∙ ap (on (mask / 2 ^ i)) e ∙ low.here

  pub start-within : i + n < 32
  start-within = by (cases_lt (i + n) 32)
    where
      by : (i + n < 32) ⊎ (32 ≤ i + n) → i + n < 32
      by (inl h) = h
      by (inr h) = absurd (both_ways (on mask (i + n)) (on-above mask 32 (i + n) hm h) starts)

  skips : (j : ℕ) → i ≤ j → j < i + n → on mask j ≡ false
  skips j a b = sym (shifted mask i j a) ∙ low.below (j - i) (omega arith)

  module _ (from to : ℕ) (e : from ≡ i + n) where
    small : mask / 2 ^ from < 2 ^ 32
    small = omega (arith, shr_le mask from)

    runs : (k : ℕ) → Lowest (4294967295 - mask / 2 ^ from) k → (j : ℕ) → from ≤ j → j < from + k → on mask j ≡ true
    runs k up j a b = let w = up.within in sym (shifted mask from j a) ∙ left_on (mask / 2 ^ from) (j - from) small (omega arith) (up.below (j - from) (omega arith))

    longer : (k : ℕ) → Lowest (4294967295 - mask / 2 ^ from) k → 0 < k
    longer zero up =
        let q : from - from ≡ 0 = omega arith in
        absurd (both_ways (on mask from) (sym (shifted mask from from (omega arith)) ∙ ap (on (mask / 2 ^ from)) q ∙ left-off (mask / 2 ^ from) 0 small up.within up.here) (rw e starts))
    longer (suc k) up = omega arith

    shorter : (k : ℕ) → Lowest (4294967295 - mask / 2 ^ from) k → from + k ≤ 32
    shorter k up = by (cases_lt 32 (from + k))
      where
        by : (32 < from + k) ⊎ (from + k ≤ 32) → from + k ≤ 32
        by (inl h) = let w = start-within in absurd (both_ways (on mask 32) (on-above mask 32 32 hm (omega arith)) (runs k up 32 (omega arith) h))
        by (inr h) = h

    spans : (r : Option ℕ) → MatchOption r ((j : ℕ) → on (4294967295 - mask / 2 ^ from) j ≡ false) (λ k. Lowest (4294967295 - mask / 2 ^ from) k) → MatchOption r (to ≡ 32) (λ k. to ≡ from + k) →
        (from < to) × (to ≤ 32) × ((j : ℕ) → from ≤ j → j < to → on mask j ≡ true) × (on mask to ≡ false)
    spans None off is =
        let w = start-within in
        (omega arith, omega arith, (λ j a b. sym (shifted mask from j a) ∙ left_on (mask / 2 ^ from) (j - from) small (omega arith) (off (j - from))), on-above mask 32 to hm (omega arith))
    spans (Some k) up is =
        let a = longer k up in let b = shorter k up in
        (omega arith, omega arith, (λ j a b. runs k up j a (omega arith)), (let q : to - from ≡ k = omega arith in sym (shifted mask from to (omega arith)) ∙ ap (on (mask / 2 ^ from)) q ∙ left-off (mask / 2 ^ from) k small up.within up.here))

    pub spanned : (r : Option ℕ) → MatchOption r ((j : ℕ) → on (4294967295 - mask / 2 ^ from) j ≡ false) (λ k. Lowest (4294967295 - mask / 2 ^ from) k) → MatchOption r (to ≡ 32) (λ k. to ≡ from + k) →
        Spanned mask i (record { from = from; to = to })
    spanned r up is =
        let s = spans r up is in record { behind = omega arith; some = s.0; within = s.1; off = λ j a b. skips j a (omega arith); these = s.2; ends = s.3 }
