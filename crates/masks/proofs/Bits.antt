-- The lanes of masks that are made of masks, and that a mask is its lanes.
use Rattle.std.proofs.Common.{◌≡◌, ℕ, ◌-◌, ◌^◌, ◌<◌, ◌≤◌, false, not, ◌&&◌, ◌||◌, ltb, ◌⊎◌, inl, inr, arith}
use lib.Bits.{bit_and, bit_or}
use Rattle.std.proofs.lemmas.Nat.Bits.{bit_at_and, bit_at_or, bit_at_xor, bit_at-lt, bit_at_above, bit_at_ones, bit_at_ones_above, same_from_bits_below}
use Rattle.std.proofs.lemmas.Bool.{cases_lt}
use Rattle.std.proofs.lemmas.Bool.Decides.{nat_tests}
use Rattle.masks.specs.Masks.{on, lacking}

pub on_both : (a b i : ℕ) → on (bit_and a b) i ≡ (on a i && on b i)
on_both a b i = let e = bit_at_and a b i in let p = bit_at-lt a i in let q = bit_at-lt b i in grind (arith, nat_tests)

pub on-either : (a b i : ℕ) → on (bit_or a b) i ≡ (on a i || on b i)
on-either a b i = let e = bit_at_or a b i in let p = bit_at-lt a i in let q = bit_at-lt b i in grind (arith, nat_tests)

pub on-lacking : (a b i : ℕ) → on (lacking a b) i ≡ (on a i && not (on b i))
unfolding lacking
on-lacking a b i =
    let e = bit_at_xor a (bit_and a b) i in let f = bit_at_and a b i in let p = bit_at-lt a i in let q = bit_at-lt b i in grind (arith, nat_tests)

-- no bit is set from where on the mask is 0
pub on-above : (m k i : ℕ) → m < 2 ^ k → k ≤ i → on m i ≡ false
on-above m k i h le = let e = bit_at_above m k i h le in grind (arith, nat_tests)

-- a mask in which no bit is set is 0
pub no_bits : (k m : ℕ) → m < 2 ^ k → ((i : ℕ) → i < k → on m i ≡ false) → m ≡ 0
no_bits k m h none = same_from_bits_below k m 0 h (omega arith) (λ i l. let e = none i l in let p = bit_at-lt m i in grind (arith, nat_tests))

-- the lanes below w
pub on-first : (w i : ℕ) → on (2 ^ w - 1) i ≡ ltb i w
on-first w i = by (cases_lt i w)
  where
    by : (i < w) ⊎ (w ≤ i) → on (2 ^ w - 1) i ≡ ltb i w
    by (inl h) = let e = bit_at_ones w i h in grind (arith, nat_tests)
    by (inr h) = let e = bit_at_ones_above w i h in grind (arith, nat_tests)
