use Rattle.std.proofs.Common.{◌≡◌, ℕ, ◌<◌, ◌≤◌, ◌^◌, false, ltb, inl, inr, ◌⊎◌, MatchOption, w32, arith}
use lib.Count.{count_trailing_zeros}
use Rattle.std.specs.Bool.{then_some}
use Rattle.std.specs.Int.Count.{trailing_of_zero}
use Rattle.std.proofs.lemmas.Nat.Bits.{bit_at-trailing_zeros}
use Rattle.std.proofs.lemmas.Bool.{cases_lt, lt-ltb, eq-eqb}
use Rattle.std.proofs.lemmas.Bool.Decides.{nat_tests}
use Rattle.masks.specs.Masks.{on, Lowest}
use Rattle.masks.proofs.Bits.{on-above}
use Rattle.masks.proofs.lowest.Goals as goal

is-lowest : (m : ℕ) → m < 2 ^ 32 → MatchOption (then_some (ltb (count_trailing_zeros 32 m) 32) (count_trailing_zeros 32 m)) ((i : ℕ) → on m i ≡ false) (λ i. Lowest m i)
is-lowest m h = by (cases_lt 0 m)
  where
    by : (0 < m) ⊎ (m ≤ 0) → MatchOption (then_some (ltb (count_trailing_zeros 32 m) 32) (count_trailing_zeros 32 m)) ((i : ℕ) → on m i ≡ false) (λ i. Lowest m i)
    by (inl some) =
        let t = bit_at-trailing_zeros w32 m some h in
        rw (lt-ltb (count_trailing_zeros 32 m) 32 t.0)
        (record { within = t.0; here = eq-eqb _ 1 t.1; below = λ j l. let e = t.2 j l in grind (arith, nat_tests) })
    by (inr none) = let e : m ≡ 0 = omega arith in rw (e, trailing_of_zero 32) (λ i. on-above 0 0 i (omega arith) (omega arith))

pub returns : goal.returns
returns c = rw c.then_some.ensures (is-lowest c.args.mask c.ranges.mask.fits)
