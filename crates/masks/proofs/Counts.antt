-- How many lanes are in a mask.
use Rattle.std.proofs.Common.{◌≡◌, ℕ, zero, suc, ◌+◌, ◌*◌, ◌/◌, ◌%◌, ◌^◌, ◌<◌, pow-suc, arith}
use lib.Count.{ones, ones_step}
use Rattle.std.proofs.lemmas.Nat.Bits.{bit_at-suc, bit_at_lowest, bit_at-lt}
use Rattle.std.proofs.lemmas.Bool.Decides.{nat_tests}
use Rattle.masks.specs.Masks.{lanes_in}

lanes_low : (m i : ℕ) → lanes_in m (suc i) ≡ m % 2 + lanes_in (m / 2) i
unfolding lanes_in
lanes_low m zero = let e = bit_at_lowest m in let p = bit_at-lt m 0 in grind (arith, nat_tests)
lanes_low m (suc i) = let p = lanes_low m i in let e = bit_at-suc m i in grind (arith, nat_tests)

none_in : (m : ℕ) → m ≡ 0 → ones m ≡ lanes_in m 0
unfolding lanes_in ones
none_in m e = rw e

pub ones-lanes : (k m : ℕ) → m < 2 ^ k → ones m ≡ lanes_in m k
ones-lanes zero m h = none_in m (omega arith)
ones-lanes (suc k) m h =
    let e : 2 ^ suc k ≡ 2 ^ k * 2 = pow-suc 2 k in
    let p : ones (m / 2) ≡ lanes_in (m / 2) k = ones-lanes k (m / 2) (omega arith) in
    let q = ones_step m in let r = lanes_low m k in omega arith
