use Rattle.std.proofs.Common.{◌≡◌, ◌≢◌, ℕ, ◌+◌, ◌*◌, ◌%◌, ◌^◌, ◌<◌, ◌&&◌, eqb, ltb, List, get_or, ◌⊎◌, inl, inr, w32, arith}
use lib.Bits.{bit_or}
use Rattle.std.proofs.lemmas.Nat.Bits.{bit_at_set_same, bit_at_set_other}
use Rattle.std.proofs.lemmas.Bool.{cases_eq}
use Rattle.std.proofs.lemmas.Bool.Decides.{nat_tests}
use Rattle.masks.specs.Masks.{on}
use Rattle.masks.proofs.words.each_at.Goals as goal
use Rattle.masks.proofs.words.each_at.Goals.{then-x-v, else-x-v}

module _ (xs : List ℕ) (v i m : ℕ) (far : (k : ℕ) → on m k ≡ (ltb k i && eqb (get_or xs k 0) v)) where
  one_more : i < 32 → get_or xs i 0 ≡ v → (k : ℕ) → on (bit_or m (1 * 2 ^ i % 4294967296)) k ≡ (ltb k (i + 1) && eqb (get_or xs k 0) v)
  one_more h is k = by (cases_eq k i)
    where
      by : (k ≡ i) ⊎ (k ≢ i) → on (bit_or m (1 * 2 ^ i % 4294967296)) k ≡ (ltb k (i + 1) && eqb (get_or xs k 0) v)
      by (inl e) = rw e (let p = bit_at_set_same w32 m i h in grind (arith, nat_tests))
      by (inr ne) = let p = bit_at_set_other w32 m i h k ne in let q = far k in grind (arith, nat_tests)

  no_more : get_or xs i 0 ≢ v → (k : ℕ) → on m k ≡ (ltb k (i + 1) && eqb (get_or xs k 0) v)
  no_more is k = by (cases_eq k i)
    where
      by : (k ≡ i) ⊎ (k ≢ i) → on m k ≡ (ltb k (i + 1) && eqb (get_or xs k 0) v)
      by (inl e) = rw e (let q = far i in grind (arith, nat_tests))
      by (inr ne) = let q = far k in grind (arith, nat_tests)

pub loop-i-preserved : goal.loop-i-preserved
loop-i-preserved c = elim c.if-x-v.branch [
  | then-x-v w ↦ rw w.mask-is (one_more c.args.xs.now c.args.v c.loop-i.i c.loop-i.mask c.loop-i.invariant (omega arith) w.if-x-v.true)
  | else-x-v w ↦ rw w.mask-is (no_more c.args.xs.now c.args.v c.loop-i.i c.loop-i.mask c.loop-i.invariant w.if-x-v.false)
]
