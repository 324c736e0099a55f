-- The lanes of a comparison of vectors.
use Rattle.std.proofs.Common.{◌≡◌, ℕ, ◌%◌, ◌^◌, ◌<◌, ◌≤◌, false, cond, ◌&&◌, eqb, ltb, List, map, length, get_or, take, replicate, ap, ◌∙◌, ◌⊎◌, inl, inr, w32, arith}
use lib.Lanes.{mask_l, top, zip2}
use Rattle.std.proofs.lemmas.List.{take_all, length-map, get_or-map, get_or_past}
use Rattle.std.proofs.lemmas.Bool.{cases_lt}
use Rattle.std.proofs.lemmas.Bool.Decides.{nat_tests}
use Rattle.std.proofs.lemmas.Simd.{bitmask_splat, bit_mask_l, mask_l-lt}
use Rattle.masks.specs.Masks.{on}

-- what to_bitmask hands back: a lane is all ones where the two are equal, else 0
abbrev pub compared : List ℕ → ℕ → ℕ
compared xs v = mask_l (map (top 31) (zip2 (λ a b. cond (eqb a b) 4294967295 0) (take 32 xs) (replicate 32 v))) % 18446744073709551616

is-mask : (xs : List ℕ) (v : ℕ) → length xs ≡ 32 → compared xs v ≡ mask_l (map (λ x. eqb x v) xs)
is-mask xs v e = let f = take_all 32 xs (omega arith) in rw f (bitmask_splat w32 eqb xs 32 v e (omega arith))

pub compared_small : (xs : List ℕ) (v : ℕ) → length xs ≡ 32 → compared xs v < 4294967296
compared_small xs v e = rw (is-mask xs v e) (let p = mask_l-lt (map (λ x. eqb x v) xs) in let q = length-map xs (λ x. eqb x v) in let r : 2 ^ length (map (λ x. eqb x v) xs) ≡ 2 ^ 32 = ap (λ (n : ℕ). 2 ^ n) (q ∙ e) in omega arith)

pub compared-on : (xs : List ℕ) (v : ℕ) → length xs ≡ 32 → (i : ℕ) → on (compared xs v) i ≡ (ltb i 32 && eqb (get_or xs i 0) v)
compared-on xs v e i = rw (is-mask xs v e) (by (cases_lt i 32))
  where
    by : (i < 32) ⊎ (32 ≤ i) → on (mask_l (map (λ x. eqb x v) xs)) i ≡ (ltb i 32 && eqb (get_or xs i 0) v)
    by (inl h) = let p = bit_mask_l (map (λ x. eqb x v) xs) i in let q = get_or-map (λ x. eqb x v) xs i 0 false (omega arith) in grind (arith, nat_tests)
    by (inr h) = let p = bit_mask_l (map (λ x. eqb x v) xs) i in let q = length-map xs (λ x. eqb x v) in let r = get_or_past (map (λ x. eqb x v) xs) i false (omega arith) in grind (arith, nat_tests)
