-- Sets of lanes of a row, as the bits of a number.
use Rattle.std.specs.Prelude.{◌≡◌, ℕ, zero, suc, ◌+◌, ◌/◌, ◌%◌, ◌^◌, ◌<◌, Bool, true, false, cond, ◌==◌, bit_and, bit_xor}

-- Lane i of a row is in the mask if bit i is set.
abbrev pub on : ℕ → ℕ → Bool
on mask i = mask / 2 ^ i % 2 == 1

-- How many of the first i lanes are in the mask.
unfoldable pub lanes_in : ℕ → ℕ → ℕ
lanes_in mask zero = 0
lanes_in mask (suc i) = lanes_in mask i + cond (on mask i) 1 0

-- The lanes of a mask without those of another.
unfoldable pub lacking : ℕ → ℕ → ℕ
lacking mask gone = bit_xor mask (bit_and mask gone)

-- Lane i is in the mask, and none below it is.
pub record Lowest (mask i : ℕ) : Type 0 where
  pub within : i < 32
  pub here : on mask i ≡ true
  pub below : (j : ℕ) → j < i → on mask j ≡ false
