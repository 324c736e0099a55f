-- Digits read modulo 2^32.
use Rattle.std.proofs.Common.{◌≡◌, ℕ, ◌+◌, ◌-◌, ◌*◌, ◌/◌, ◌%◌, List, [], ◌∷◌, ◌<◌, sym, ap, ◌∙◌, mod-eq_of_lt, arith}
use native.Mathlib.Nat.{div-add-mod, mul-add-mod_self_left}
use Rattle.std.specs.List.{fold}
use Rattle.lanes.specs.Step.{whole, sum_of, product_of}
use Rattle.grammar.specs.Spelling.{decimal}

-- One more digit, modulo 2^32.
mod-in : (a d : ℕ) → (a * 10 + d) % whole ≡ (a % whole * 10 + d) % whole
mod-in a d =
    let split : a * 10 + d ≡ whole * (a / whole * 10) + (a % whole * 10 + d) = omega (arith, div-add-mod a whole) in
    ap (λ n. n % whole) split ∙ mul-add-mod_self_left whole (a / whole * 10) (a % whole * 10 + d)

mod-step : (a b d : ℕ) → a % whole ≡ b % whole → (a * 10 + d) % whole ≡ (b * 10 + d) % whole
mod-step a b d h = mod-in a d ∙ ap (λ n. (n * 10 + d) % whole) h ∙ sym (mod-in b d)

-- Digits behind numbers that are equal modulo 2^32.
decimal-mod : (a b : ℕ) (u : List ℕ) → a % whole ≡ b % whole → decimal a u % whole ≡ decimal b u % whole
unfolding decimal
decimal-mod a b [] h = h
decimal-mod a b (c ∷ u) h = decimal-mod (a * 10 + (c - 48)) (b * 10 + (c - 48)) u (mod-step a b (c - 48) h)

-- Digits taken one after the other, modulo 2^32.
pub folded : (a : ℕ) (u : List ℕ) → a < whole → fold (λ n b. sum_of (product_of n 10) (b - 48)) a u ≡ decimal a u % whole
unfolding decimal
folded a [] h = sym (mod-eq_of_lt h)
folded a (c ∷ u) h =
    folded (sum_of (product_of a 10) (c - 48)) u (omega arith)
    ∙ decimal-mod (sum_of (product_of a 10) (c - 48)) (a * 10 + (c - 48)) u (omega arith)
