-- Refused is the lowest place with a fault.
use Rattle.std.proofs.Common.{◌≡◌, ℕ, ◌+◌, ◌*◌, ◌<◌, ◌≤◌, Bool, true, false, cond, ◌||◌, ltb, ◌⊎◌, Ok, Err, Result, refl, inl, inr, arith}
use Rattle.std.proofs.lemmas.Bool.Decides.{nat_tests}
use Rattle.formats.specs.declared.field.Header.{Header}
use Rattle.formats.specs.declared.refusal.Refusal.{Refusal}
use Rattle.formats.specs.declared.refusal.Refusal.TheVariants.{Field}
use Rattle.formats.specs.Field.{InRange, read_with, groups_fault, lanes_fault, steps_fault, count_fault, front_cut, cells_cut, going_on, fault_at, FirstFault}
use Rattle.formats.proofs.Again.{with-range, with_size}

none_of : (a b c d e f g : Bool) → a ≡ false → b ≡ false → c ≡ false → d ≡ false → e ≡ false → f ≡ false → g ≡ false → (a || (b || (c || (d || (e || (f || g)))))) ≡ false
none_of a b c d e f g p q r s t u v = rw (p, q, r, s, t, u, v)

no-fault : (n g l s c k : ℕ) → InRange g l s c → n ≡ 16 + 4 * c → fault_at n g l s c k ≡ false
no-fault n g l s c k h e =
    none_of (groups_fault n g k) (lanes_fault n l k) (steps_fault n s k) (count_fault n c k) (front_cut n k) (cells_cut n c k) (going_on n c k)
    (grind (arith, nat_tests)) (grind (arith, nat_tests)) (grind (arith, nat_tests)) (grind (arith, nat_tests)) (grind (arith, nat_tests)) (grind (arith, nat_tests)) (grind (arith, nat_tests))

before : (n g l s c at k : ℕ) → read_with n g l s c ≡ Err (Field at) → k < at → fault_at n g l s c k ≡ false
before n g l s c at k e h =
    none_of (groups_fault n g k) (lanes_fault n l k) (steps_fault n s k) (count_fault n c k) (front_cut n k) (cells_cut n c k) (going_on n c k)
    (grind (arith, nat_tests)) (grind (arith, nat_tests)) (grind (arith, nat_tests)) (grind (arith, nat_tests)) (grind (arith, nat_tests)) (grind (arith, nat_tests)) (grind (arith, nat_tests))

-- One test of the chain.
step : {X : Type 0} {b : Bool} {x y z : X} → cond b x y ≡ z → ((b ≡ true) × (x ≡ z)) ⊎ ((b ≡ false) × (y ≡ z))
step {b = true} e = inl (refl, e)
step {b = false} e = inr (refl, e)

abbrev At : ℕ → ℕ → Type 0
At k at = ◌≡◌ {A = Result Header Refusal} (Err (Field k)) (Err (Field at))

at-groups : (n g at : ℕ) → ltb n 2 ≡ false → (ltb g 1 || ltb 1024 g) ≡ true → At 0 at → groups_fault n g at ≡ true
at-groups n g at h o e = grind (arith, nat_tests)

at-lanes : (n l at : ℕ) → ltb n 4 ≡ false → (ltb l 1 || ltb 1024 l) ≡ true → At 2 at → lanes_fault n l at ≡ true
at-lanes n l at h o e = grind (arith, nat_tests)

at-steps : (n s at : ℕ) → ltb n 12 ≡ false → ltb 1099511627776 s ≡ true → At 4 at → steps_fault n s at ≡ true
at-steps n s at h o e = grind (arith, nat_tests)

at_count : (n c at : ℕ) → ltb n 16 ≡ false → ltb 16777216 c ≡ true → At 12 at → count_fault n c at ≡ true
at_count n c at h o e = grind (arith, nat_tests)

at_cut : (n m at : ℕ) → m ≤ 16 → ltb n m ≡ true → At n at → front_cut n at ≡ true
at_cut n m at k o e = grind (arith, nat_tests)

at_cells : (n c at : ℕ) → ltb n 16 ≡ false → ltb n (16 + 4 * c) ≡ true → At n at → cells_cut n c at ≡ true
at_cells n c at h o e = grind (arith, nat_tests)

at-behind : (n c at : ℕ) → ltb n 16 ≡ false → ltb (16 + 4 * c) n ≡ true → At (16 + 4 * c) at → going_on n c at ≡ true
at-behind n c at h o e = grind (arith, nat_tests)

no_ok : (h : Header) (at : ℕ) → ◌≡◌ {A = Result Header Refusal} (Ok h) (Err (Field at)) → ⊥
no_ok h at e = let z : ◌≡◌ {A = ℕ} 0 1 = cc in omega arith

clash : (a : Bool) → a ≡ true → a ≡ false → ⊥
clash a p q = let z : ◌≡◌ {A = ℕ} 0 1 = cc in omega arith

there : (n g l s c at : ℕ) → read_with n g l s c ≡ Err (Field at)
    → groups_fault n g at ≡ false → lanes_fault n l at ≡ false → steps_fault n s at ≡ false → count_fault n c at ≡ false
    → front_cut n at ≡ false → cells_cut n c at ≡ false → going_on n c at ≡ false → ⊥
there n g l s c at e f₁ f₂ f₃ f₄ f₅ f₆ f₇ =
    elim (step {b = ltb n 2} {x = Err (Field n)} e) [
      | inl p ↦ clash (front_cut n at) (at_cut n 2 at (omega arith) p.0 p.1) f₅
      | inr p₁ ↦
          elim (step {b = ltb g 1 || ltb 1024 g} {x = Err (Field 0)} p₁.1) [
            | inl p ↦ clash (groups_fault n g at) (at-groups n g at p₁.0 p.0 p.1) f₁
            | inr p₂ ↦
                elim (step {b = ltb n 4} {x = Err (Field n)} p₂.1) [
                  | inl p ↦ clash (front_cut n at) (at_cut n 4 at (omega arith) p.0 p.1) f₅
                  | inr p₃ ↦
                      elim (step {b = ltb l 1 || ltb 1024 l} {x = Err (Field 2)} p₃.1) [
                        | inl p ↦ clash (lanes_fault n l at) (at-lanes n l at p₃.0 p.0 p.1) f₂
                        | inr p₄ ↦
                            elim (step {b = ltb n 12} {x = Err (Field n)} p₄.1) [
                              | inl p ↦ clash (front_cut n at) (at_cut n 12 at (omega arith) p.0 p.1) f₅
                              | inr p₅ ↦
                                  elim (step {b = ltb 1099511627776 s} {x = Err (Field 4)} p₅.1) [
                                    | inl p ↦ clash (steps_fault n s at) (at-steps n s at p₅.0 p.0 p.1) f₃
                                    | inr p₆ ↦
                                        elim (step {b = ltb n 16} {x = Err (Field n)} p₆.1) [
                                          | inl p ↦ clash (front_cut n at) (at_cut n 16 at (omega arith) p.0 p.1) f₅
                                          | inr p₇ ↦
                                              elim (step {b = ltb 16777216 c} {x = Err (Field 12)} p₇.1) [
                                                | inl p ↦ clash (count_fault n c at) (at_count n c at p₇.0 p.0 p.1) f₄
                                                | inr p₈ ↦
                                                    elim (step {b = ltb n (16 + 4 * c)} {x = Err (Field n)} p₈.1) [
                                                      | inl p ↦ clash (cells_cut n c at) (at_cells n c at p₇.0 p.0 p.1) f₆
                                                      | inr p₉ ↦
                                                          elim (step {b = ltb (16 + 4 * c) n} {x = Err (Field (16 + 4 * c))} p₉.1) [ inl p ↦ clash (going_on n c at) (at-behind n c at p₇.0 p.0 p.1) f₇ | inr p ↦ no_ok _ at p.1 ]
                                                    ]
                                              ]
                                        ]
                                  ]
                            ]
                      ]
                ]
          ]
    ]

some_of : (a b c d e f g : Bool) → (a ≡ false → b ≡ false → c ≡ false → d ≡ false → e ≡ false → f ≡ false → g ≡ false → ⊥) → (a || (b || (c || (d || (e || (f || g)))))) ≡ true
some_of true b c d e f g h = refl
some_of false true c d e f g h = refl
some_of false false true d e f g h = refl
some_of false false false true e f g h = refl
some_of false false false false true f g h = refl
some_of false false false false false true g h = refl
some_of false false false false false false true h = refl
some_of false false false false false false false h = absurd (h refl refl refl refl refl refl refl)

pub first-fault : FirstFault
first-fault =
    record {
      there =
          λ n g l s c at e.
          some_of (groups_fault n g at) (lanes_fault n l at) (steps_fault n s at) (count_fault n c at) (front_cut n at) (cells_cut n c at) (going_on n c at)
          (there n g l s c at e);
      none_before = λ n g l s c at k e h. before n g l s c at k e h;
      none_in_a_field = λ n g l s c k h e. no-fault n g l s c k (with-range n g l s c h e) (with_size n g l s c h e);
    }
