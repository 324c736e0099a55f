-- A mask has no lane behind those of a group, if nothing is left of it without these.
use Rattle.std.proofs.Common.{◌≡◌, ℕ, ◌+◌, ◌-◌, ◌^◌, ◌<◌, min, true, false, not, ◌&&◌, ltb, sym, refl, ap, ◌∙◌, inl, inr, arith}
use Rattle.std.proofs.lemmas.Bool.{cases_Bool, lt-ltb}
use Rattle.std.proofs.lemmas.Bool.Decides.{nat_tests}
use Rattle.store.specs.declared.Sizes.{Sizes}
use Rattle.masks.specs.Masks.{on}
use Rattle.masks.proofs.Bits.{on-above, no_bits}
use Rattle.machine.specs.Plans.{RowIn}

module _ (z : Sizes) (g start mask width left : ℕ) (hg : g < z.groups) (hs : start < z.lanes) (wide : width ≡ min (z.lanes - start) 32)
    (bits : (i : ℕ) → on left i ≡ (on mask i && not (ltb i width))) where
  pub inside : left ≡ 0 → RowIn z g start mask
  inside e = record {
    group = hg;
    lane = hs;
    there = λ i h o.
        let off : (on mask i && not (ltb i width)) ≡ false = sym (bits i) ∙ (ap (λ (m : ℕ). on m i) e ∙ on-above 0 0 i (omega arith) (omega arith)) in
        let within : i < width = grind (arith, nat_tests) in
        omega arith;
  }

  pub outside : left < 2 ^ 32 → RowIn z g start mask → left ≡ 0
  outside few row = no_bits 32 left few (λ i h. bits i ∙ elim (cases_Bool (on mask i)) [
    | inl o ↦ let q = row.there i h o in let r : ltb i width ≡ true = lt-ltb i width (omega arith) in rw (o, r) refl
    | inr o ↦ rw o refl
  ])
