-- Where the jumps from an entry lead: to one entry, and no further than behind the last.
use Rattle.std.proofs.Common.{◌≡◌, ℕ, zero, suc, ◌+◌, ◌-◌, ◌<◌, ◌≤◌, false, ◌⊎◌, List, sym, refl, ap, ◌∙◌, subst, inl, inr, arith}
use Rattle.std.proofs.lemmas.Bool.{both_ways, cases_lt}
use Rattle.lanes.specs.Syntax.{Body, end, put, read_shared, write_shared, read_all, write_all, barrier, when, while}
use Rattle.code.specs.declared.step.Step.{Step}
use Rattle.code.specs.declared.step.Step.TheVariants.{Put, Read, Write, Branch, Jump, Barrier, End}
use Rattle.code.specs.Lines.{lines_of}
use Rattle.code.specs.Settle.{is_jump, Settles, rests, jumps}
use Rattle.code.specs.Code.{Coded, Codes}
use Rattle.code.proofs.Chains.{jumped, back}

-- A step is a jump to somewhere, or none.
pub jump-or-not : (s : Step) → ((t : ℕ) × (s ≡ Jump t)) ⊎ (is_jump s ≡ false)
jump-or-not (Put k x i) = inr refl
jump-or-not (Read f k x i) = inr refl
jump-or-not (Write f x y i) = inr refl
jump-or-not (Branch x y n j f) = inr refl
jump-or-not (Jump i) = inl (i, refl)
jump-or-not (Barrier i) = inr refl
jump-or-not End = inr refl

-- A jump goes to one entry.
pub one-target : (s : Step) (t u : ℕ) → s ≡ Jump t → s ≡ Jump u → t ≡ u
one-target s t u p q = let e : Jump t ≡ Jump u = sym p ∙ q in cc

module _ (code : ℕ → Step) where
  pub not-both : {A : Type 0} (i t : ℕ) → code i ≡ Jump t → is_jump (code i) ≡ false → A
  not-both i t p q = absurd (both_ways (is_jump (code i)) q (ap is_jump p))

  -- Where there is no jump they lead nowhere else.
  pub settles-here : (i r : ℕ) → is_jump (code i) ≡ false → Settles code i r → i ≡ r
  settles-here i r h (rests e q) = e
  settles-here i r h (jumps t e p) = not-both i t e h

  pub settles-rest : (i r : ℕ) → Settles code i r → is_jump (code r) ≡ false
  settles-rest i r (rests e q) = q
  settles-rest i r (jumps t e p) = settles-rest t r p

  -- Past one jump.
  pub settles-past : (i t r : ℕ) → code i ≡ Jump t → Settles code i r → Settles code t r
  settles-past i t r e (rests q h) = not-both i t e (ap (λ k. is_jump (code k)) q ∙ h)
  settles-past i t r e (jumps u q p) = subst (λ k. Settles code k r) (one-target (code i) u t q e) p

  -- They lead to one entry.
  pub settles-one : (i r s : ℕ) → Settles code i r → Settles code i s → r ≡ s
  settles-one i r s (rests e q) p = sym e ∙ settles-here i s (ap (λ k. is_jump (code k)) e ∙ q) p
  settles-one i r s (jumps t e q) p = settles-one t r s q (settles-past i t s e p)

module _ (N : ℕ → List ℕ → Type 0) (text : List ℕ) (owns lines : ℕ) (at : ℕ → Body) (code : ℕ → Step) (k : Coded N text owns lines at code) where
  settles-fuel : (f i : ℕ) → i ≤ lines → lines - i < f → (r : ℕ) × Settles code i r × (r ≤ lines)
  settles-fuel zero i h g = absurd (omega arith)
  settles-fuel (suc f) i h g =
      elim (jump-or-not (code i)) [
        | inr q ↦ (i, rests refl q, h)
        | inl (t, q) ↦
            let to = (jumped N text owns lines at code i t k h (sym q)).1 in
            elim (cases_lt i t) [
              | inl u ↦ let z = settles-fuel f t to (omega arith) in (z.0, jumps t q z.1, z.2)
              | inr u ↦ (t, jumps t q (rests refl (back N text owns lines at code i t k h (sym q) (omega arith))), to)
            ]
      ]

  -- From each entry they lead somewhere.
  pub settles-some : (i : ℕ) → i ≤ lines → (r : ℕ) × Settles code i r × (r ≤ lines)
  settles-some i h = settles-fuel (suc (lines - i)) i h (omega arith)

module _ (N : ℕ → List ℕ → Type 0) (text : List ℕ) (owns : ℕ) (code : ℕ → Step) where
  -- A body begins with no jump.
  pub codes-start : (o : ℕ) (b : Body) → Codes N text owns code o b → code (o + lines_of b) ≡ End → is_jump (code o) ≡ false
  unfolding Codes lines_of
  codes-start o end c z = let q : o ≡ o + 0 = omega arith in ap (λ i. is_jump (code i)) q ∙ ap is_jump z
  codes-start o (put k e b) c z = ap is_jump c.1.2
  codes-start o (read_shared k e b) c z = ap is_jump c.1.2
  codes-start o (write_shared e f b) c z = ap is_jump c.0.4
  codes-start o (read_all k e b) c z = ap is_jump c.1.2
  codes-start o (write_all e f b) c z = ap is_jump c.0.4
  codes-start o (barrier b) c z = ap is_jump c.0
  codes-start o (when e x d b) c z = ap is_jump c.0.2
  codes-start o (while e x b) c z = ap is_jump c.0.2
