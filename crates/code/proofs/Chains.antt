-- Chains of jumps end.
use Rattle.std.proofs.Common.{◌≡◌, ℕ, ◌<◌, ◌≤◌, true, false, ltb, List, sym, ◌∙◌, subst, inl, inr, arith}
use Rattle.std.proofs.lemmas.Bool.{cases_Bool, ltb-true}
use Rattle.lanes.specs.Syntax.{Body}
use Rattle.code.specs.declared.step.Step.{Step}
use Rattle.code.specs.declared.step.Step.TheVariants.{Jump, End}
use Rattle.code.specs.Words.{step_at}
use Rattle.code.specs.Code.{Coded, Does, Goes, Onward, is_loop, is_jump}

-- Behind the last entry there is no jump.
pub jump-within : (ws : List ℕ) (lines i to : ℕ) → Jump to ≡ step_at ws lines i → i < lines
unfolding step_at
jump-within ws lines i to e =
    elim (cases_Bool (ltb i lines)) [
      | inl p ↦ ltb-true i lines p
      | inr p ↦ let q : Jump to ≡ End = e ∙ rw p in cc
    ]

loop-stays : (s : Step) → is_loop s ≡ true → is_jump s ≡ false
loop-stays s h = grind arith

pub no_jump : (s : Step) → ((x : ℕ) → s ≡ Jump x → ⊥) → is_jump s ≡ false
no_jump s h = grind arith

module _ (N : ℕ → List ℕ → Type 0) (text : List ℕ) (owns lines : ℕ) (at : ℕ → Body) (code : ℕ → Step) where
  -- One jump followed.
  pub jumped : (i to : ℕ) → Coded N text owns lines at code → i ≤ lines → Jump to ≡ code i → (at to ≡ at i) × (to ≤ lines)
  jumped i to k h e =
      let d : Does N text at (Jump to) (at i) = subst (λ (s : Step). Does N text at s (at i)) (sym e) (k.does i h) in
      let g : Goes owns lines (Jump to) = subst (λ (s : Step). Goes owns lines s) (sym e) (k.goes i h) in
      (sym d, g)

  -- A jump back goes to a while.
  pub back : (i to : ℕ) → Coded N text owns lines at code → i ≤ lines → Jump to ≡ code i → to ≤ i → is_jump (code to) ≡ false
  back i to k h e b =
      let o : Onward code i (Jump to) = subst (λ (s : Step). Onward code i s) (sym e) (k.onward i h) in
      elim o [ inl p ↦ let z : ⊥ = omega arith in absurd z | inr p ↦ loop-stays (code to) p ]
