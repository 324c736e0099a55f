-- A jump back is the end of a while, and goes to it.
use Rattle.std.proofs.Common.{◌≡◌, ℕ, suc, ◌+◌, ◌<◌, ◌≤◌, true, false, List, refl, ap, ◌∙◌, arith}
use Rattle.lanes.specs.Syntax.{Body, end, put, read_shared, write_shared, read_all, write_all, barrier, when, while}
use Rattle.code.specs.declared.step.Step.{Step}
use Rattle.code.specs.declared.step.Step.TheVariants.{Branch, Jump}
use Rattle.code.specs.Lines.{lines_of, else_lines_spec}
use Rattle.code.specs.Settle.{is_jump}
use Rattle.code.specs.Code.{Codes}
use Rattle.code.proofs.Left.{else-some}
use Rattle.code.proofs.Walks.{from_next, from-if, from-while}
use Rattle.code.proofs.Settles.{not-both, one-target}

-- If entry m jumps back, then to a while that ends with it.
unfoldable pub Back : (ℕ → Step) → ℕ → Type 0
Back code m = (t : ℕ) → code m ≡ Jump t → t ≤ m → (x : ℕ) × (y : ℕ) × (n : ℕ) × (code t ≡ Branch x y n (suc m) true)

module _ (code : ℕ → Step) where
  no-back : (o : ℕ) (s : Step) → code o ≡ s → is_jump s ≡ false → Back code o
  unfolding Back
  no-back o s q h t p b = not-both code o t p (ap is_jump q ∙ h)

  forward : (o u : ℕ) → code o ≡ Jump u → o < u → Back code o
  unfolding Back
  forward o u q h t p b = let e = one-target (code o) t u p q in absurd (omega arith)

  to-while : (o u x y n j : ℕ) → code o ≡ Jump u → code u ≡ Branch x y n j true → j ≡ suc o → Back code o
  unfolding Back
  to-while o u x y n j q h l t p b = let e = one-target (code o) t u p q in (x, y, n, ap code e ∙ h ∙ ap (λ m. Branch x y n m true) l)

module _ (N : ℕ → List ℕ → Type 0) (text : List ℕ) (owns : ℕ) (code : ℕ → Step) where
  pub codes-back : (o : ℕ) (b : Body) → Codes N text owns code o b → (i : ℕ) → i < lines_of b → Back code (o + i)
  unfolding Codes lines_of else_lines_spec
  codes-back o end c i h = absurd (omega arith)
  codes-back o (put k e b) c i h = from_next (Back code) o b i h (no-back code o _ c.1.2 refl) (codes-back (suc o) b c.2)
  codes-back o (read_shared k e b) c i h = from_next (Back code) o b i h (no-back code o _ c.1.2 refl) (codes-back (suc o) b c.2)
  codes-back o (write_shared e f b) c i h = from_next (Back code) o b i h (no-back code o _ c.0.4 refl) (codes-back (suc o) b c.1)
  codes-back o (read_all k e b) c i h = from_next (Back code) o b i h (no-back code o _ c.1.2 refl) (codes-back (suc o) b c.2)
  codes-back o (write_all e f b) c i h = from_next (Back code) o b i h (no-back code o _ c.0.4 refl) (codes-back (suc o) b c.1)
  codes-back o (barrier b) c i h = from_next (Back code) o b i h (no-back code o _ c.0 refl) (codes-back (suc o) b c.1)
  codes-back o (when e x d b) c i h =
      from-if (Back code) o e x d b i h
      (no-back code o _ c.0.2 refl)
      (codes-back (suc o) x c.1)
      (forward code (suc o + lines_of x) _ c.2 (omega arith))
      (codes-back (suc o + suc (lines_of x)) d c.3)
      (λ q. forward code (suc o + suc (lines_of x) + lines_of d) _ (c.4 q) (omega (arith, else-some d q)))
      (codes-back (suc o + suc (lines_of x) + else_lines_spec d) b c.5)
  codes-back o (while e x b) c i h =
      from-while (Back code) o e x b i h
      (no-back code o _ c.0.2 refl)
      (codes-back (suc o) x c.1)
      (to-while code (suc o + lines_of x) o _ _ _ _ c.2 c.0.2 (omega arith))
      (codes-back (suc o + suc (lines_of x)) b c.3)
