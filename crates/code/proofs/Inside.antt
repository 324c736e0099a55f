-- What stands in an if or a while, and the entries that are made of it.
use Rattle.std.proofs.Common.{◌≡◌, ℕ, suc, ◌+◌, ◌*◌, ◌<◌, ◌≤◌, ◌⊎◌, List, refl, ◌∙◌, inl, inr, arith}
use Rattle.lanes.specs.Syntax.{Body, end, put, read_shared, write_shared, read_all, write_all, barrier, when, while}
use Rattle.code.specs.declared.step.Step.{Step}
use Rattle.code.specs.Lines.{lines_of, else_lines_spec}
use Rattle.code.specs.Words.{step_at, Wrote}
use Rattle.code.specs.Code.{Codes}
use Rattle.code.specs.Make.{entry_at, Kept}
use Rattle.code.proofs.Left.{else-some, else-room, when-lines}

-- Words that are kept.
pub kept_entry : (words after : List ℕ) (o e i : ℕ) → Kept words after o e → (i < o) ⊎ (e ≤ i) → entry_at after i ≡ entry_at words i
unfolding step_at
kept_entry words after o e i k h =
    let far : (m : ℕ) → m < 16 → (i * 16 + m < o * 16) ⊎ (e * 16 ≤ i * 16 + m) = λ m u. elim h [ inl p ↦ inl (omega arith) | inr p ↦ inr (omega arith) ] in
    let far0 : (i * 16 < o * 16) ⊎ (e * 16 ≤ i * 16) = elim h [ inl p ↦ inl (omega arith) | inr p ↦ inr (omega arith) ] in
    rw (k.long, k.same (i * 16) far0, k.same (i * 16 + 1) (far 1 (omega arith)), k.same (i * 16 + 2) (far 2 (omega arith)), k.same (i * 16 + 3) (far 3 (omega arith)), k.same (i * 16 + 4) (far 4 (omega arith)))

pub kept-wider : (words after : List ℕ) (o e a b : ℕ) → a ≤ o → e ≤ b → Kept words after o e → Kept words after a b
kept-wider words after o e a b p q k = record { long = k.long; same = λ i h. k.same i (elim h [ inl u ↦ inl (omega arith) | inr u ↦ inr (omega arith) ]) }

pub kept-both : (w v u : List ℕ) (o e : ℕ) → Kept w v o e → Kept v u o e → Kept w u o e
kept-both w v u o e p q = record { long = q.long ∙ p.long; same = λ i h. q.same i h ∙ p.same i h }

pub kept-none : (w : List ℕ) (o e : ℕ) → Kept w w o e
kept-none w o e = record { long = refl; same = λ i h. refl }

pub wrote_kept : (w v : List ℕ) (i l : ℕ) (s : Step) → Wrote w v i s l → Kept w v i (suc i)
wrote_kept w v i l s h = record { long = h.long; same = λ k u. h.words_kept k (elim u [ inl p ↦ inl p | inr p ↦ inr (omega arith) ]) }

-- Code that is the same where a body stands.
module _ (N : ℕ → List ℕ → Type 0) (text : List ℕ) (owns : ℕ) (code other : ℕ → Step) where
  Alike : ℕ → ℕ → Type 0
  Alike o e = (i : ℕ) → o ≤ i → i < e → other i ≡ code i

  pub codes_same : (o : ℕ) (b : Body) → ((i : ℕ) → o ≤ i → i < o + lines_of b → other i ≡ code i) → Codes N text owns code o b → Codes N text owns other o b
  unfolding Codes lines_of else_lines_spec
  codes_same o end h c = tt
  codes_same o (put k e b) h c =
      (c.0, (c.1.0, c.1.1, h o (omega arith) (omega arith) ∙ c.1.2), codes_same (suc o) b (λ i p q. h i (omega arith) (omega arith)) c.2)
  codes_same o (read_shared k e b) h c =
      (c.0, (c.1.0, c.1.1, h o (omega arith) (omega arith) ∙ c.1.2), codes_same (suc o) b (λ i p q. h i (omega arith) (omega arith)) c.2)
  codes_same o (write_shared e f b) h c =
      ((c.0.0, c.0.1, c.0.2, c.0.3, h o (omega arith) (omega arith) ∙ c.0.4), codes_same (suc o) b (λ i p q. h i (omega arith) (omega arith)) c.1)
  codes_same o (read_all k e b) h c =
      (c.0, (c.1.0, c.1.1, h o (omega arith) (omega arith) ∙ c.1.2), codes_same (suc o) b (λ i p q. h i (omega arith) (omega arith)) c.2)
  codes_same o (write_all e f b) h c =
      ((c.0.0, c.0.1, c.0.2, c.0.3, h o (omega arith) (omega arith) ∙ c.0.4), codes_same (suc o) b (λ i p q. h i (omega arith) (omega arith)) c.1)
  codes_same o (barrier b) h c = (h o (omega arith) (omega arith) ∙ c.0, codes_same (suc o) b (λ i p q. h i (omega arith) (omega arith)) c.1)
  codes_same o (when e x d b) h c =
      let n = when-lines e x d b in
      let fits : lines_of d ≤ else_lines_spec d = else-room d in (
        (c.0.0, c.0.1, h o (omega arith) (omega arith) ∙ c.0.2),
        codes_same (suc o) x (λ i p q. h i (omega arith) (omega arith)) c.1,
        h (suc o + lines_of x) (omega arith) (omega arith) ∙ c.2,
        codes_same (suc o + suc (lines_of x)) d (λ i p q. h i (omega arith) (omega arith)) c.3,
        (λ q. let g = else-some d q in h (suc o + suc (lines_of x) + lines_of d) (omega arith) (omega arith) ∙ c.4 q),
        codes_same (suc o + suc (lines_of x) + else_lines_spec d) b (λ i p q. h i (omega arith) (omega arith)) c.5,
      )
  codes_same o (while e x b) h c = (
    (c.0.0, c.0.1, h o (omega arith) (omega arith) ∙ c.0.2),
    codes_same (suc o) x (λ i p q. h i (omega arith) (omega arith)) c.1,
    h (suc o + lines_of x) (omega arith) (omega arith) ∙ c.2,
    codes_same (suc o + suc (lines_of x)) b (λ i p q. h i (omega arith) (omega arith)) c.3,
  )
