-- What holds of each entry of a body: of those of its parts, and of those between them.
use Rattle.std.proofs.Common.{◌≡◌, ℕ, zero, suc, ◌+◌, ◌-◌, ◌<◌, false, subst, inl, inr, arith}
use Rattle.std.proofs.lemmas.Bool.{cases_Bool, cases_order}
use Rattle.lanes.specs.Syntax.{Body, Expr, ended, when, while}
use Rattle.code.specs.Lines.{lines_of, else_lines_spec}
use Rattle.code.proofs.Left.{else-some, else-none, when-lines}

module _ (F : ℕ → Type 0) where
  moved : (m n : ℕ) → m ≡ n → F m → F n
  moved m n e h = subst F e h

  -- An entry, and those of the body behind it.
  pub from_next : (o : ℕ) (b : Body) (i : ℕ) → i < suc (lines_of b) → F o → ((j : ℕ) → j < lines_of b → F (suc o + j)) → F (o + i)
  from_next o b zero h f g = moved o (o + 0) (omega arith) f
  from_next o b (suc i) h f g = moved (suc o + i) (o + suc i) (omega arith) (g i (omega arith))

  -- The entries of an if: its own, its first lines, the else or the end behind them, its second lines, the end behind those, and what is behind the if.
  pub from-if : (o : ℕ) (e : Expr) (c d b : Body) (i : ℕ) → i < lines_of (when e c d b) → F o → ((j : ℕ) → j < lines_of c → F (suc o + j)) → F (suc o + lines_of c)
      → ((j : ℕ) → j < lines_of d → F (suc o + suc (lines_of c) + j)) → (ended d ≡ false → F (suc o + suc (lines_of c) + lines_of d))
      → ((j : ℕ) → j < lines_of b → F (suc o + suc (lines_of c) + else_lines_spec d + j)) → F (o + i)
  from-if o e c d b zero h f fc m fd l fb = moved o (o + 0) (omega arith) f
  from-if o e c d b (suc i) h f fc m fd l fb =
      let n = when-lines e c d b in
      elim (cases_order i (lines_of c)) [
        | inl p ↦ moved (suc o + lines_of c) (o + suc i) (omega arith) m
        | inr (inl p) ↦ moved (suc o + i) (o + suc i) (omega arith) (fc i p)
        | inr (inr p) ↦ elim (cases_Bool (ended d)) [
          | inl q ↦ let z = else-none d q in
              moved (suc o + suc (lines_of c) + else_lines_spec d + (i - suc (lines_of c))) (o + suc i) (omega arith) (fb (i - suc (lines_of c)) (omega arith))
          | inr q ↦ let z = else-some d q in
              elim (cases_order (i - suc (lines_of c)) (lines_of d)) [
                | inl r ↦ moved (suc o + suc (lines_of c) + lines_of d) (o + suc i) (omega arith) (l q)
                | inr (inl r) ↦ moved (suc o + suc (lines_of c) + (i - suc (lines_of c))) (o + suc i) (omega arith) (fd (i - suc (lines_of c)) r)
                | inr (inr r) ↦
                    moved (suc o + suc (lines_of c) + else_lines_spec d + ((i - suc (lines_of c)) - suc (lines_of d))) (o + suc i) (omega arith)
                    (fb ((i - suc (lines_of c)) - suc (lines_of d)) (omega arith))
              ]
        ]
      ]

  -- The entries of a while: its own, its lines, the end behind them, and what is behind the while.
  pub from-while : (o : ℕ) (e : Expr) (c b : Body) (i : ℕ) → i < lines_of (while e c b) → F o → ((j : ℕ) → j < lines_of c → F (suc o + j)) → F (suc o + lines_of c)
      → ((j : ℕ) → j < lines_of b → F (suc o + suc (lines_of c) + j)) → F (o + i)
  unfolding lines_of
  from-while o e c b zero h f fc m fb = moved o (o + 0) (omega arith) f
  from-while o e c b (suc i) h f fc m fb =
      elim (cases_order i (lines_of c)) [
        | inl p ↦ moved (suc o + lines_of c) (o + suc i) (omega arith) m
        | inr (inl p) ↦ moved (suc o + i) (o + suc i) (omega arith) (fc i p)
        | inr (inr p) ↦ moved (suc o + suc (lines_of c) + (i - suc (lines_of c))) (o + suc i) (omega arith) (fb (i - suc (lines_of c)) (omega arith))
      ]
