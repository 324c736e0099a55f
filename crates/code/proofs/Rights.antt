-- Code that stands for a body does at each entry what is left there, and goes to its entries.
use Rattle.std.proofs.Common.{◌≡◌, ℕ, suc, ◌+◌, ◌<◌, ◌≤◌, false, List, length, sym, refl, ap, ◌∙◌, subst, inl, inr, arith}
use Rattle.std.proofs.lemmas.Bool.{cases_Bool, cases_order}
use Rattle.lanes.specs.Syntax.{Body, Expr, followed, ended, end, put, read_shared, write_shared, read_all, write_all, barrier, when, while}
use Rattle.grammar.specs.Spelling.{Named}
use Rattle.code.specs.declared.step.Step.{Step}
use Rattle.code.specs.declared.step.Step.TheVariants.{End}
use Rattle.code.specs.Lines.{lines_of, else_lines_spec, left_at}
use Rattle.code.specs.Code.{Does, Goes, Onward, is_loop, Codes, CodeRight}
use Rattle.code.proofs.Walks.{from_next, from-if, from-while}
use Rattle.code.proofs.Left.{ended_is, followed-assoc, followed-end, end-followed, left-zero, left-last, else-some, else-none, when-lines, when-first, when-second, when-behind, while-first, while-behind}

module _ (at : ℕ → Body) where
  -- The body b stands from entry o on, and k is behind it.
  Sits : ℕ → Body → Body → Type 0
  Sits o b k = (i : ℕ) → i ≤ lines_of b → at (o + i) ≡ followed (left_at b i) k

  sits_here : (o : ℕ) (b k : Body) → Sits o b k → at o ≡ followed b k
  unfolding Sits
  sits_here o b k s = let p : o ≡ o + 0 = omega arith in ap at p ∙ s 0 (omega arith) ∙ ap (λ x. followed x k) (left-zero b)

  sits-last : (o : ℕ) (b k : Body) → Sits o b k → at (o + lines_of b) ≡ k
  unfolding Sits
  sits-last o b k s = s (lines_of b) (omega arith) ∙ ap (λ x. followed x k) (left-last b) ∙ end-followed k

  -- One entry further.
  sits-next : (o : ℕ) (b c k : Body) → lines_of b ≡ suc (lines_of c) → ((i : ℕ) → left_at b (suc i) ≡ left_at c i) → Sits o b k → Sits (suc o) c k
  unfolding Sits
  sits-next o b c k n l s i h = let p : suc o + i ≡ o + suc i = omega arith in ap at p ∙ s (suc i) (omega arith) ∙ ap (λ x. followed x k) (l i)

  sits-first : (o : ℕ) (e : Expr) (c d b k : Body) → Sits o (when e c d b) k → Sits (suc o) c (followed b k)
  unfolding Sits
  sits-first o e c d b k s i h =
      let n = when-lines e c d b in
      let p : suc o + i ≡ o + suc i = omega arith in ap at p ∙ s (suc i) (omega arith) ∙ ap (λ x. followed x k) (when-first e c d b i h) ∙ followed-assoc (left_at c i) b k

  sits-behind : (o : ℕ) (e : Expr) (c d b k : Body) → Sits o (when e c d b) k → Sits (suc o + suc (lines_of c) + else_lines_spec d) b k
  unfolding Sits
  sits-behind o e c d b k s i h =
      let n = when-lines e c d b in
      let p : suc o + suc (lines_of c) + else_lines_spec d + i ≡ o + suc (suc (lines_of c) + (else_lines_spec d + i)) = omega arith in
      ap at p ∙ s (suc (suc (lines_of c) + (else_lines_spec d + i))) (omega arith) ∙ ap (λ x. followed x k) (when-behind e c d b (suc (lines_of c) + (else_lines_spec d + i)) i refl)

  -- The second lines, if there are any; else the place behind the if stands for them.
  sits-second : (o : ℕ) (e : Expr) (c d b k : Body) → ended d ≡ false → Sits o (when e c d b) k → Sits (suc o + suc (lines_of c)) d (followed b k)
  unfolding Sits
  sits-second o e c d b k q s i h =
      let n = when-lines e c d b in
      let t = else-some d q in
      let p : suc o + suc (lines_of c) + i ≡ o + suc (suc (lines_of c) + i) = omega arith in
      ap at p ∙ s (suc (suc (lines_of c) + i)) (omega arith) ∙ ap (λ x. followed x k) (when-second e c d b (suc (lines_of c) + i) i refl (omega arith)) ∙ followed-assoc (left_at d i) b k

  second-here : (o : ℕ) (e : Expr) (c d b k : Body) → Sits o (when e c d b) k → at (suc o + suc (lines_of c)) ≡ followed d (followed b k)
  second-here o e c d b k s =
      elim (cases_Bool (ended d)) [
        | inl q ↦
            let p : suc o + suc (lines_of c) ≡ suc o + suc (lines_of c) + else_lines_spec d = omega (arith, else-none d q) in
            ap at p ∙ sits_here _ b k (sits-behind o e c d b k s) ∙ sym (end-followed (followed b k)) ∙ ap (λ x. followed x (followed b k)) (sym (ended_is d q))
        | inr q ↦ sits_here _ d (followed b k) (sits-second o e c d b k q s)
      ]

  sits-inner : (o : ℕ) (e : Expr) (c b k : Body) → Sits o (while e c b) k → Sits (suc o) c (while e c (followed b k))
  unfolding Sits lines_of followed
  sits-inner o e c b k s i h =
      let p : suc o + i ≡ o + suc i = omega arith in ap at p ∙ s (suc i) (omega arith) ∙ ap (λ x. followed x k) (while-first e c b i h) ∙ followed-assoc (left_at c i) (while e c b) k

  sits-after : (o : ℕ) (e : Expr) (c b k : Body) → Sits o (while e c b) k → Sits (suc o + suc (lines_of c)) b k
  unfolding Sits lines_of
  sits-after o e c b k s i h =
      let p : suc o + suc (lines_of c) + i ≡ o + suc (suc (lines_of c) + i) = omega arith in
      ap at p ∙ s (suc (suc (lines_of c) + i)) (omega arith) ∙ ap (λ x. followed x k) (while-behind e c b (suc (lines_of c) + i) i refl)

  module _ (N : ℕ → List ℕ → Type 0) (text : List ℕ) (owns lines : ℕ) (code : ℕ → Step) where
    -- The step at entry i does what is left there and goes to entries.
    record Fine (i : ℕ) : Type 0 where
      does : Does N text at (code i) (at i)
      goes : Goes owns lines (code i)
      onward : Onward code i (code i)

    moved : (m n : ℕ) → m ≡ n → Fine m → Fine n
    moved m n e h = subst Fine e h

    fine_by : (o : ℕ) (s : Step) → code o ≡ s → Does N text at s (at o) → Goes owns lines s → Onward code o s → Fine o
    fine_by o s q d g w = record { does = rw q d; goes = rw q g; onward = rw q w }

    -- What is left at an entry and at the next.
    here : (o : ℕ) (b c k : Body) → lines_of b ≡ suc (lines_of c) → ((i : ℕ) → left_at b (suc i) ≡ left_at c i) → Sits o b k → (at o ≡ followed b k) × (at (suc o) ≡ followed c k)
    here o b c k n l s = (sits_here o b k s, sits_here (suc o) c k (sits-next o b c k n l s))

    codes_fine : (o : ℕ) (b k : Body) → Codes N text owns code o b → Sits o b k → o + lines_of b ≤ lines → (i : ℕ) → i < lines_of b → Fine (o + i)
    unfolding Codes left_at lines_of followed
    codes_fine o end k cs s r i h = let z : ⊥ = omega arith in absurd z
    codes_fine o (put j e b) k cs s r i h =
        let p = here o (put j e b) b k refl (λ _. refl) s in
        let n = sits-next o (put j e b) b k refl (λ _. refl) s in
        from_next Fine o b i h
        (fine_by o _ cs.1.2 (e, cs.1.1, rw p.1 p.0) (cs.0, omega arith) refl)
        (codes_fine (suc o) b k cs.2 n (omega arith))
    codes_fine o (read_shared j e b) k cs s r i h =
        let p = here o (read_shared j e b) b k refl (λ _. refl) s in
        let n = sits-next o (read_shared j e b) b k refl (λ _. refl) s in
        from_next Fine o b i h
        (fine_by o _ cs.1.2 (e, cs.1.1, rw p.1 p.0) (cs.0, omega arith) refl)
        (codes_fine (suc o) b k cs.2 n (omega arith))
    codes_fine o (write_shared e f b) k cs s r i h =
        let p = here o (write_shared e f b) b k refl (λ _. refl) s in
        let n = sits-next o (write_shared e f b) b k refl (λ _. refl) s in
        from_next Fine o b i h
        (fine_by o _ cs.0.4 (e, f, cs.0.2, cs.0.3, rw p.1 p.0) (omega arith) refl)
        (codes_fine (suc o) b k cs.1 n (omega arith))
    codes_fine o (read_all j e b) k cs s r i h =
        let p = here o (read_all j e b) b k refl (λ _. refl) s in
        let n = sits-next o (read_all j e b) b k refl (λ _. refl) s in
        from_next Fine o b i h
        (fine_by o _ cs.1.2 (e, cs.1.1, rw p.1 p.0) (cs.0, omega arith) refl)
        (codes_fine (suc o) b k cs.2 n (omega arith))
    codes_fine o (write_all e f b) k cs s r i h =
        let p = here o (write_all e f b) b k refl (λ _. refl) s in
        let n = sits-next o (write_all e f b) b k refl (λ _. refl) s in
        from_next Fine o b i h
        (fine_by o _ cs.0.4 (e, f, cs.0.2, cs.0.3, rw p.1 p.0) (omega arith) refl)
        (codes_fine (suc o) b k cs.1 n (omega arith))
    codes_fine o (barrier b) k cs s r i h =
        let p = here o (barrier b) b k refl (λ _. refl) s in
        let n = sits-next o (barrier b) b k refl (λ _. refl) s in
        from_next Fine o b i h
        (fine_by o _ cs.0 (rw p.1 p.0) (omega arith) refl)
        (codes_fine (suc o) b k cs.1 n (omega arith))
    codes_fine o (when e c d b) k cs s r i h =
        let n = when-lines e c d b in
        let first = sits-first o e c d b k s in
        let behind = sits-behind o e c d b k s in
        let join : suc o + suc (lines_of c) + else_lines_spec d ≤ lines = omega arith in
        let to = sits_here _ b k behind in
        from-if Fine o e c d b i h
        (fine_by o _ cs.0.2
        (e, cs.0.1, record { first = c; second = d; behind = followed b k; is = sits_here o (when e c d b) k s; yes = sits_here _ c _ first; no = second-here o e c d b k s; join = to })
        (omega arith, omega arith, join) (refl, omega arith, omega arith))
        (codes_fine (suc o) c (followed b k) cs.1 first (omega arith))
        (fine_by _ _ cs.2 (sits-last (suc o) c (followed b k) first ∙ sym to) join (inl (omega arith)))
        (λ j g. elim (cases_Bool (ended d)) [
          | inl q ↦ let z : lines_of d ≡ 0 = ap lines_of (ended_is d q) in let y : ⊥ = omega arith in absurd y
          | inr q ↦ let z = else-some d q in codes_fine (suc o + suc (lines_of c)) d (followed b k) cs.3 (sits-second o e c d b k q s) (omega arith) j g
        ])
        (λ q. fine_by _ _ (cs.4 q) (sits-last (suc o + suc (lines_of c)) d (followed b k) (sits-second o e c d b k q s) ∙ sym to) join (inl (let z = else-some d q in omega arith)))
        (codes_fine (suc o + suc (lines_of c) + else_lines_spec d) b k cs.5 behind (omega arith))
    codes_fine o (while e c b) k cs s r i h =
        let inner = sits-inner o e c b k s in
        let behind = sits-after o e c b k s in
        let join : suc o + suc (lines_of c) ≤ lines = omega arith in
        let to = sits_here _ b k behind in
        from-while Fine o e c b i h
        (fine_by o _ cs.0.2
        (e, cs.0.1, record { inner = c; behind = followed b k; is = sits_here o (while e c b) k s; yes = sits_here _ c _ inner; no = to; join = to })
        (omega arith, join, join) (refl, omega arith, omega arith))
        (codes_fine (suc o) c (while e c (followed b k)) cs.1 inner (omega arith))
        (fine_by _ _ cs.2 (sits-last (suc o) c (while e c (followed b k)) inner ∙ sym (sits_here o (while e c b) k s)) (omega arith) (inr (ap is_loop cs.0.2)))
        (codes_fine (suc o + suc (lines_of c)) b k cs.3 behind (omega arith))

pub code-right : CodeRight
unfolding CodeRight Sits
code-right ns text code b cs e =
    let fine : (i : ℕ) → i ≤ lines_of b → Fine (left_at b) (Named ns) text (length ns) (lines_of b) code i =
    λ i h. elim (cases_order i (lines_of b)) [
      | inl p ↦ moved (left_at b) (Named ns) text (length ns) (lines_of b) code (lines_of b) i (sym p) (fine_by (left_at b) (Named ns) text (length ns) (lines_of b) code (lines_of b) End e (left-last b) tt tt)
      | inr (inl p) ↦ moved (left_at b) (Named ns) text (length ns) (lines_of b) code (0 + i) i (omega arith)
          (codes_fine (left_at b) (Named ns) text (length ns) (lines_of b) code 0 b end cs (λ j g. let q : 0 + j ≡ j = omega arith in ap (left_at b) q ∙ sym (followed-end (left_at b j))) (omega arith) i p)
      | inr (inr p) ↦ let z : ⊥ = omega arith in absurd z
    ] in
    record { does = λ i h. (fine i h).does; goes = λ i h. (fine i h).goes; onward = λ i h. (fine i h).onward }
