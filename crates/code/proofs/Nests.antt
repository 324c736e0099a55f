-- What stands in an if or a while stays in it until its lanes join.
use Rattle.std.proofs.Common.{◌≡◌, ℕ, suc, ◌+◌, ◌-◌, ◌<◌, ◌≤◌, Bool, true, false, cond, List, length, sym, refl, ap, ◌∙◌, subst, arith}
use Rattle.std.proofs.lemmas.Bool.{both_ways}
use Rattle.lanes.specs.Syntax.{Body, Expr, end, put, read_shared, write_shared, read_all, write_all, barrier, when, while}
use Rattle.grammar.specs.Spelling.{Named}
use Rattle.code.specs.declared.step.Step.{Step}
use Rattle.code.specs.declared.step.Step.TheVariants.{Put, Read, Write, Branch, Jump, Barrier, End}
use Rattle.code.specs.Lines.{lines_of, else_lines_spec}
use Rattle.code.specs.Code.{Codes}
use Rattle.code.specs.Joins.{Within, Nested, JoinsRight, is_branch}
use Rattle.code.proofs.Left.{else-room, when-lines}
use Rattle.code.proofs.Walks.{from_next, from-if, from-while}

wider : (lo hi a z : ℕ) (s : Step) → a ≤ lo → hi ≤ z → Within lo hi s → Within a z s
wider lo hi a z (Put k x i) p q w = (omega arith, omega arith)
wider lo hi a z (Read f k x i) p q w = (omega arith, omega arith)
wider lo hi a z (Write f x y i) p q w = (omega arith, omega arith)
wider lo hi a z (Branch x y n j f) p q w = ((omega arith, omega arith), (omega arith, omega arith), (omega arith, omega arith))
wider lo hi a z (Jump i) p q w = (omega arith, omega arith)
wider lo hi a z (Barrier i) p q w = (omega arith, omega arith)
wider lo hi a z End p q w = w

-- The parts of a branch, to tell one branch from another.
join-of : Step → ℕ
join-of (Put k x i) = 0
join-of (Read f k x i) = 0
join-of (Write f x y i) = 0
join-of (Branch x y n j f) = j
join-of (Jump i) = 0
join-of (Barrier i) = 0
join-of End = 0

is-looped : Step → Bool
is-looped (Put k x i) = false
is-looped (Read f k x i) = false
is-looped (Write f x y i) = false
is-looped (Branch x y n j f) = f
is-looped (Jump i) = false
is-looped (Barrier i) = false
is-looped End = false

pub same-join : (s : Step) (x y n j x' y' n' j' : ℕ) (f g : Bool) → s ≡ Branch x y n j f → s ≡ Branch x' y' n' j' g → j ≡ j'
unfolding join-of
same-join s x y n j x' y' n' j' f g p q = ap join-of (sym p ∙ q)

module _ (N : ℕ → List ℕ → Type 0) (text : List ℕ) (owns : ℕ) (code : ℕ → Step) where
  here : (lo hi o : ℕ) (s : Step) → code o ≡ s → Within lo hi s → Within lo hi (code o)
  here lo hi o s q w = subst (λ (v : Step). Within lo hi v) (sym q) w

  -- A body's entries go to each other and behind the last.
  pub codes-within : (o : ℕ) (b : Body) → Codes N text owns code o b → (i : ℕ) → i < lines_of b → Within o (o + lines_of b) (code (o + i))
  unfolding Codes lines_of else_lines_spec
  codes-within o end c i h = absurd (omega arith)
  codes-within o (put k e b) c i h =
      from_next (λ n. Within o (o + suc (lines_of b)) (code n)) o b i h (here o _ o _ c.1.2 (omega arith, omega arith))
      (λ j g. wider (suc o) (suc o + lines_of b) o (o + suc (lines_of b)) (code (suc o + j)) (omega arith) (omega arith) (codes-within (suc o) b c.2 j g))
  codes-within o (read_shared k e b) c i h =
      from_next (λ n. Within o (o + suc (lines_of b)) (code n)) o b i h (here o _ o _ c.1.2 (omega arith, omega arith))
      (λ j g. wider (suc o) (suc o + lines_of b) o (o + suc (lines_of b)) (code (suc o + j)) (omega arith) (omega arith) (codes-within (suc o) b c.2 j g))
  codes-within o (write_shared e f b) c i h =
      from_next (λ n. Within o (o + suc (lines_of b)) (code n)) o b i h (here o _ o _ c.0.4 (omega arith, omega arith))
      (λ j g. wider (suc o) (suc o + lines_of b) o (o + suc (lines_of b)) (code (suc o + j)) (omega arith) (omega arith) (codes-within (suc o) b c.1 j g))
  codes-within o (read_all k e b) c i h =
      from_next (λ n. Within o (o + suc (lines_of b)) (code n)) o b i h (here o _ o _ c.1.2 (omega arith, omega arith))
      (λ j g. wider (suc o) (suc o + lines_of b) o (o + suc (lines_of b)) (code (suc o + j)) (omega arith) (omega arith) (codes-within (suc o) b c.2 j g))
  codes-within o (write_all e f b) c i h =
      from_next (λ n. Within o (o + suc (lines_of b)) (code n)) o b i h (here o _ o _ c.0.4 (omega arith, omega arith))
      (λ j g. wider (suc o) (suc o + lines_of b) o (o + suc (lines_of b)) (code (suc o + j)) (omega arith) (omega arith) (codes-within (suc o) b c.1 j g))
  codes-within o (barrier b) c i h =
      from_next (λ n. Within o (o + suc (lines_of b)) (code n)) o b i h (here o _ o _ c.0 (omega arith, omega arith))
      (λ j g. wider (suc o) (suc o + lines_of b) o (o + suc (lines_of b)) (code (suc o + j)) (omega arith) (omega arith) (codes-within (suc o) b c.1 j g))
  codes-within o (when e x d b) c i h =
      let hi : ℕ = o + lines_of (when e x d b) in
      let n = when-lines e x d b in
      let r = else-room d in
      from-if (λ m. Within o hi (code m)) o e x d b i h
      (here o hi o _ c.0.2 ((omega arith, omega arith), (omega arith, omega arith), (omega arith, omega arith)))
      (λ j g. wider (suc o) (suc o + lines_of x) o hi (code (suc o + j)) (omega arith) (omega arith) (codes-within (suc o) x c.1 j g))
      (here o hi (suc o + lines_of x) _ c.2 (omega arith, omega arith))
      (λ j g. wider (suc o + suc (lines_of x)) (suc o + suc (lines_of x) + lines_of d) o hi (code (suc o + suc (lines_of x) + j)) (omega arith) (omega arith) (codes-within (suc o + suc (lines_of x)) d c.3 j g))
      (λ q. here o hi (suc o + suc (lines_of x) + lines_of d) _ (c.4 q) (omega arith, omega arith))
      (λ j g. wider (suc o + suc (lines_of x) + else_lines_spec d) (suc o + suc (lines_of x) + else_lines_spec d + lines_of b) o hi (code (suc o + suc (lines_of x) + else_lines_spec d + j)) (omega arith) (omega arith)
      (codes-within (suc o + suc (lines_of x) + else_lines_spec d) b c.5 j g))
  codes-within o (while e x b) c i h =
      let hi : ℕ = o + lines_of (while e x b) in
      from-while (λ m. Within o hi (code m)) o e x b i h
      (here o hi o _ c.0.2 ((omega arith, omega arith), (omega arith, omega arith), (omega arith, omega arith)))
      (λ j g. wider (suc o) (suc o + lines_of x) o hi (code (suc o + j)) (omega arith) (omega arith) (codes-within (suc o) x c.1 j g))
      (here o hi (suc o + lines_of x) _ c.2 (omega arith, omega arith))
      (λ j g. wider (suc o + suc (lines_of x)) (suc o + suc (lines_of x) + lines_of b) o hi (code (suc o + suc (lines_of x) + j)) (omega arith) (omega arith)
      (codes-within (suc o + suc (lines_of x)) b c.3 j g))

  -- What Nested asks of one entry.
  Holds : ℕ → Type 0
  Holds i = (x y n j : ℕ) (looped : Bool) → code i ≡ Branch x y n j looped → (k : ℕ) → i < k → k < j → Within (cond looped i (suc i)) j (code k)

  no-branch : (o : ℕ) (s : Step) → code o ≡ s → is_branch s ≡ false → Holds o
  unfolding Holds
  no-branch o s q h x y n j f p k a b = absurd (both_ways (is_branch s) h (ap is_branch (sym q ∙ p)))

  the-branch : (o x y n j : ℕ) (looped : Bool) → code o ≡ Branch x y n j looped → ((k : ℕ) → o < k → k < j → Within (cond looped o (suc o)) j (code k)) → Holds o
  unfolding Holds is-looped
  the-branch o x y n j looped q h x' y' n' j' f p k a b =
      let ej : j ≡ j' = same-join (code o) x y n j x' y' n' j' looped f q p in
      let ef : looped ≡ f = ap is-looped (sym q ∙ p) in
      subst (λ (g : Bool). Within (cond g o (suc o)) j' (code k)) ef (subst (λ (m : ℕ). Within (cond looped o (suc o)) m (code k)) ej (h k a (omega arith)))

  -- What stands between an if or a while and its join.
  in-if : (o : ℕ) (e : Expr) (x d b : Body) → Codes N text owns code o (when e x d b) → (k : ℕ) → o < k → k < suc o + suc (lines_of x) + else_lines_spec d → Within (suc o) (suc o + suc (lines_of x) + else_lines_spec d) (code k)
  unfolding Codes lines_of else_lines_spec
  in-if o e x d b c k lo hi =
      let n = when-lines e x d b in
      let r = else-room d in
      let join : ℕ = suc o + suc (lines_of x) + else_lines_spec d in
      let at : o + (k - o) ≡ k = omega arith in
      let F : ℕ → Type 0 = λ m. o < m → m < join → Within (suc o) join (code m) in
      let all : F (o + (k - o)) =
      from-if F o e x d b (k - o) (omega arith)
      (λ p q. absurd (omega arith))
      (λ j g p q. wider (suc o) (suc o + lines_of x) (suc o) join (code (suc o + j)) (omega arith) (omega arith) (codes-within (suc o) x c.1 j g))
      (λ p q. here (suc o) join (suc o + lines_of x) _ c.2 (omega arith, omega arith))
      (λ j g p q. wider (suc o + suc (lines_of x)) (suc o + suc (lines_of x) + lines_of d) (suc o) join (code (suc o + suc (lines_of x) + j)) (omega arith) (omega arith) (codes-within (suc o + suc (lines_of x)) d c.3 j g))
      (λ y p q. here (suc o) join (suc o + suc (lines_of x) + lines_of d) _ (c.4 y) (omega arith, omega arith))
      (λ j g p q. absurd (omega arith)) in
      subst F at all lo hi

  in-while : (o : ℕ) (e : Expr) (x b : Body) → Codes N text owns code o (while e x b) → (k : ℕ) → o < k → k < suc o + suc (lines_of x) → Within o (suc o + suc (lines_of x)) (code k)
  unfolding Codes lines_of
  in-while o e x b c k lo hi =
      let join : ℕ = suc o + suc (lines_of x) in
      let at : o + (k - o) ≡ k = omega arith in
      let F : ℕ → Type 0 = λ m. o < m → m < join → Within o join (code m) in
      let all : F (o + (k - o)) =
      from-while F o e x b (k - o) (omega arith)
      (λ p q. absurd (omega arith))
      (λ j g p q. wider (suc o) (suc o + lines_of x) o join (code (suc o + j)) (omega arith) (omega arith) (codes-within (suc o) x c.1 j g))
      (λ p q. here o join (suc o + lines_of x) _ c.2 (omega arith, omega arith))
      (λ j g p q. absurd (omega arith)) in
      subst F at all lo hi

  codes-nest : (o : ℕ) (b : Body) → Codes N text owns code o b → (i : ℕ) → i < lines_of b → Holds (o + i)
  unfolding Codes lines_of else_lines_spec
  codes-nest o end c i h = absurd (omega arith)
  codes-nest o (put k e b) c i h = from_next Holds o b i h (no-branch o _ c.1.2 refl) (codes-nest (suc o) b c.2)
  codes-nest o (read_shared k e b) c i h = from_next Holds o b i h (no-branch o _ c.1.2 refl) (codes-nest (suc o) b c.2)
  codes-nest o (write_shared e f b) c i h = from_next Holds o b i h (no-branch o _ c.0.4 refl) (codes-nest (suc o) b c.1)
  codes-nest o (read_all k e b) c i h = from_next Holds o b i h (no-branch o _ c.1.2 refl) (codes-nest (suc o) b c.2)
  codes-nest o (write_all e f b) c i h = from_next Holds o b i h (no-branch o _ c.0.4 refl) (codes-nest (suc o) b c.1)
  codes-nest o (barrier b) c i h = from_next Holds o b i h (no-branch o _ c.0 refl) (codes-nest (suc o) b c.1)
  codes-nest o (when e x d b) c i h =
      from-if Holds o e x d b i h
      (the-branch o c.0.0 (suc o) (suc o + suc (lines_of x)) (suc o + suc (lines_of x) + else_lines_spec d) false c.0.2 (in-if o e x d b c))
      (codes-nest (suc o) x c.1)
      (no-branch (suc o + lines_of x) _ c.2 refl)
      (codes-nest (suc o + suc (lines_of x)) d c.3)
      (λ q. no-branch (suc o + suc (lines_of x) + lines_of d) _ (c.4 q) refl)
      (codes-nest (suc o + suc (lines_of x) + else_lines_spec d) b c.5)
  codes-nest o (while e x b) c i h =
      from-while Holds o e x b i h
      (the-branch o c.0.0 (suc o) (suc o + suc (lines_of x)) (suc o + suc (lines_of x)) true c.0.2 (in-while o e x b c))
      (codes-nest (suc o) x c.1)
      (no-branch (suc o + lines_of x) _ c.2 refl)
      (codes-nest (suc o + suc (lines_of x)) b c.3)

pub joins-right : JoinsRight
unfolding JoinsRight Nested Holds
joins-right ns text code b c i x y n j looped h q =
    let at : 0 + i ≡ i = omega arith in
    subst (λ (m : ℕ). Holds (Named ns) text (length ns) code m) at (codes-nest (Named ns) text (length ns) code 0 b c i h) x y n j looped q
