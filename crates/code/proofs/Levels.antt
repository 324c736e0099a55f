-- How many branches an entry stands in: no more than the lines of the body stand in each other.
use Rattle.std.proofs.Common.{◌≡◌, ℕ, suc, ◌+◌, ◌-◌, ◌<◌, ◌≤◌, Bool, true, false, cond, ltb, leb, List, refl, ap, ◌∙◌, subst, inl, inr, arith}
use Rattle.std.proofs.lemmas.Bool.{both_ways, cases_lt, le-leb, lt-leb, lt-ltb, le-ltb}
use Rattle.lanes.specs.Syntax.{Body, Expr, end, put, read_shared, write_shared, read_all, write_all, barrier, when, while}
use Rattle.grammar.specs.Taken.{depth}
use Rattle.code.specs.declared.step.Step.{Step}
use Rattle.code.specs.declared.step.Step.TheVariants.{Branch}
use Rattle.code.specs.Lines.{lines_of, else_lines_spec}
use Rattle.code.specs.Code.{Codes}
use Rattle.code.specs.Joins.{Within, is_branch}
use Rattle.code.proofs.Left.{else-room, when-lines}
use Rattle.code.proofs.Walks.{from_next, from-if, from-while}
use Rattle.code.proofs.Nests.{codes-within, same-join}

-- 1 for an entry from o up to j.
covers : ℕ → ℕ → ℕ → ℕ
covers o j p = cond (leb o p) (cond (ltb p j) 1 0) 0

covers-in : (o j p : ℕ) → o ≤ p → p < j → covers o j p ≡ 1
unfolding covers
covers-in o j p a b = rw (le-leb o p a, lt-ltb p j b)

covers-before : (o j p : ℕ) → p < o → covers o j p ≡ 0
unfolding covers
covers-before o j p a = rw (lt-leb o p a)

covers-behind : (o j p : ℕ) → o ≤ p → j ≤ p → covers o j p ≡ 0
unfolding covers
covers-behind o j p a b = rw (le-leb o p a, le-ltb p j b)

-- The branches of a body that stands from entry o on, in which entry p stands. A branch stands in itself.
pub level-of : ℕ → Body → ℕ → ℕ
level-of o end p = 0
level-of o (put k e b) p = level-of (suc o) b p
level-of o (read_shared k e b) p = level-of (suc o) b p
level-of o (write_shared e f b) p = level-of (suc o) b p
level-of o (read_all k e b) p = level-of (suc o) b p
level-of o (write_all e f b) p = level-of (suc o) b p
level-of o (barrier b) p = level-of (suc o) b p
level-of o (when e c d b) p =
    covers o (suc o + suc (lines_of c) + else_lines_spec d) p + level-of (suc o) c p + level-of (suc o + suc (lines_of c)) d p + level-of (suc o + suc (lines_of c) + else_lines_spec d) b p
level-of o (while e c b) p = covers o (suc o + suc (lines_of c)) p + level-of (suc o) c p + level-of (suc o + suc (lines_of c)) b p

-- None before a body, and none behind it.
level_before : (o : ℕ) (b : Body) (p : ℕ) → p < o → level-of o b p ≡ 0
unfolding level-of
level_before o end p h = refl
level_before o (put k e b) p h = level_before (suc o) b p (omega arith)
level_before o (read_shared k e b) p h = level_before (suc o) b p (omega arith)
level_before o (write_shared e f b) p h = level_before (suc o) b p (omega arith)
level_before o (read_all k e b) p h = level_before (suc o) b p (omega arith)
level_before o (write_all e f b) p h = level_before (suc o) b p (omega arith)
level_before o (barrier b) p h = level_before (suc o) b p (omega arith)
level_before o (when e c d b) p h =
    omega (arith, covers-before o (suc o + suc (lines_of c) + else_lines_spec d) p h, level_before (suc o) c p (omega arith), level_before (suc o + suc (lines_of c)) d p (omega arith), level_before (suc o + suc (lines_of c) + else_lines_spec d) b p (omega arith))
level_before o (while e c b) p h =
    omega (arith, covers-before o (suc o + suc (lines_of c)) p h, level_before (suc o) c p (omega arith), level_before (suc o + suc (lines_of c)) b p (omega arith))

level-behind : (o : ℕ) (b : Body) (p : ℕ) → o + lines_of b ≤ p → level-of o b p ≡ 0
unfolding level-of lines_of
level-behind o end p h = refl
level-behind o (put k e b) p h = level-behind (suc o) b p (omega arith)
level-behind o (read_shared k e b) p h = level-behind (suc o) b p (omega arith)
level-behind o (write_shared e f b) p h = level-behind (suc o) b p (omega arith)
level-behind o (read_all k e b) p h = level-behind (suc o) b p (omega arith)
level-behind o (write_all e f b) p h = level-behind (suc o) b p (omega arith)
level-behind o (barrier b) p h = level-behind (suc o) b p (omega arith)
level-behind o (when e c d b) p h =
    let n = when-lines e c d b in
    let r = else-room d in
    omega (arith, covers-behind o (suc o + suc (lines_of c) + else_lines_spec d) p (omega arith) (omega arith), level-behind (suc o) c p (omega arith), level-behind (suc o + suc (lines_of c)) d p (omega arith), level-behind (suc o + suc (lines_of c) + else_lines_spec d) b p (omega arith))
level-behind o (while e c b) p h =
    omega (arith, covers-behind o (suc o + suc (lines_of c)) p (omega arith) (omega arith), level-behind (suc o) c p (omega arith), level-behind (suc o + suc (lines_of c)) b p (omega arith))

-- The level of an entry, by the part of the if or the while that it stands in.
module _ (o : ℕ) (e : Expr) (c d b : Body) (p : ℕ) where
  if-own : p ≡ o → level-of o (when e c d b) p ≡ 1
  unfolding level-of
  if-own h =
      omega (arith, covers-in o (suc o + suc (lines_of c) + else_lines_spec d) p (omega arith) (omega arith), level_before (suc o) c p (omega arith), level_before (suc o + suc (lines_of c)) d p (omega arith), level_before (suc o + suc (lines_of c) + else_lines_spec d) b p (omega arith))

  if-first : suc o ≤ p → p < suc o + suc (lines_of c) → level-of o (when e c d b) p ≡ suc (level-of (suc o) c p)
  unfolding level-of
  if-first h g =
      omega (arith, covers-in o (suc o + suc (lines_of c) + else_lines_spec d) p (omega arith) (omega arith), level_before (suc o + suc (lines_of c)) d p (omega arith), level_before (suc o + suc (lines_of c) + else_lines_spec d) b p (omega arith))

  if-second : suc o + suc (lines_of c) ≤ p → p < suc o + suc (lines_of c) + else_lines_spec d → level-of o (when e c d b) p ≡ suc (level-of (suc o + suc (lines_of c)) d p)
  unfolding level-of
  if-second h g =
      omega (arith, covers-in o (suc o + suc (lines_of c) + else_lines_spec d) p (omega arith) (omega arith), level-behind (suc o) c p (omega arith), level_before (suc o + suc (lines_of c) + else_lines_spec d) b p (omega arith))

  if-behind : suc o + suc (lines_of c) + else_lines_spec d ≤ p → level-of o (when e c d b) p ≡ level-of (suc o + suc (lines_of c) + else_lines_spec d) b p
  unfolding level-of
  if-behind h =
      let r = else-room d in
      omega (arith, covers-behind o (suc o + suc (lines_of c) + else_lines_spec d) p (omega arith) (omega arith), level-behind (suc o) c p (omega arith), level-behind (suc o + suc (lines_of c)) d p (omega arith))

module _ (o : ℕ) (e : Expr) (c b : Body) (p : ℕ) where
  while-own : p ≡ o → level-of o (while e c b) p ≡ 1
  unfolding level-of
  while-own h =
      omega (arith, covers-in o (suc o + suc (lines_of c)) p (omega arith) (omega arith), level_before (suc o) c p (omega arith), level_before (suc o + suc (lines_of c)) b p (omega arith))

  while-first : suc o ≤ p → p < suc o + suc (lines_of c) → level-of o (while e c b) p ≡ suc (level-of (suc o) c p)
  unfolding level-of
  while-first h g = omega (arith, covers-in o (suc o + suc (lines_of c)) p (omega arith) (omega arith), level_before (suc o + suc (lines_of c)) b p (omega arith))

  while-behind : suc o + suc (lines_of c) ≤ p → level-of o (while e c b) p ≡ level-of (suc o + suc (lines_of c)) b p
  unfolding level-of
  while-behind h = omega (arith, covers-behind o (suc o + suc (lines_of c)) p (omega arith) (omega arith), level-behind (suc o) c p (omega arith))

-- No level is above the depth of the body.
pub level-deep : (o : ℕ) (b : Body) (p : ℕ) → level-of o b p ≤ depth b
unfolding level-of depth
level-deep o end p = omega arith
level-deep o (put k e b) p = level-deep (suc o) b p
level-deep o (read_shared k e b) p = level-deep (suc o) b p
level-deep o (write_shared e f b) p = level-deep (suc o) b p
level-deep o (read_all k e b) p = level-deep (suc o) b p
level-deep o (write_all e f b) p = level-deep (suc o) b p
level-deep o (barrier b) p = level-deep (suc o) b p
level-deep o (when e c d b) p =
    let lc = level-deep (suc o) c p in
    let ld = level-deep (suc o + suc (lines_of c)) d p in
    let lb = level-deep (suc o + suc (lines_of c) + else_lines_spec d) b p in
    elim (cases_lt p o) [
      | inl u ↦ omega (arith, level_before o (when e c d b) p u)
      | inr u ↦ elim (cases_lt p (suc o)) [
        | inl v ↦ omega (arith, if-own o e c d b p (omega arith))
        | inr v ↦ elim (cases_lt p (suc o + suc (lines_of c))) [
          | inl w ↦ omega (arith, if-first o e c d b p v w)
          | inr w ↦ elim (cases_lt p (suc o + suc (lines_of c) + else_lines_spec d)) [
            | inl s ↦ omega (arith, if-second o e c d b p w s)
            | inr s ↦ omega (arith, if-behind o e c d b p s)
          ]
        ]
      ]
    ]
level-deep o (while e c b) p =
    let lc = level-deep (suc o) c p in
    let lb = level-deep (suc o + suc (lines_of c)) b p in
    elim (cases_lt p o) [
      | inl u ↦ omega (arith, level_before o (while e c b) p u)
      | inr u ↦ elim (cases_lt p (suc o)) [
        | inl v ↦ omega (arith, while-own o e c b p (omega arith))
        | inr v ↦ elim (cases_lt p (suc o + suc (lines_of c))) [
          | inl w ↦ omega (arith, while-first o e c b p v w)
          | inr w ↦ omega (arith, while-behind o e c b p w)
        ]
      ]
    ]

module _ (N : ℕ → List ℕ → Type 0) (text : List ℕ) (owns : ℕ) (code : ℕ → Step) where
  -- A branch has a level.
  unfoldable pub Counts : ℕ → Body → ℕ → Type 0
  Counts o b m = is_branch (code m) ≡ true → 1 ≤ level-of o b m

  no-count : (o : ℕ) (b : Body) (m : ℕ) (s : Step) → code m ≡ s → is_branch s ≡ false → Counts o b m
  unfolding Counts
  no-count o b m s q h p = absurd (both_ways (is_branch (code m)) (ap is_branch q ∙ h) p)

  pub level-some : (o : ℕ) (b : Body) → Codes N text owns code o b → (i : ℕ) → i < lines_of b → Counts o b (o + i)
  unfolding Codes lines_of else_lines_spec level-of Counts
  level-some o end c i h = absurd (omega arith)
  level-some o (put k e b) c i h = from_next (Counts o (put k e b)) o b i h (no-count o (put k e b) o _ c.1.2 refl) (level-some (suc o) b c.2)
  level-some o (read_shared k e b) c i h = from_next (Counts o (read_shared k e b)) o b i h (no-count o (read_shared k e b) o _ c.1.2 refl) (level-some (suc o) b c.2)
  level-some o (write_shared e f b) c i h = from_next (Counts o (write_shared e f b)) o b i h (no-count o (write_shared e f b) o _ c.0.4 refl) (level-some (suc o) b c.1)
  level-some o (read_all k e b) c i h = from_next (Counts o (read_all k e b)) o b i h (no-count o (read_all k e b) o _ c.1.2 refl) (level-some (suc o) b c.2)
  level-some o (write_all e f b) c i h = from_next (Counts o (write_all e f b)) o b i h (no-count o (write_all e f b) o _ c.0.4 refl) (level-some (suc o) b c.1)
  level-some o (barrier b) c i h = from_next (Counts o (barrier b)) o b i h (no-count o (barrier b) o _ c.0 refl) (level-some (suc o) b c.1)
  level-some o (when e x d b) c i h =
      let n = when-lines e x d b in
      let r = else-room d in
      from-if (Counts o (when e x d b)) o e x d b i h
      (λ p. omega (arith, if-own o e x d b o refl))
      (λ j g p. omega (arith, if-first o e x d b (suc o + j) (omega arith) (omega arith)))
      (no-count o (when e x d b) (suc o + lines_of x) _ c.2 refl)
      (λ j g p. omega (arith, if-second o e x d b (suc o + suc (lines_of x) + j) (omega arith) (omega arith)))
      (λ q. no-count o (when e x d b) (suc o + suc (lines_of x) + lines_of d) _ (c.4 q) refl)
      (λ j g p. omega (arith, if-behind o e x d b (suc o + suc (lines_of x) + else_lines_spec d + j) (omega arith), level-some (suc o + suc (lines_of x) + else_lines_spec d) b c.5 j g p))
  level-some o (while e x b) c i h =
      from-while (Counts o (while e x b)) o e x b i h
      (λ p. omega (arith, while-own o e x b o refl))
      (λ j g p. omega (arith, while-first o e x b (suc o + j) (omega arith) (omega arith)))
      (no-count o (while e x b) (suc o + lines_of x) _ c.2 refl)
      (λ j g p. omega (arith, while-behind o e x b (suc o + suc (lines_of x) + j) (omega arith), level-some (suc o + suc (lines_of x)) b c.3 j g p))

  -- A branch that stands in another has a higher level.
  unfoldable pub Rises : ℕ → Body → ℕ → Type 0
  Rises o b m = (x y n j : ℕ) (f : Bool) → code m ≡ Branch x y n j f → (k : ℕ) → m < k → k < j → is_branch (code k) ≡ true → level-of o b m < level-of o b k

  no-rise : (o : ℕ) (b : Body) (m : ℕ) (s : Step) → code m ≡ s → is_branch s ≡ false → Rises o b m
  unfolding Rises
  no-rise o b m s q h x y n j f p = absurd (both_ways (is_branch (code m)) (ap is_branch q ∙ h) (ap is_branch p))

  -- A branch of a body joins no further than behind it.
  ends-within : (o : ℕ) (b : Body) → Codes N text owns code o b → (i : ℕ) → i < lines_of b → (x y n j : ℕ) (f : Bool) → code (o + i) ≡ Branch x y n j f → j ≤ o + lines_of b
  ends-within o b c i h x y n j f q = (subst (λ (s : Step). Within o (o + lines_of b) s) q (codes-within N text owns code o b c i h)).2.1

  -- The branches in an if or a while at entry o are above it.
  above_if : (o : ℕ) (e : Expr) (x d b : Body) → Codes N text owns code o (when e x d b) → (k : ℕ) → o < k → k < suc o + suc (lines_of x) + else_lines_spec d → is_branch (code k) ≡ true → 2 ≤ level-of o (when e x d b) k
  unfolding Codes Counts
  above_if o e x d b c k lo hi p =
      let n = when-lines e x d b in
      let r = else-room d in
      let at : o + (k - o) ≡ k = omega arith in
      let F : ℕ → Type 0 = λ m. o < m → m < suc o + suc (lines_of x) + else_lines_spec d → is_branch (code m) ≡ true → 2 ≤ level-of o (when e x d b) m in
      let all : F (o + (k - o)) =
      from-if F o e x d b (k - o) (omega arith)
      (λ u v w. absurd (omega arith))
      (λ j g u v w. omega (arith, if-first o e x d b (suc o + j) (omega arith) (omega arith), level-some (suc o) x c.1 j g w))
      (λ u v w. absurd (both_ways (is_branch (code (suc o + lines_of x))) (ap is_branch c.2) w))
      (λ j g u v w. omega (arith, if-second o e x d b (suc o + suc (lines_of x) + j) (omega arith) (omega arith), level-some (suc o + suc (lines_of x)) d c.3 j g w))
      (λ q u v w. absurd (both_ways (is_branch (code (suc o + suc (lines_of x) + lines_of d))) (ap is_branch (c.4 q)) w))
      (λ j g u v w. absurd (omega arith)) in
      subst F at all lo hi p

  above-while : (o : ℕ) (e : Expr) (x b : Body) → Codes N text owns code o (while e x b) → (k : ℕ) → o < k → k < suc o + suc (lines_of x) → is_branch (code k) ≡ true → 2 ≤ level-of o (while e x b) k
  unfolding Codes Counts lines_of
  above-while o e x b c k lo hi p =
      let at : o + (k - o) ≡ k = omega arith in
      let F : ℕ → Type 0 = λ m. o < m → m < suc o + suc (lines_of x) → is_branch (code m) ≡ true → 2 ≤ level-of o (while e x b) m in
      let all : F (o + (k - o)) =
      from-while F o e x b (k - o) (omega arith)
      (λ u v w. absurd (omega arith))
      (λ j g u v w. omega (arith, while-first o e x b (suc o + j) (omega arith) (omega arith), level-some (suc o) x c.1 j g w))
      (λ u v w. absurd (both_ways (is_branch (code (suc o + lines_of x))) (ap is_branch c.2) w))
      (λ j g u v w. absurd (omega arith)) in
      subst F at all lo hi p

  pub level-rises : (o : ℕ) (b : Body) → Codes N text owns code o b → (i : ℕ) → i < lines_of b → Rises o b (o + i)
  unfolding Codes lines_of else_lines_spec level-of Rises
  level-rises o end c i h = absurd (omega arith)
  level-rises o (put k e b) c i h = from_next (Rises o (put k e b)) o b i h (no-rise o (put k e b) o _ c.1.2 refl) (level-rises (suc o) b c.2)
  level-rises o (read_shared k e b) c i h = from_next (Rises o (read_shared k e b)) o b i h (no-rise o (read_shared k e b) o _ c.1.2 refl) (level-rises (suc o) b c.2)
  level-rises o (write_shared e f b) c i h = from_next (Rises o (write_shared e f b)) o b i h (no-rise o (write_shared e f b) o _ c.0.4 refl) (level-rises (suc o) b c.1)
  level-rises o (read_all k e b) c i h = from_next (Rises o (read_all k e b)) o b i h (no-rise o (read_all k e b) o _ c.1.2 refl) (level-rises (suc o) b c.2)
  level-rises o (write_all e f b) c i h = from_next (Rises o (write_all e f b)) o b i h (no-rise o (write_all e f b) o _ c.0.4 refl) (level-rises (suc o) b c.1)
  level-rises o (barrier b) c i h = from_next (Rises o (barrier b)) o b i h (no-rise o (barrier b) o _ c.0 refl) (level-rises (suc o) b c.1)
  level-rises o (when e x d b) c i h =
      let r = else-room d in
      from-if (Rises o (when e x d b)) o e x d b i h
      (λ ex y n j f q k lo hi p.
      let s : j ≡ suc o + suc (lines_of x) + else_lines_spec d = same-join (code o) _ _ _ _ _ _ _ _ _ _ q c.0.2 in
      omega (arith, if-own o e x d b o refl, above_if o e x d b c k lo (omega arith) p))
      (λ i g ex y n j f q k lo hi p.
      let w = ends-within (suc o) x c.1 i g ex y n j f q in
      omega (arith, if-first o e x d b (suc o + i) (omega arith) (omega arith), if-first o e x d b k (omega arith) (omega arith), level-rises (suc o) x c.1 i g ex y n j f q k lo hi p))
      (no-rise o (when e x d b) (suc o + lines_of x) _ c.2 refl)
      (λ i g ex y n j f q k lo hi p.
      let w = ends-within (suc o + suc (lines_of x)) d c.3 i g ex y n j f q in
      omega (arith, if-second o e x d b (suc o + suc (lines_of x) + i) (omega arith) (omega arith), if-second o e x d b k (omega arith) (omega arith), level-rises (suc o + suc (lines_of x)) d c.3 i g ex y n j f q k lo hi p))
      (λ q. no-rise o (when e x d b) (suc o + suc (lines_of x) + lines_of d) _ (c.4 q) refl)
      (λ i g ex y n j f q k lo hi p.
      omega (arith, if-behind o e x d b (suc o + suc (lines_of x) + else_lines_spec d + i) (omega arith), if-behind o e x d b k (omega arith), level-rises (suc o + suc (lines_of x) + else_lines_spec d) b c.5 i g ex y n j f q k lo hi p))
  level-rises o (while e x b) c i h =
      from-while (Rises o (while e x b)) o e x b i h
      (λ ex y n j f q k lo hi p.
      let s : j ≡ suc o + suc (lines_of x) = same-join (code o) _ _ _ _ _ _ _ _ _ _ q c.0.2 in
      omega (arith, while-own o e x b o refl, above-while o e x b c k lo (omega arith) p))
      (λ i g ex y n j f q k lo hi p.
      let w = ends-within (suc o) x c.1 i g ex y n j f q in
      omega (arith, while-first o e x b (suc o + i) (omega arith) (omega arith), while-first o e x b k (omega arith) (omega arith), level-rises (suc o) x c.1 i g ex y n j f q k lo hi p))
      (no-rise o (while e x b) (suc o + lines_of x) _ c.2 refl)
      (λ i g ex y n j f q k lo hi p.
      omega (arith, while-behind o e x b (suc o + suc (lines_of x) + i) (omega arith), while-behind o e x b k (omega arith), level-rises (suc o + suc (lines_of x)) b c.3 i g ex y n j f q k lo hi p))
