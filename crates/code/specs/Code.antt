-- What the step at an entry means, and code that stands for a body.
use Rattle.std.specs.Prelude.{◌≡◌, ℕ, suc, ◌+◌, ◌<◌, ◌≤◌, Bool, true, false, ◌⊎◌, List, length}
use Rattle.lanes.specs.Syntax.{Body, Expr, followed, ended, end, put, read_shared, write_shared, read_all, write_all, barrier, when, while}
use Rattle.grammar.specs.Spelling.{Named}
use Rattle.grammar.specs.Stands.{Stands}
use Rattle.code.specs.declared.step.Step.{Step}
use Rattle.code.specs.declared.step.Step.TheVariants.{Put, Read, Write, Branch, Jump, Barrier, End}
use Rattle.code.specs.Lines.{lines_of, else_lines_spec, left_at}
pub use Rattle.code.specs.Settle.{is_jump}

-- A branch stands at an if: where each of the two ways goes on, and where they join, which is behind the if.
pub record IfHere (at : ℕ → Body) (e : Expr) (y n j : ℕ) (b : Body) : Type 0 where
  pub first : Body
  pub second : Body
  pub behind : Body
  pub is : b ≡ when e first second behind
  pub yes : at y ≡ followed first behind
  pub no : at n ≡ followed second behind
  pub join : at j ≡ behind

-- A branch stands at a while. Its lanes join behind it, where those that leave it go.
pub record WhileHere (at : ℕ → Body) (e : Expr) (y n j : ℕ) (b : Body) : Type 0 where
  pub inner : Body
  pub behind : Body
  pub is : b ≡ while e inner behind
  pub yes : at y ≡ followed inner (while e inner behind)
  pub no : at n ≡ behind
  pub join : at j ≡ behind

-- N k u says that the bytes u may stand for own number k; `at` is what is left at each entry.
module _ (N : ℕ → List ℕ → Type 0) (text : List ℕ) (at : ℕ → Body) where
  -- What is left, b, where the step stands: it begins with what the step does, and goes on with what is left where the step goes.
  abbrev pub Does : Step → Body → Type 0
  Does (Put k x i) b = (e : Expr) × Stands N text x e × (b ≡ put k e (at i))
  Does (Read true k x i) b = (e : Expr) × Stands N text x e × (b ≡ read_all k e (at i))
  Does (Read false k x i) b = (e : Expr) × Stands N text x e × (b ≡ read_shared k e (at i))
  Does (Write true x y i) b = (e : Expr) × (f : Expr) × Stands N text x e × Stands N text y f × (b ≡ write_all e f (at i))
  Does (Write false x y i) b = (e : Expr) × (f : Expr) × Stands N text x e × Stands N text y f × (b ≡ write_shared e f (at i))
  Does (Branch x y n j false) b = (e : Expr) × Stands N text x e × IfHere at e y n j b
  Does (Branch x y n j true) b = (e : Expr) × Stands N text x e × WhileHere at e y n j b
  Does (Jump i) b = b ≡ at i
  Does (Barrier i) b = b ≡ barrier (at i)
  Does End b = b ≡ end

-- A step goes to one of the entries, or behind the last, and works with own numbers that are there.
abbrev pub Goes : ℕ → ℕ → Step → Type 0
Goes owns lines (Put k x i) = (k < owns) × (i ≤ lines)
Goes owns lines (Read f k x i) = (k < owns) × (i ≤ lines)
Goes owns lines (Write f x y i) = i ≤ lines
Goes owns lines (Branch x y n j f) = (y ≤ lines) × (n ≤ lines) × (j ≤ lines)
Goes owns lines (Jump i) = i ≤ lines
Goes owns lines (Barrier i) = i ≤ lines
Goes owns lines End = Unit {0}

-- A while.
abbrev pub is_loop : Step → Bool
is_loop (Put k x i) = false
is_loop (Read f k x i) = false
is_loop (Write f x y i) = false
is_loop (Branch x y n j f) = f
is_loop (Jump i) = false
is_loop (Barrier i) = false
is_loop End = false

-- Where the step at entry i goes: to the next entry; from an if or a while to the next or behind it, and the lanes join no earlier;
-- a jump goes forward, or back to a while.
abbrev pub Onward : (ℕ → Step) → ℕ → Step → Type 0
Onward code i (Put k x j) = j ≡ suc i
Onward code i (Read f k x j) = j ≡ suc i
Onward code i (Write f x y j) = j ≡ suc i
Onward code i (Branch x y n j f) = (y ≡ suc i) × (y < n) × (n ≤ j)
Onward code i (Jump j) = (i < j) ⊎ (is_loop (code j) ≡ true)
Onward code i (Barrier j) = j ≡ suc i
Onward code i End = Unit {0}

-- The code does at each entry, and behind the last, what is left there.
pub record Coded (N : ℕ → List ℕ → Type 0) (text : List ℕ) (owns lines : ℕ) (at : ℕ → Body) (code : ℕ → Step) : Type 0 where
  pub does : (i : ℕ) → i ≤ lines → Does N text at (code i) (at i)
  pub goes : (i : ℕ) → i ≤ lines → Goes owns lines (code i)
  pub onward : (i : ℕ) → i ≤ lines → Onward code i (code i)

-- From entry i the jumps lead to entry r, where there is none, and the same is left to do.
pub record Settled (at : ℕ → Body) (code : ℕ → Step) (lines i r : ℕ) : Type 0 where
  pub left : at r ≡ at i
  pub within : r ≤ lines
  pub stays : is_jump (code r) ≡ false

module _ (N : ℕ → List ℕ → Type 0) (text : List ℕ) (owns : ℕ) (code : ℕ → Step) where
  -- The step is one with the place in the text where an expression stands, or with two such places.
  abbrev pub One : Expr → (ℕ → Step) → Step → Type 0
  One e of-it s = (x : ℕ) × Stands N text x e × (s ≡ of-it x)

  abbrev pub Two : Expr → Expr → (ℕ → ℕ → Step) → Step → Type 0
  Two e f of-them s = (x : ℕ) × (y : ℕ) × Stands N text x e × Stands N text y f × (s ≡ of-them x y)

  -- The entry behind an if at o with first lines c and second lines d, and the one behind a while.
  abbrev pub behind_if : ℕ → Body → Body → ℕ
  behind_if o c d = suc o + suc (lines_of c) + else_lines_spec d

  abbrev pub behind_while : ℕ → Body → ℕ
  behind_while o c = suc o + suc (lines_of c)

  -- The code stands for the body from entry o on. Behind the first lines of an if stands its else, or its end if it has no else;
  -- behind the second lines stands its end: all of them jump to where the lanes join, behind the end. A while's end jumps to the while.
  unfoldable pub Codes : ℕ → Body → Type 0
  Codes o end = Unit {0}
  Codes o (put k e b) = (k < owns) × One e (λ x. Put k x (suc o)) (code o) × Codes (suc o) b
  Codes o (read_shared k e b) = (k < owns) × One e (λ x. Read false k x (suc o)) (code o) × Codes (suc o) b
  Codes o (write_shared e f b) = Two e f (λ x y. Write false x y (suc o)) (code o) × Codes (suc o) b
  Codes o (read_all k e b) = (k < owns) × One e (λ x. Read true k x (suc o)) (code o) × Codes (suc o) b
  Codes o (write_all e f b) = Two e f (λ x y. Write true x y (suc o)) (code o) × Codes (suc o) b
  Codes o (barrier b) = (code o ≡ Barrier (suc o)) × Codes (suc o) b
  Codes o (when e c d b) =
      One e (λ x. Branch x (suc o) (suc o + suc (lines_of c)) (behind_if o c d) false) (code o)
      × Codes (suc o) c × (code (suc o + lines_of c) ≡ Jump (behind_if o c d))
      × Codes (suc o + suc (lines_of c)) d × (ended d ≡ false → code (suc o + suc (lines_of c) + lines_of d) ≡ Jump (behind_if o c d))
      × Codes (behind_if o c d) b
  Codes o (while e c b) =
      One e (λ x. Branch x (suc o) (behind_while o c) (behind_while o c) true) (code o)
      × Codes (suc o) c × (code (suc o + lines_of c) ≡ Jump o) × Codes (behind_while o c) b

-- Code that stands for a body whose own numbers are named ns, with the end behind its last entry, does at every entry what is left there.
unfoldable pub CodeRight : Type 0
CodeRight =
    (ns : List (List ℕ)) (text : List ℕ) (code : ℕ → Step) (b : Body) → Codes (Named ns) text (length ns) code 0 b → code (lines_of b) ≡ End →
    Coded (Named ns) text (length ns) (lines_of b) (left_at b) code
