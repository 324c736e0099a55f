-- The stack of a row as it lies in memory, and the joins that are open by the row's story. On a stack joins are counted from the oldest.
use Rattle.std.specs.Prelude.{◌≡◌, ℕ, ◌<◌, true, false, cond, List, [], ◌∷◌, length, ◌==◌}
use Rattle.masks.specs.Masks.{on}
use Rattle.code.specs.declared.step.Step.{Step}
use Rattle.code.specs.Joins.{JoinsAt}
use Rattle.joins.specs.declared.Join.{Join}
use Rattle.joins.specs.Stack.{leaves}
use Rattle.joins.specs.Story.{Open, leave, Falls}

-- A join of the stack is an open one: of the same branch, with the same lanes, and with the entry where they join.
pub record IsOpen (code : ℕ → Step) (o : Open) (j : Join) : Type 0 where
  pub branch : j.branch ≡ o.branch
  pub lanes : j.lanes ≡ o.lanes
  pub line : JoinsAt code o.branch j.line

-- The joins of the stack are the open joins.
unfoldable pub AreOpen : (ℕ → Step) → List Open → List Join → Type 0
AreOpen code [] [] = Unit {0}
AreOpen code [] (j ∷ js) = ⊥
AreOpen code (o ∷ os) [] = ⊥
AreOpen code (o ∷ os) (j ∷ js) = IsOpen code o j × AreOpen code os js

-- The open join that has k older ones.
unfoldable pub open_at : List Open → ℕ → Open
open_at [] k = record { number = 0; branch = 0; lanes = 0 }
open_at (o ∷ os) k = cond (length os == k) o (open_at os k)

-- Of the joins f 0, f 1, .. f (n - 1) of a stack, f k is the newest that has lane i.
pub record Newest (f : ℕ → Join) (n k i : ℕ) : Type 0 where
  pub there : k < n
  pub has : on (f k).lanes i ≡ true
  pub later : (m : ℕ) → k < m → m < n → on (f m).lanes i ≡ false

-- Lanes that go on from the join at place k of the stack go on from the open join there, and the joins of the stack are still the open ones.
unfoldable pub LeftByPlace : Type 0
LeftByPlace =
    (code : ℕ → Step) (top k mask : ℕ) (os : List Open) (js : List Join) → Falls top os → AreOpen code os js → k < length js →
    AreOpen code (leave (open_at os k).number mask os) (leaves js k mask)
