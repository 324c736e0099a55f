-- What the step at an entry has the lanes of a mask do, and that they did it.
use Rattle.std.specs.Prelude.{◌≡◌, ℕ, suc, ◌+◌, ◌<◌, ◌≤◌, true, false, cond, List, ◌++◌, length, Some, None, Option, ◌≢◌, nat_lt, slice_index}
use Rattle.lanes.specs.Syntax.{Body, Expr}
use Rattle.lanes.specs.Step.{value}
use Rattle.lanes.specs.Grid.{Grid, Turn, turns, steps}
use Rattle.grammar.specs.Spelling.{Named}
use Rattle.grammar.specs.Stands.{Stands}
use Rattle.grammar.specs.Names.{NamesIn, Distinct}
use Rattle.code.specs.declared.step.Step.{Step}
use Rattle.code.specs.declared.step.Step.TheVariants.{Put, Read, Write, Branch, Jump, Barrier, End}
use Rattle.code.specs.Code.{Coded, is_jump}
use Rattle.code.specs.Words.{step_at}
use Rattle.store.specs.declared.Sizes.{Sizes}
use Rattle.store.specs.declared.Todo.{Todo}
use Rattle.store.specs.declared.Todo.TheVariants as todo
use Rattle.store.specs.Layout.{slots}
use Rattle.store.specs.Lent.{own_of, slot_of, line_at, grid_of, Lined}
use Rattle.machine.specs.declared.line.Plan.{Plan}
use Rattle.machine.specs.Sofar.{Sofar, After, Outcome}
use Rattle.masks.specs.Masks.{on}
use Rattle.machine.specs.Line.{row_turns}
use Rattle.machine.specs.Masks.{Ends}

-- What a step has a lane do, and the bytes of the text where its expressions stand; nothing at an else, at an end, at a barrier and
-- behind the last entry, nor with an own number that isn't there.
abbrev pub plan_of_spec : ℕ → Step → Option Plan
plan_of_spec owns (Put k x i) = cond (nat_lt k owns) (Some (record { «todo» = todo.Put k i; first = x; second = x })) None
plan_of_spec owns (Read f k x i) = cond (nat_lt k owns) (Some (record { «todo» = todo.Read f k i; first = x; second = x })) None
plan_of_spec owns (Write f x y i) = Some (record { «todo» = todo.Write f i; first = x; second = y })
plan_of_spec owns (Branch x y n j f) = Some (record { «todo» = todo.Branch y n; first = x; second = x })
plan_of_spec owns (Jump i) = None
plan_of_spec owns (Barrier i) = None
plan_of_spec owns End = None

-- The numbers xs are, for each lane of the row, the value of the expression that stands at byte x of the text.
unfoldable pub Worked : Sizes → List ℕ → ℕ → ℕ → List ℕ → ℕ → List ℕ → Type 0
Worked z ls g start text x xs =
    (ns : List (List ℕ)) → NamesIn ns text → Distinct ns → length ns ≤ z.owns → (e : Expr) → Stands (Named ns) text x e →
    (i : ℕ) → i < 32 → start + i < z.lanes → slice_index xs i ≡ value (own_of z ls g (start + i)) (start + i) g z.lanes e

-- The second numbers are worked out only for a write.
abbrev pub SecondWorked : Sizes → List ℕ → ℕ → ℕ → List ℕ → Todo → ℕ → List ℕ → Type 0
SecondWorked z ls g start text (todo.Put k i) y ys = Unit {0}
SecondWorked z ls g start text (todo.Read f k i) y ys = Unit {0}
SecondWorked z ls g start text (todo.Write f i) y ys = Worked z ls g start text y ys
SecondWorked z ls g start text (todo.Branch a b) y ys = Unit {0}

-- The row's lanes are lanes of a group.
pub record RowIn (z : Sizes) (g start mask : ℕ) : Type 0 where
  pub group : g < z.groups
  pub lane : start < z.lanes
  pub there : (i : ℕ) → i < 32 → on mask i ≡ true → start + i < z.lanes

-- The lanes of the mask among the first `many` of the row did the line at which they stood: nothing else has changed; the grid is the
-- definition's after their turns, lowest first, each of which could be done; and what came of it is so.
pub record LineOutcome (z : Sizes) (at : ℕ → Body) (lines : ℕ) (ls cs ks ls' cs' ks' : List ℕ) (g start mask : ℕ) (r : Outcome) : Type 0 where
  pub many : ℕ
  pub ends : Ends g start mask many r
  pub lined : Lined z lines ls → Lined z lines ls'
  pub rest : (g' s l : ℕ) → s < slots z → l < z.lanes → (g' ≡ g → (j : ℕ) → l ≡ start + j → j < many → on mask j ≢ true) →
      slot_of z ls' g' s l ≡ slot_of z ls g' s l
  pub words : (g' s l : ℕ) → 2 ≤ s → s < 128 → l < z.lanes → slot_of z ls' g' s l ≡ slot_of z ls g' s l
  pub grid : grid_of z at ls' cs' ≡ turns z.lanes (grid_of z at ls cs) (row_turns g start mask many)
  pub steps : steps z.lanes (grid_of z at ls cs) (row_turns g start mask many) ≡ length (row_turns g start mask many)
  pub after : (d : Grid) (ts : List Turn) → Sofar z at d ts ls cs ks → After z at d (ts ++ row_turns g start mask many) ls' cs' ks' r

-- Each lane of the mask among the first i stands at `line`, and nothing else has changed; nor has the grid, if as much is left there as
-- was where they stood.
pub record RowStood (z : Sizes) (g start mask line i : ℕ) (ls ls' : List ℕ) : Type 0 where
  pub here : (j : ℕ) → j < i → on mask j ≡ true → line_at z ls' g (start + j) ≡ line
  pub rest : (g' s l : ℕ) → s < slots z → l < z.lanes → (g' ≡ g → s ≡ 0 → (j : ℕ) → l ≡ start + j → j < i → on mask j ≢ true) →
      slot_of z ls' g' s l ≡ slot_of z ls g' s l
  pub lined : (lines : ℕ) → line < lines → Lined z lines ls → Lined z lines ls'
  pub grid : (at : ℕ → Body) (cs : List ℕ) → ((j : ℕ) → j < 32 → on mask j ≡ true → at line ≡ at (line_at z ls g (start + j))) →
      grid_of z at ls' cs ≡ grid_of z at ls cs

-- The lanes of a mask, which all stood at one line, did the line where its jumps lead: as LineOutcome, but that those of the mask behind
-- the one that stopped it stand where the jumps lead.
pub record RowRan (z : Sizes) (at : ℕ → Body) (lines : ℕ) (ls cs ks ls' cs' ks' : List ℕ) (g start mask : ℕ) (r : Outcome) : Type 0 where
  pub many : ℕ
  pub ends : Ends g start mask many r
  pub lined : Lined z lines ls'
  pub rest : (g' s l : ℕ) → s < slots z → l < z.lanes → (g' ≡ g → (j : ℕ) → l ≡ start + j → j < 32 → on mask j ≢ true) →
      slot_of z ls' g' s l ≡ slot_of z ls g' s l
  pub words : (g' s l : ℕ) → 2 ≤ s → s < 128 → l < z.lanes → slot_of z ls' g' s l ≡ slot_of z ls g' s l
  pub grid : grid_of z at ls' cs' ≡ turns z.lanes (grid_of z at ls cs) (row_turns g start mask many)
  pub steps : steps z.lanes (grid_of z at ls cs) (row_turns g start mask many) ≡ length (row_turns g start mask many)
  pub after : (d : Grid) (ts : List Turn) → Sofar z at d ts ls cs ks → After z at d (ts ++ row_turns g start mask many) ls' cs' ks' r

-- What is so of lanes of a mask that stood at `line` and now stand at `entry`, where its jumps lead.
pub record RowThere (z : Sizes) (at : ℕ → Body) (steps : List ℕ) (lines g start mask entry : ℕ) (ls ls' : List ℕ) : Type 0 where
  pub here : (j : ℕ) → j < 32 → on mask j ≡ true → line_at z ls' g (start + j) ≡ entry
  pub within : entry ≤ lines
  pub no_jump : is_jump (step_at steps lines entry) ≡ false
  pub lined : Lined z (suc lines) ls → Lined z (suc lines) ls'
  pub grid : (cs : List ℕ) → grid_of z at ls' cs ≡ grid_of z at ls cs

pub record RowSettled (z : Sizes) (steps : List ℕ) (lines g start mask line entry : ℕ) (ls ls' : List ℕ) : Type 0 where
  pub rest : (g' s l : ℕ) → s < slots z → l < z.lanes → (g' ≡ g → s ≡ 0 → (j : ℕ) → l ≡ start + j → j < 32 → on mask j ≢ true) →
      slot_of z ls' g' s l ≡ slot_of z ls g' s l
  pub there : (ns : List (List ℕ)) (text : List ℕ) (owns : ℕ) (at : ℕ → Body) → Coded (Named ns) text owns lines at (step_at steps lines) → line ≤ lines →
      ((j : ℕ) → j < 32 → on mask j ≡ true → line_at z ls g (start + j) ≡ line) → RowThere z at steps lines g start mask entry ls ls'
