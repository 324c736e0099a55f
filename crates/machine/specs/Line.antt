-- A program as it lies in the lent slices, and a line that the lanes of a mask do.
use Rattle.std.specs.Prelude.{◌≡◌, ℕ, zero, suc, ◌+◌, ◌*◌, ◌<◌, ◌≤◌, true, cond, List, [], ◌∷◌, ◌++◌, length, Ok}
use Rattle.lanes.specs.Syntax.{Body}
use Rattle.lanes.specs.Grid.{Grid, Turn, of, can}
use Rattle.grammar.specs.Spelling.{Named}
use Rattle.grammar.specs.Names.{NamesIn, Distinct}
use Rattle.code.specs.Words.{step_at}
use Rattle.code.specs.Code.{Coded, is_jump}
use Rattle.store.specs.declared.Sizes.{Sizes}
use Rattle.store.specs.Layout.{cells_room}
use Rattle.store.specs.Lent.{Lent, Lined, line_at, grid_of}
use Rattle.masks.specs.Masks.{on}
use Rattle.machine.specs.declared.source.Source.{Source}
use Rattle.machine.specs.declared.view.View.{View}
use Rattle.machine.specs.Sofar.{After, Outcome}

-- The words of steps stand for the text: `at` is what is left at each of the entries and behind the last; own numbers are named ns.
pub record Loaded (ns : List (List ℕ)) (text steps : List ℕ) (lines : ℕ) (z : Sizes) (at : ℕ → Body) : Type 0 where
  pub names : NamesIn ns text
  pub distinct : Distinct ns
  pub owned : length ns ≡ z.owns
  pub coded : Coded (Named ns) text (length ns) lines at (step_at steps lines)

-- That program is.
abbrev pub LoadedAs : List (List ℕ) → Source → Sizes → (ℕ → Body) → Type 0
LoadedAs ns p z at = Loaded ns p.text.now p.steps.now p.lines z at

-- The lent slices are long enough, and every lane stands at an entry or behind the last.
pub record Ready (z : Sizes) (lines : ℕ) (ls cs ks : List ℕ) : Type 0 where
  pub lent : Lent z ls cs
  pub touches_fit : 6 * cells_room z ≤ length ks
  pub lined : Lined z (suc lines) ls

-- The words of steps do at each entry what is left there, and every lane stands at an entry or behind the last.
pub record Runs (z : Sizes) (at : ℕ → Body) (steps : List ℕ) (lines : ℕ) (ls : List ℕ) : Type 0 where
  pub ns : List (List ℕ)
  pub text : List ℕ
  pub owns : ℕ
  pub coded : Coded (Named ns) text owns lines at (step_at steps lines)
  pub lined : Lined z (suc lines) ls

-- The turns of the lanes in a mask among the first i, lowest first: bit i is for lane `first` + i.
unfoldable pub row_turns : ℕ → ℕ → ℕ → ℕ → List Turn
row_turns g first mask zero = []
row_turns g first mask (suc i) = row_turns g first mask i ++ cond (on mask i) (of g (first + i) ∷ []) []

-- The lanes of the mask are there and stand at one entry, at which there is no jump, and each of them can step.
pub record Masked (z : Sizes) (at : ℕ → Body) (steps : List ℕ) (lines : ℕ) (ls cs : List ℕ) (g first mask entry : ℕ) : Type 0 where
  pub group : g < z.groups
  pub there : (i : ℕ) → i < 32 → on mask i ≡ true → first + i < z.lanes
  pub stands : (i : ℕ) → i < 32 → on mask i ≡ true → line_at z ls g (first + i) ≡ entry
  pub within : entry ≤ lines
  pub no_jump : is_jump (step_at steps lines entry) ≡ true → ⊥
  pub can_step : (i : ℕ) → i < 32 → on mask i ≡ true → can z.lanes (grid_of z at ls cs) (of g (first + i)) ≡ true

-- What came of a line that the lanes of a mask did, lowest first, from where the machine was with ts: us is its row of turns now. If all
-- is well, all of them did it; else the last turn of us shows what is told.
pub record LineDone (z : Sizes) (at : ℕ → Body) (d : Grid) (ts : List Turn) (g first mask : ℕ) (ls cs ks : List ℕ) (r : Outcome) : Type 0 where
  pub us : List Turn
  pub after : After z at d us ls cs ks r
  pub all : r ≡ Ok tt → us ≡ ts ++ row_turns g first mask 32

-- The words that are looked at do at each entry what is left there, and the grid that the lanes are part of, with these cells.
abbrev pub RunsIn : View → (ℕ → Body) → Type 0
RunsIn v at = Runs v.sizes at v.steps.now v.lines v.lanes.now

abbrev pub grid_in : View → (ℕ → Body) → List ℕ → Grid
grid_in v at cs = grid_of v.sizes at v.lanes.now cs
