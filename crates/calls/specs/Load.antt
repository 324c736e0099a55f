-- A program and a field, loaded into the lent slices.
use Rattle.std.specs.Prelude.{◌≡◌, ℕ, suc, ◌*◌, ◌<◌, ◌≤◌, List, [], length}
use Rattle.lanes.specs.Syntax.{Program}
use Rattle.lanes.specs.Grid.{Grid, begin}
use Rattle.grammar.specs.Taken.{Taken, lines_in}
use Rattle.formats.specs.Field.{cells_read}
use Rattle.code.specs.Lines.{left_at, lines_of}
use Rattle.store.specs.declared.Sizes.{Sizes}
use Rattle.store.specs.Lent.{Lined, line_at, phase_of_spec, grid_of}
use Rattle.touches.specs.Whole.{AllKept}
use Rattle.machine.specs.Sofar.{layout}
use Rattle.machine.specs.Line.{Loaded}

-- The steps stand for the program; the lanes and cells stand for its beginning, with the field that the bytes are; no touch is kept.
pub record Loads (ns : List (List ℕ)) (p : Program) (z : Sizes) (text bytes steps ls cs ks : List ℕ) (lines : ℕ) : Type 0 where
  pub loaded : Loaded ns text steps lines z (left_at p.body)
  pub few : lines ≤ 1024
  pub lines_are : lines ≡ lines_of p.body
  pub begins : grid_of z (left_at p.body) ls cs ≡ begin p z.groups z.lanes (cells_read bytes z.field)
  pub lined : Lined z (suc lines) ls
  pub phases : (g : ℕ) → g < z.groups → phase_of_spec z ls g ≡ 0
  pub first_line : (g l : ℕ) → g < z.groups → l < z.lanes → line_at z ls g l ≡ 0
  pub kept : AllKept (layout z) [] ks

-- The text is p with own numbers named ns, and what was lent is what it wants.
pub record For (ns : List (List ℕ)) (p : Program) (z : Sizes) (text steps : List ℕ) : Type 0 where
  pub taken : Taken ns p text
  pub owns : p.owns ≡ z.owns
  pub shared : p.shared ≡ z.shared
  pub steps_fit : lines_in text * 16 ≤ length steps

-- There is such a program, and a scheduler is ready for its beginning.
pub record Starts {S : Type 0} (knows : S → ℕ → Grid → Type 0) (s : S) (z : Sizes) (text bytes steps : List ℕ) : Type 0 where
  pub ns : List (List ℕ)
  pub program : Program
  pub for_it : For ns program z text steps
  pub ready : knows s z.lanes (begin program z.groups z.lanes (cells_read bytes z.field))
