-- A text that is read: its program, and the limits that it keeps.
use Rattle.std.specs.Prelude.{◌≡◌, ℕ, ◌+◌, ◌-◌, false, cond, List, length, drop, Ok, Result, nat_lt}
use Rattle.lanes.specs.Syntax.{Program}
use Rattle.grammar.specs.Spelling.{SpellsBody, Named}
use Rattle.grammar.specs.Taken.{Taken, lines_in}
use Rattle.grammar.specs.Walk.{and_then, place_in}
use Rattle.grammar.specs.declared.refusals.Refusal.{Refusal}
use Rattle.reader.specs.Heads.{Found, own_at, cells_at}
use Rattle.reader.specs.Blocks.{must_spec, block_at}
use Rattle.reader.specs.declared.heads.Head.{Head}
use Rattle.reader.specs.declared.blocks.Ending.TheVariants.{Text}
use Rattle.reader.specs.declared.blocks.Stop.{Stop}
use Rattle.reader.specs.declared.texts.Shape.{Shape}

-- The text is a program within the limits, and the shape says what is in it.
pub record ReadAs (text : List ℕ) (s : Shape) : Type 0 where
  pub names : List (List ℕ)
  pub program : Program
  pub taken : Taken names program text
  pub owns : program.owns ≡ s.owns
  pub cells : program.shared ≡ s.cells
  pub lines : lines_in text ≡ s.lines
  pub body : SpellsBody (Named names) program.body (drop s.body_at text)
  pub first : lines_in text ≡ s.first + lines_in (drop s.body_at text)

-- If the text is a program within the limits, under any names, it is not refused.
abbrev pub EveryRead : List ℕ → Result Shape Refusal → Type 0
EveryRead text r = (ns : List (List ℕ)) (p : Program) → Taken ns p text → (s : Shape) × (r ≡ Ok s)

-- Reading, step by step: what the code does, as functions.
abbrev pub head_lines_spec : ℕ → ℕ → ℕ
head_lines_spec c b = cond (nat_lt 0 c) 1 0 + cond (nat_lt c b) 1 0

abbrev pub whole : Stop → Result Stop Refusal
whole s = must_spec Text s

abbrev pub shape_of : Found → Head → Stop → Shape
shape_of f h e = record { owns = length f.names; cells = h.many; lines = 1024 - e.left; body_at = h.next; first = head_lines_spec f.next h.next }

unfoldable pub read_at : List ℕ → Result Shape Refusal
read_at text =
    and_then (own_at text) (λ f. and_then (cells_at text f.next) (λ h.
    and_then (block_at (place_in f.names) text 1025 16 (1024 - head_lines_spec f.next h.next) h.next false) (λ s.
    and_then (whole s) (λ e. Ok (shape_of f h e)))))
