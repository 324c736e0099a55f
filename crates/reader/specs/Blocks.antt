-- Reading lines in each other, step by step: what the code does, as functions.
use Rattle.std.specs.Prelude.{ℕ, zero, suc, ◌-◌, Bool, true, false, cond, ◌&&◌, List, length, Some, None, Ok, Err, Option, Result, ◌==◌, nat_le}
use Rattle.grammar.specs.Refusals.{place_of}
use Rattle.grammar.specs.Walk.{key_at, and_then}
use Rattle.grammar.specs.WalkLine.{line_at}
use Rattle.grammar.specs.declared.refusals.Refusal.{Refusal}
use Rattle.grammar.specs.declared.refusals.Refusal.TheVariants.{Shape, ManyLines, Deep}
use Rattle.grammar.specs.declared.keywords.Keyword.{Keyword}
use Rattle.grammar.specs.declared.keywords.Keyword.TheVariants as kw
use Rattle.grammar.specs.declared.lines.Line.{Line}
use Rattle.grammar.specs.declared.lines.Line.TheVariants as line
use Rattle.grammar.specs.declared.lines.Lined.{Lined}
use Rattle.reader.specs.declared.blocks.Ending.{Ending}
use Rattle.reader.specs.declared.blocks.Ending.TheVariants.{Text, Else, End}
use Rattle.reader.specs.declared.blocks.Kind.{Kind}
use Rattle.reader.specs.declared.blocks.Kind.TheVariants.{Plain, Opens, Loops, Parts, Closes}
use Rattle.reader.specs.declared.blocks.Stop.{Stop}

-- An if or a while begins.
abbrev pub opens : Option Keyword → Bool
opens None = false
opens (Some kw.Own) = false
opens (Some kw.Cells) = false
opens (Some kw.Cell) = false
opens (Some kw.Field) = false
opens (Some kw.Barrier) = false
opens (Some kw.If) = true
opens (Some kw.Else) = false
opens (Some kw.End) = false
opens (Some kw.While) = true
opens (Some kw.Lane) = false
opens (Some kw.Group) = false
opens (Some kw.Lanes) = false

abbrev pub kind_of_spec : Line → Kind
kind_of_spec (line.Put k x) = Plain
kind_of_spec (line.Read f k x) = Plain
kind_of_spec (line.Write f p v) = Plain
kind_of_spec line.Barrier = Plain
kind_of_spec (line.If x) = Opens
kind_of_spec line.Else = Parts
kind_of_spec line.End = Closes
kind_of_spec (line.While x) = Loops

abbrev pub is_else_spec : Ending → Bool
is_else_spec Text = false
is_else_spec Else = true
is_else_spec End = false

-- No line may come any more; another fault at this very byte has the lower number.
abbrev pub too_many : ℕ → Result Lined Refusal → Result Lined Refusal
too_many i (Ok l) = Err (ManyLines i)
too_many i (Err e) = cond (place_of e == i) (Err e) (Err (ManyLines i))

unfoldable pub next_at : (List ℕ → Option ℕ) → List ℕ → ℕ → ℕ → ℕ → Result Lined Refusal
next_at find text deep left i =
    cond (left == 0) (too_many i (line_at find text i)) (cond (deep == 0 && opens (key_at text i)) (Err (Deep i)) (line_at find text i))

-- A block that must end so.
abbrev pub must_as : Ending → Ending → Stop → Result Stop Refusal
must_as Text Text s = Ok s
must_as Text Else s = Err (Shape (s.next - 1))
must_as Text End s = Err (Shape (s.next - 1))
must_as Else Text s = Err (Shape s.pos)
must_as Else Else s = Ok s
must_as Else End s = Err (Shape (s.next - 1))
must_as End Text s = Err (Shape s.pos)
must_as End Else s = Err (Shape (s.next - 1))
must_as End End s = Ok s

abbrev pub must_spec : Ending → Stop → Result Stop Refusal
must_spec wanted s = must_as wanted s.ending s

abbrev pub must_end_spec : Stop → Result Stop Refusal
must_end_spec s = must_spec End s

abbrev pub must_loop_as : Ending → Stop → Result Stop Refusal
must_loop_as Text s = Err (Shape s.pos)
must_loop_as Else s = Err (Shape (s.next - 1))
must_loop_as End s = cond s.some (Ok s) (Err (Shape (s.next - 1)))

abbrev pub must_loop_spec : Stop → Result Stop Refusal
must_loop_spec s = must_loop_as s.ending s

-- Behind a line of a kind, which ends before byte n: `go deep left i some` reads on.
abbrev pub by_kind : (ℕ → ℕ → ℕ → Bool → Result Stop Refusal) → ℕ → ℕ → ℕ → Bool → Kind → ℕ → Result Stop Refusal
by_kind go deep left i some Plain n = go deep (left - 1) n true
by_kind go deep left i some Opens n =
    and_then (go (deep - 1) (left - 1) n false) (λ s.
    cond (is_else_spec s.ending) (and_then (go (deep - 1) s.left s.next false) (λ t. and_then (must_end_spec t) (λ e. go deep e.left e.next true)))
    (and_then (must_end_spec s) (λ e. go deep e.left e.next true)))
by_kind go deep left i some Loops n = and_then (go (deep - 1) (left - 1) n false) (λ s. and_then (must_loop_spec s) (λ e. go deep e.left e.next true))
by_kind go deep left i some Parts n = Ok (record { ending = Else; some = some; pos = i; next = n; left = left - 1 })
by_kind go deep left i some Closes n = Ok (record { ending = End; some = some; pos = i; next = n; left = left - 1 })

unfoldable pub block_at : (List ℕ → Option ℕ) → List ℕ → ℕ → ℕ → ℕ → ℕ → Bool → Result Stop Refusal
block_at find text zero deep left i some = Err (Shape i)
block_at find text (suc f) deep left i some =
    cond (nat_le (length text) i) (Ok (record { ending = Text; some = some; pos = i; next = i; left = left }))
    (and_then (next_at find text deep left i) (λ l. by_kind (block_at find text f) deep left i some (kind_of_spec l.line) l.next))
