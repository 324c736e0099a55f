-- Reading one line from an index on, step by step: what the code does, as functions.
use Rattle.std.specs.Prelude.{ℕ, ◌+◌, ◌-◌, Bool, true, false, cond, List, drop, Some, None, Ok, Err, codes, Option, Result, nat_lt}
use Rattle.grammar.specs.Spelling.{word_byte}
use Rattle.grammar.specs.Runs.{run_of}
use Rattle.grammar.specs.Refusals.{place_of}
use Rattle.grammar.specs.Walk.{word_at, bytes_at, expr_at, key_at, and_then}
use Rattle.grammar.specs.declared.refusals.Refusal.{Refusal}
use Rattle.grammar.specs.declared.refusals.Refusal.TheVariants.{Shape, Long}
use Rattle.grammar.specs.declared.keywords.Keyword.{Keyword}
use Rattle.grammar.specs.declared.keywords.Keyword.TheVariants.{Own, Cells, Cell, Field, Barrier, If, Else, End, While, Lane, Group, Lanes}
use Rattle.grammar.specs.declared.tokens.Word.{Word}
use Rattle.grammar.specs.declared.tokens.Word.TheVariants as word
use Rattle.grammar.specs.declared.lines.Line.{Line}
use Rattle.grammar.specs.declared.lines.Line.TheVariants as line
use Rattle.grammar.specs.declared.lines.Lined.{Lined}

-- Whether the word is `field` or `cell`, if it is one of the two.
abbrev pub cell_kind_spec : Option Keyword → Option Bool
cell_kind_spec None = None
cell_kind_spec (Some Own) = None
cell_kind_spec (Some Cells) = None
cell_kind_spec (Some Cell) = Some false
cell_kind_spec (Some Field) = Some true
cell_kind_spec (Some Barrier) = None
cell_kind_spec (Some If) = None
cell_kind_spec (Some Else) = None
cell_kind_spec (Some End) = None
cell_kind_spec (Some While) = None
cell_kind_spec (Some Lane) = None
cell_kind_spec (Some Group) = None
cell_kind_spec (Some Lanes) = None

unfoldable pub closed : List ℕ → Line → ℕ → Result Lined Refusal
closed text l i = and_then (bytes_at text (codes "\n") i) (λ n. Ok (record { line = l; next = n }))

module _ (find : List ℕ → Option ℕ) (text : List ℕ) where
  unfoldable pub with_expr_spec : Line → ℕ → Result Lined Refusal
  with_expr_spec l i = and_then (expr_at find text 1024 i) (λ j. closed text l j)

  abbrev pub assign_by : ℕ → ℕ → Option Bool → Result Lined Refusal
  assign_by k j None = with_expr_spec (line.Put k j) j
  assign_by k j (Some f) = and_then (bytes_at text (codes " ") (j + run_of word_byte (drop j text))) (λ e. with_expr_spec (line.Read f k e) e)

  unfoldable pub assign_at : ℕ → ℕ → Result Lined Refusal
  assign_at k i = and_then (bytes_at text (codes " = ") i) (λ j. assign_by k j (cell_kind_spec (key_at text j)))

  unfoldable pub write_at : Bool → ℕ → Result Lined Refusal
  write_at f i =
      and_then (bytes_at text (codes " ") i) (λ p. and_then (expr_at find text 1024 p) (λ j. and_then (bytes_at text (codes " = ") j) (λ v. with_expr_spec (line.Write f p v) v)))

  unfoldable pub by_key : Keyword → ℕ → Result Lined Refusal
  by_key Own i = Err (Shape i)
  by_key Cells i = Err (Shape i)
  by_key Cell i = write_at false i
  by_key Field i = write_at true i
  by_key Barrier i = closed text line.Barrier i
  by_key If i = and_then (bytes_at text (codes " ") i) (λ e. with_expr_spec (line.If e) e)
  by_key Else i = closed text line.Else i
  by_key End i = closed text line.End i
  by_key While i = and_then (bytes_at text (codes " ") i) (λ e. with_expr_spec (line.While e) e)
  by_key Lane i = Err (Shape i)
  by_key Group i = Err (Shape i)
  by_key Lanes i = Err (Shape i)

  abbrev pub by_word : Word → ℕ → Result Lined Refusal
  by_word (word.Own k) i = assign_at k i
  by_word (word.Key k) i = by_key k i

  unfoldable pub bare_at : ℕ → Result Lined Refusal
  bare_at i = and_then (word_at find text i) (λ t. by_word t.word t.end)

-- A fault behind the line's 1,024 bytes, or a line that ends there, is a line that is too long.
abbrev pub within_line_spec : ℕ → Result Lined Refusal → Result Lined Refusal
within_line_spec i (Ok l) = cond (nat_lt 1025 (l.next - i)) (Err (Long (i + 1024))) (Ok l)
within_line_spec i (Err e) = cond (nat_lt 1024 (place_of e - i)) (Err (Long (i + 1024))) (Err e)

-- The line at byte i.
unfoldable pub line_at : (List ℕ → Option ℕ) → List ℕ → ℕ → Result Lined Refusal
line_at find text i = within_line_spec i (bare_at find text i)
