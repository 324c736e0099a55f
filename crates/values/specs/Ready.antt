-- Words that hold an expression of the text, so that it need not be read again.
use Rattle.std.specs.Prelude.{◌≡◌, ℕ, ◌≤◌, ◌⊎◌, List, length, slice_index}
use Rattle.lanes.specs.Syntax.{Expr}
use Rattle.grammar.specs.Spelling.{Named}
use Rattle.grammar.specs.Stands.{Stands}
use Rattle.grammar.specs.Names.{NamesIn, Distinct}
use Rattle.values.specs.declared.row.Row.{Row}
use Rattle.values.specs.Rows.{Values}
use Rattle.values.specs.Items.{Coded}

-- From a place on the words hold a 0, or the expression that stands at byte i of the text, whichever it is.
abbrev pub Ready : List ℕ → ℕ → List ℕ → ℕ → Type 0
Ready text i ws from =
    (slice_index ws from ≡ 0)
    ⊎ ((ns : List (List ℕ)) → NamesIn ns text → Distinct ns → (owns : ℕ) → length ns ≤ owns → (e : Expr) → Stands (Named ns) text i e → (j : ℕ) × Coded owns ws from e j)

-- The numbers are the values, for each lane, of whichever expression stands at byte i of the text.
abbrev pub Worth : List ℕ → ℕ → Row → List ℕ → Type 0
Worth text i r out = (ns : List (List ℕ)) → NamesIn ns text → Distinct ns → length ns ≤ r.owns → (e : Expr) → Stands (Named ns) text i e → Values r e out
