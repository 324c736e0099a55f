-- A text is one program at most.
use Rattle.std.specs.Prelude.{◌≡◌, ℕ, List}
use Rattle.lanes.specs.Syntax.{Program}
use Rattle.grammar.specs.Spelling.{Spelled, Named}
use Rattle.grammar.specs.Taken.{Distinct}

-- Two programs that one text spells are the same program, with the same names.
abbrev pub OneProgram : Type 0
OneProgram =
    (ns ms : List (List ℕ)) (p q : Program) (text : List ℕ) → Distinct ns → Distinct ms →
    Spelled (Named ns) ns p text → Spelled (Named ms) ms q text → (ns ≡ ms) × (p ≡ q)
