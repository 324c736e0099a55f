-- The first byte at which no text goes on so.
use Rattle.std.specs.Prelude.{ℕ, ◌+◌, ◌<◌, ◌≤◌, List, length, take}
use Rattle.lanes.specs.Syntax.{Program}
use Rattle.grammar.specs.Spelling.{Spelled, AnyName, Viable}

-- Byte p of the text, or its end, is the first place at which no text goes on so: the bytes before it can go on to a text,
-- those up to it cannot, and the text itself has no text's shape.
pub record GoesOn (text : List ℕ) (p : ℕ) : Type 0 where
  pub within : p ≤ length text
  pub before : Viable (take p text)
  pub upto : p < length text → Viable (take (p + 1) text) → ⊥
  pub itself : (ns : List (List ℕ)) (q : Program) → Spelled AnyName ns q text → ⊥
