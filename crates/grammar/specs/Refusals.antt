-- The number and the place of each refusal.
use Rattle.std.specs.Prelude.{ℕ}
use Rattle.grammar.specs.declared.refusals.Refusal.{Refusal}
use Rattle.grammar.specs.declared.refusals.Refusal.TheVariants.{Shape, Unknown, Twice, Large, ManyNames, ManyCells, ManyLines, Long, Deep}

abbrev pub number_of : Refusal → ℕ
number_of (Shape p) = 1
number_of (Unknown p) = 2
number_of (Twice p) = 2
number_of (Large p) = 3
number_of (ManyNames p) = 3
number_of (ManyCells p) = 3
number_of (ManyLines p) = 4
number_of (Long p) = 4
number_of (Deep p) = 4

abbrev pub place_of : Refusal → ℕ
place_of (Shape p) = p
place_of (Unknown p) = p
place_of (Twice p) = p
place_of (Large p) = p
place_of (ManyNames p) = p
place_of (ManyCells p) = p
place_of (ManyLines p) = p
place_of (Long p) = p
place_of (Deep p) = p
