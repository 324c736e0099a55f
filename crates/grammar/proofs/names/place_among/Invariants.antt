use Rattle.std.proofs.Common.{ℕ, List}
use Rattle.grammar.specs.Names.{NamesAt}
use Rattle.grammar.proofs.Named.{Walked}
use Rattle.grammar.proofs.names.place_among.Given as goal

abbrev pub invariant-loop-k : goal.invariant-loop-k
invariant-loop-k l = (ns : List (List ℕ)) (z : List ℕ) → NamesAt ns z l.many l.text → Walked ns l.text z l.name l.at l.k
