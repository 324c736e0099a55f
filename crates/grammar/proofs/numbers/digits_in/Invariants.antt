use Rattle.std.proofs.Common.{◌≡◌, ◌+◌, ◌≤◌, min, take, drop}
use Rattle.grammar.specs.Spelling.{digit, decimal}
use Rattle.grammar.specs.Runs.{run_of}
use Rattle.grammar.proofs.numbers.digits_in.Given as goal

abbrev pub invariant-loop-n : goal.invariant-loop-n
invariant-loop-n l =
    (l.value ≤ 4294967296)
    × (l.n + run_of digit (drop l.n l.text) ≡ run_of digit l.text)
    × (min (decimal l.value (take (run_of digit (drop l.n l.text)) (drop l.n l.text))) 4294967296 ≡ min (decimal 0 (take (run_of digit l.text) l.text)) 4294967296)
