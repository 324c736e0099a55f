use Rattle.std.proofs.Common.{◌≡◌, ℕ, ◌-◌, ◌≤◌, List, length}
use Rattle.reader.specs.Heads.{names_at, own_at}
use Rattle.reader.proofs.Owns.{Walk}
use Rattle.reader.proofs.heads.own_line.Given as goal

abbrev pub invariant-loop-at : goal.invariant-loop-at
invariant-loop-at l =
    (l.many ≤ 64) × ((seen : List (List ℕ)) × (length seen ≡ l.many) × Walk l.text seen l.end × (names_at l.text (66 - l.many) seen l.end ≡ own_at l.text))

abbrev pub decreases-loop-at : goal.decreases-loop-at
decreases-loop-at l = 65 - l.many
