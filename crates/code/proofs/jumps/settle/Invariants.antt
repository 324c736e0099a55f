use Rattle.std.proofs.Common.{◌≡◌, ℕ, ◌-◌, ◌≤◌, List}
use Rattle.lanes.specs.Syntax.{Body}
use Rattle.grammar.specs.Spelling.{Named}
use Rattle.code.specs.Words.{step_at}
use Rattle.code.specs.Settle.{Settles}
use Rattle.code.specs.Code.{Coded}
use Rattle.code.proofs.jumps.settle.Given as goal

abbrev pub invariant-loop-to : goal.invariant-loop-to
invariant-loop-to l =
    ((r : ℕ) → Settles (step_at l.steps l.lines) l.here r → Settles (step_at l.steps l.lines) l.i r) ×
    ((ns : List (List ℕ)) (text : List ℕ) (owns : ℕ) (at : ℕ → Body) → l.i ≤ l.lines → Coded (Named ns) text owns l.lines at (step_at l.steps l.lines) →
    (at l.here ≡ at l.i) × (l.here ≤ l.lines))

abbrev pub decreases-loop-to : goal.decreases-loop-to
decreases-loop-to l = l.lines - l.here
