use Rattle.std.proofs.Common.{ℕ, ◌*◌, ◌≤◌, List, length}
use Rattle.lanes.specs.Syntax.{Body}
use Rattle.store.specs.Layout.{cells_room}
use Rattle.store.specs.Lent.{Lent, grid_of}
use Rattle.machine.specs.Verdict.{SetsOut, Comes, left_over}
use Rattle.machine.proofs.run.run_turns.Given as goal

abbrev pub invariant-loop-choice : goal.invariant-loop-choice
invariant-loop-choice g v =
    (v.done ≤ v.granted) × Lent v.z v.lanes v.cells × (6 * cells_room v.z ≤ length v.marks)
    × ((ns : List (List ℕ)) (at : ℕ → Body) → SetsOut g.S.Scheduler.knows v.initial.s ns v.text v.steps v.lines v.z at v.initial.lanes v.initial.cells v.initial.marks →
    Comes g.S.Scheduler.knows v.s v.lines v.z at (grid_of v.z at v.initial.lanes v.initial.cells) v.lanes v.cells v.marks v.done)

abbrev pub decreases-loop-choice : goal.decreases-loop-choice
decreases-loop-choice g v = left_over v.z v.lines v.granted v.done v.lanes
