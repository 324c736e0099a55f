use Rattle.std.proofs.Common.{ℕ, List}
use Rattle.lanes.specs.Syntax.{Body}
use Rattle.store.specs.Lent.{grid_of}
use Rattle.machine.specs.Line.{Runs}
use Rattle.machine.specs.Schedule.{Passed}
use Rattle.machine.proofs.inturn.find_from.Given as goal

abbrev pub invariant-loop-g : goal.invariant-loop-g
invariant-loop-g v = (at : ℕ → Body) (cs : List ℕ) → Runs v.view.sizes at v.view.steps.now v.view.lines v.view.lanes.now → Passed v.view.sizes.lanes (grid_of v.view.sizes at v.view.lanes.now cs) v.group v.lane →
    Passed v.view.sizes.lanes (grid_of v.view.sizes at v.view.lanes.now cs) v.g v.from
