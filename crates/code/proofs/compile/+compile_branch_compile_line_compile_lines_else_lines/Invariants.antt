use Rattle.std.proofs.Common.{ℕ, ◌+◌, ◌-◌, ◌*◌, List}
use Rattle.lanes.specs.Syntax.{Body}
use Rattle.code.specs.Make.{Given, Part, Moved}
use Rattle.code.proofs.compile.+compile_branch_compile_line_compile_lines_else_lines.Given as goal

abbrev pub decreases-compile_branch : goal.decreases-compile_branch
decreases-compile_branch l = l.depth * 4 + 1

abbrev pub decreases-compile_line : goal.decreases-compile_line
decreases-compile_line l = l.depth * 4 + 2

abbrev pub decreases-compile_lines : goal.decreases-compile_lines
decreases-compile_lines l = l.depth * 4 + 3

abbrev pub decreases-else_lines : goal.decreases-else_lines
decreases-else_lines l = l.depth * 4 + 4

abbrev pub invariant-compile_lines-loop-line : goal.invariant-compile_lines-loop-line
invariant-compile_lines-loop-line l =
    Moved l.of.text.bytes.now l.initial.steps l.steps l.of.room l.initial.p l.p
    × ((ns : List (List ℕ)) (b : Body) (z : List ℕ) → Given ns l.of.text.bytes.now l.initial.p.at b z l.initial.p.entry l.depth l.of.room → Part ns l.of.text.bytes.now l.steps z l.initial.p.entry b l.depth l.p)

abbrev pub decreases-compile_lines-loop-line : goal.decreases-compile_lines-loop-line
decreases-compile_lines-loop-line l = l.of.room - l.p.entry
