use Rattle.std.proofs.Common.{◌≡◌, true, codes, sym, ◌∙◌, arith}
use Rattle.writer.specs.Copy.{begins, zeros, empty_else}
use Rattle.writer.proofs.Copies.{begins-is, begins-stripped, zeros-are, left-else, left-none, left-cells, left-other, left-few}
use Rattle.writer.proofs.copy.left_out.Goals as goal
use Rattle.writer.proofs.copy.left_out.Goals.{else-zeros-gt0-via-then-zeros-gt0+else-byte-eq10, else-zeros-gt0-via-else-zeros-gt0}

pub returns-then-starts_with : goal.returns-then-starts_with
returns-then-starts_with c = left-else c.args.text.now (c.if-starts_with.ensures.value ∙ begins-is empty_else c.args.text.now)

pub returns-in_default : goal.returns-in_default
returns-in_default c =
    left-none c.args.text.now (c.if-starts_with.ensures.value ∙ begins-is empty_else c.args.text.now)
    (sym c.in_default.ensures.cases ∙ begins-stripped (codes "cells ") c.args.text.now)

pub returns-then-byte-eq10 : goal.returns-then-byte-eq10
returns-then-byte-eq10 c =
    let e = c.if-starts_with.ensures.value ∙ begins-is empty_else c.args.text.now in
    let s = c.in-Some.ensures.cases in
    let many : c.zeros_in_front-zeros.result ≡ zeros c.in-Some.cells.now = c.zeros_in_front-zeros.ensures ∙ zeros-are c.in-Some.cells.now in
    let h : begins (codes "cells ") c.args.text.now ≡ true = sym (begins-stripped (codes "cells ") c.args.text.now) ∙ s.0 in
    left-cells c.args.text.now c.in-Some.cells.now c.zeros_in_front-zeros.result e h s.1 many (omega arith) (sym c.byte.ensures.is ∙ c.if-byte-eq10.true)

pub returns-else-zeros-gt0 : goal.returns-else-zeros-gt0
returns-else-zeros-gt0 c =
    let e = c.if-starts_with.ensures.value ∙ begins-is empty_else c.args.text.now in
    let s = c.in-Some.ensures.cases in
    let many : c.zeros_in_front-zeros.result ≡ zeros c.in-Some.cells.now = c.zeros_in_front-zeros.ensures ∙ zeros-are c.in-Some.cells.now in
    let h : begins (codes "cells ") c.args.text.now ≡ true = sym (begins-stripped (codes "cells ") c.args.text.now) ∙ s.0 in
    elim c.else-zeros-gt0.branch [
      | else-zeros-gt0-via-then-zeros-gt0+else-byte-eq10 w ↦
          left-other c.args.text.now c.in-Some.cells.now c.zeros_in_front-zeros.result e h s.1 many (λ q. w.if-byte-eq10.false (w.byte.ensures.is ∙ q))
      | else-zeros-gt0-via-else-zeros-gt0 w ↦ left-few c.args.text.now c.in-Some.cells.now c.zeros_in_front-zeros.result e h s.1 many (omega arith)
    ]
