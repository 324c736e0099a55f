use Rattle.std.proofs.Common.{◌∙◌}
use Rattle.grammar.specs.Walk.{place_in}
use Rattle.grammar.proofs.Atoms.{expr-atom}
use Rattle.grammar.proofs.exprs.+read_expr.Goals as goal

pub returns-then-byte-ne40 : goal.returns-then-byte-ne40
returns-then-byte-ne40 t c ns n =
    c.atom.ensures ns n ∙ expr-atom (place_in ns) c.args.text.now c.args.i c.args.deep (λ e. c.if-byte-ne40.true (c.byte.ensures.is ∙ e))
