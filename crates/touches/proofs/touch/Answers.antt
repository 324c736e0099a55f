use Rattle.std.proofs.Common.{not, ap, ◌∙◌}
use Rattle.touches.proofs.Whole.{touch-none, touch-some}
use Rattle.touches.proofs.touch.Goals as goal

pub returns-then-is_none-clause-exact : goal.returns-then-is_none-clause-exact
returns-then-is_none-clause-exact c = λ y w cell ms. touch-none y w cell c.args.i ms c.args.kept.now c.keep.new.kept c.held_at-held.result c.args.who c.args.wrote c.look-found.result
    (c.is_none.ensures ∙ ap not c.if-is_none.true) c.held_at-held.ensures c.look-found.ensures c.keep.ensures

pub returns-else-is_none-clause-exact : goal.returns-else-is_none-clause-exact
returns-else-is_none-clause-exact c = λ y w cell ms. touch-some y w cell c.args.i ms c.args.kept.now c.held_at-held.result c.args.who c.args.wrote c.look-found.result
    (c.is_none.ensures ∙ ap not c.if-is_none.false) c.held_at-held.ensures c.look-found.ensures
