use Rattle.std.proofs.Common.{sym, ◌∙◌}
use Rattle.cells.proofs.Ahead.{in-hex, in-decimal}
use Rattle.cells.proofs.text.read_cells.Goals as goal

pub returns-then-starts_with : goal.returns-then-starts_with
returns-then-starts_with c = rw (in-hex c.args.text.now (sym c.starts_with.ensures.value ∙ c.if-starts_with.true)) c.read_from.ensures

pub returns-else-starts_with : goal.returns-else-starts_with
returns-else-starts_with c = rw (in-decimal c.args.text.now (sym c.starts_with.ensures.value ∙ c.if-starts_with.false)) c.read_from-else-starts_with.ensures
