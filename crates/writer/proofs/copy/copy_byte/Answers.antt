use Rattle.std.proofs.Common.{ℕ, ◌++◌, List, take, ap, ◌∙◌, arith}
use Rattle.writer.specs.Copy.{zero_led}
use Rattle.writer.proofs.Copies.{copied-left, copied-zero, copied-byte}
use Rattle.writer.proofs.copy.copy_byte.Goals as goal

pub returns-then-at-gt0-clause-copied : goal.returns-then-at-gt0-clause-copied
returns-then-at-gt0-clause-copied c = ap (λ (t : List ℕ). take c.args.at.len c.args.out.now ++ t) (copied-left c.args.behind.now c.args.at.left c.args.b c.args.at.inside (omega arith))

pub returns-then-zero_leads-clause-copied : goal.returns-then-zero_leads-clause-copied
returns-then-zero_leads-clause-copied c =
    ap (λ (t : List ℕ). take c.args.at.len c.args.out.now ++ t)
    (copied-zero c.args.behind.now c.args.at.left c.args.b c.args.at.inside (omega arith) (c.if-zero_leads.ensures ∙ ap (zero_led c.args.at.inside c.args.b) c.byte.ensures.is))

pub returns-clause-copied : goal.returns-clause-copied
returns-clause-copied c =
    rw (c.left_behind.ensures, c.is_word.ensures)
    (copied-byte c.args.out.now c.args.behind.now c.args.at.len c.args.at.left c.args.b c.args.at.inside (omega arith) (omega arith)
    (c.if-zero_leads.ensures ∙ ap (zero_led c.args.at.inside c.args.b) c.byte.ensures.is))
