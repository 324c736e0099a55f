use Rattle.std.proofs.Common.{ℕ, ◌+◌, length, sym, ap, ◌∙◌, arith, length-drop}
use Rattle.std.proofs.lemmas.Slice.{between_to_end}
use Rattle.code.proofs.Exprs.{bracket-ends, word-ends-at}
use Rattle.code.proofs.scan.expr_end.Goals as goal

pub returns-then-byte-eq40 : goal.returns-then-byte-eq40
returns-then-byte-eq40 c =
    record {
      within = omega (arith, c.bracket_len.ensures.within, length-drop c.args.i c.args.text.now);
      is = bracket-ends c.args.text.now c.args.i (c.args.i + c.bracket_len.result) (sym c.byte.ensures.is ∙ c.if-byte-eq40.true) (ap (λ (n : ℕ). c.args.i + n) (rw (between_to_end c.args.text.now c.args.i (length c.args.text.now) (omega arith)) at c.bracket_len.ensures.is));
    }

pub returns-else-byte-eq40 : goal.returns-else-byte-eq40
returns-else-byte-eq40 c =
    record {
      within = c.word_end.ensures.within c.requires;
      is = word-ends-at c.args.text.now c.args.i c.word_end.result (λ e. c.if-byte-eq40.false (c.byte.ensures.is ∙ e)) c.word_end.ensures;
    }
