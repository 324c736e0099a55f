use Rattle.std.proofs.Common.{length, inl, inr, ◌∙◌, arith}
use Rattle.std.proofs.lemmas.Bool.{cases_lt}
use Rattle.grammar.proofs.Walks.{key_here, key-past}
use Rattle.grammar.proofs.tokens.key_here.Goals as goal

pub returns-in_err-get : goal.returns-in_err-get
returns-in_err-get c = c.from_residual.ensures ∙ key-past c.args.text.now c.args.i (
    elim (cases_lt (length c.args.text.now) c.args.i) [
      | inl lt ↦ omega arith
      | inr le ↦ absurd (omega (arith, c.in_err-get.ensures.lookup.0, c.word_end.ensures.from, c.word_end.ensures.within le))
    ])

pub returns : goal.returns
returns c = key_here _ _ _ _ c.word_end.ensures (rw c.in_ok-get.ensures.lookup.0.2 at c.keyword_of.ensures)
