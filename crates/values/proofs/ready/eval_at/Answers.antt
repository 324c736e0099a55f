use Rattle.std.proofs.Common.{inl, inr}
use Rattle.values.proofs.ready.eval_at.Goals as goal

pub returns-then-words-from-ne0 : goal.returns-then-words-from-ne0
returns-then-words-from-ne0 c ready ns n di le e s =
    elim ready [
      | inl p ↦ absurd (c.if-words-from-ne0.true p)
      | inr p ↦ let x = p ns n di c.args.row.now.owns le e s in c.eval_words.ensures.each e x.0 x.1
    ]
