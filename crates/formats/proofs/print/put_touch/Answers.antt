use Rattle.formats.proofs.Words.{touch-wrote}
use Rattle.formats.proofs.print.put_touch.Goals as goal

pub returns-then-touch-clause-wrote : goal.returns-then-touch-clause-wrote
returns-then-touch-clause-wrote c =
    touch-wrote c.args.touch _ _ _ _ _ _
    c.put_number.ensures.wrote c.put_number-2.ensures.wrote c.put_number-3.ensures.wrote c.put_all.ensures (rw c.if-touch.true)

pub returns-else-touch-clause-wrote : goal.returns-else-touch-clause-wrote
returns-else-touch-clause-wrote c =
    touch-wrote c.args.touch _ _ _ _ _ _
    c.put_number.ensures.wrote c.put_number-2.ensures.wrote c.put_number-3.ensures.wrote c.put_all-else-touch.ensures (rw c.if-touch.false)
