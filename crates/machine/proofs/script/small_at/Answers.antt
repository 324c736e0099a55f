use Rattle.std.proofs.Common.{inl, inr}
use Rattle.machine.proofs.Scripted.{small-some, small-none}
use Rattle.machine.proofs.script.small_at.Goals as goal

pub returns-then-number-i : goal.returns-then-number-i
returns-then-number-i c = small-none c.args.bytes.now c.args.i c.read_number-number.result.end c.read_number-number.ensures.end (inl c.if-number-i.true)

pub returns-in_err-number : goal.returns-in_err-number
returns-in_err-number c =
    let n = rw c.in_err-number.was at c.read_number-number.ensures.value in
    rw c.from_residual.ensures (small-none c.args.bytes.now c.args.i c.read_number-number.result.end c.read_number-number.ensures.end (inr n))

pub returns : goal.returns
returns c =
    small-some c.args.bytes.now c.args.i c.read_number-number.result.end c.in_ok-number.field-0 c.read_number-number.ensures.end (rw c.in_ok-number.was at c.read_number-number.ensures.value) c.if-number-i.false
