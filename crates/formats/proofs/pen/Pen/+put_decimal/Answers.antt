use Rattle.std.proofs.Common.{◌≤◌, ◌/◌, length, decimal, sym, arith}
use Rattle.std.proofs.lemmas.Fmt.{decimal_digit, decimal_step, length-decimal-le}
use Rattle.formats.proofs.Pieces.{writes_both}
use Rattle.formats.proofs.pen.Pen.+put_decimal.Goals as goal

pub returns-then-n-lt10 : goal.returns-then-n-lt10
returns-then-n-lt10 t c = record { wrote = rw (decimal_digit c.args.n c.if-n-lt10.true) c.put.ensures; few = omega arith }

pub put-requires-else-n-lt10 : goal.put-requires-else-n-lt10
put-requires-else-n-lt10 t c = omega (arith, length-decimal-le 19 (c.args.n / 10) (omega arith) (omega arith) (omega arith))

pub returns-else-n-lt10 : goal.returns-else-n-lt10
returns-else-n-lt10 t c =
    let few : length (decimal (c.args.n / 10)) ≤ 19 = length-decimal-le 19 (c.args.n / 10) (omega arith) (omega arith) (omega arith) in
    record {
      wrote = writes_both _ _ _ _ _ _ c.put_decimal.ensures.wrote c.put-else-n-lt10.ensures (sym (decimal_step c.args.n c.if-n-lt10.false (omega arith)));
      few = omega arith;
    }
