use Rattle.std.proofs.Common.{◌≤◌, length, arith}
use Rattle.std.proofs.lemmas.List.{take_all}
use Rattle.formats.specs.Hex.{hex_two}
use Rattle.formats.proofs.Hex.{hex-bytes}
use Rattle.formats.proofs.Pieces.{writes_none, writes_both, writes_next}
use Rattle.formats.proofs.pen.Pen.put_hex.Goals as goal

pub loop-byte-init : goal.loop-byte-init
loop-byte-init c = record { wrote = writes_none _ (omega arith); at = omega arith }

pub loop-byte-preserved : goal.loop-byte-preserved
loop-byte-preserved c =
    record {
      wrote =
          writes_next hex_two _ _ _ c.to_be_bytes-byte-items.result c.loop-byte.byte-index (omega arith) c.loop-byte.invariant.wrote
          (writes_both _ _ _ _ _ _ c.put.ensures c.put-in-loop-byte.ensures (rw (c.digit.ensures, c.digit-in-loop-byte.ensures)));
      at = omega arith;
    }

pub returns-clause-wrote : goal.returns-clause-wrote
returns-clause-wrote c =
    let h : length c.to_be_bytes-byte-items.result ≤ c.loop-byte.byte-index = omega arith in
    rw (take_all c.loop-byte.byte-index c.to_be_bytes-byte-items.result h, c.to_be_bytes-byte-items.ensures, hex-bytes c.args.n (omega arith)) at c.loop-byte.invariant.wrote
