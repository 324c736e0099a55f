use Rattle.std.proofs.Common.{◌<◌, length, sym, ◌∙◌, inl, arith}
use Rattle.values.proofs.Packing.{packed-node}
use Rattle.values.proofs.packed.+compact.Goals as goal

pub returns-clause-packed : goal.returns-clause-packed
returns-clause-packed t c =
    let one = c.in_ok-left.ensures.packed in
    let two = c.in_ok-right.ensures.packed in
    let room : c.args.from < length c.compact-2.new.words = omega arith in (
      packed-node c.args.text.now c.args.at c.compact.new.words c.compact-2.new.words c.args.from c.pack_op.result c.in_ok-op.op c.in_ok-left.left c.in_ok-right.right
          (sym c.byte.ensures.is ∙ c.if-byte-ne40.false) one.0 c.in_ok-op.ensures two.0 (λ k h. c.compact-2.ensures.kept k (inl h)) c.if-right-text.false room c.pack_op.ensures,
      two.1,
    )
