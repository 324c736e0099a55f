use Rattle.std.proofs.Common.{refl, arith}
use Rattle.values.proofs.Packing.{packed-word}
use Rattle.values.proofs.packed.compact_word.Goals as goal

pub returns-clause-packed : goal.returns-clause-packed
returns-clause-packed c h = (
  packed-word c.args.text.now c.args.at c.args.words.now c.args.from c.in_ok-w.w c.word_end-end.result c.leaf_of.result h c.word_end-end.ensures (omega arith) c.requires c.leaf_of.ensures
      c.in_ok-w.ensures,
  refl,
)
