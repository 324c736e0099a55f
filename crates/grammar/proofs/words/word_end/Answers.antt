use Rattle.grammar.proofs.Walks.{word_ended}
use Rattle.grammar.proofs.words.word_end.Goals as goal

pub returns : goal.returns
returns c = rw c.word_len.ensures.count (word_ended c.args.text.now c.args.i)
