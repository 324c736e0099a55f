use Rattle.cells.proofs.Words.{is_word}
use Rattle.cells.proofs.text.word_at.Goals as goal

pub returns-clause-word : goal.returns-clause-word
returns-clause-word c =
    is_word _ _ _ c.args.at c.min.result _ _ c.min.ensures c.split_at.ensures.front c.split_at.ensures.back
    c.last_word-from.ensures.within c.last_word-from.ensures.word c.last_word-from.ensures.begins
    c.first_word.ensures.within c.first_word.ensures.word c.first_word.ensures.ends
