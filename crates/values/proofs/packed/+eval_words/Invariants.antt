use Rattle.std.proofs.Common.{◌-◌, length}
use Rattle.values.proofs.packed.+eval_words.Given as goal

abbrev pub decreases-eval_words : goal.decreases-eval_words
decreases-eval_words l = length l.words.now - l.at
