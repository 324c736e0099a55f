use Rattle.std.proofs.Common.{◌-◌, length}
use Rattle.values.proofs.eval.+eval_row.Given as goal

abbrev pub decreases-eval_row : goal.decreases-eval_row
decreases-eval_row l = length l.text.now - l.at
