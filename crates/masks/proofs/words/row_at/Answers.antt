use Rattle.masks.proofs.Vectors.{compared-on, compared_small}
use Rattle.masks.proofs.words.row_at.Goals as goal

pub overflow_cast-result : goal.overflow_cast-result
overflow_cast-result c = record { fits = compared_small c.args.xs.now c.args.v c.requires }

pub returns : goal.returns
returns c = compared-on c.args.xs.now c.args.v c.requires
