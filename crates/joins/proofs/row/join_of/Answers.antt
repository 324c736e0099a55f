use Rattle.std.proofs.Common.{sym}
use Rattle.joins.proofs.Stackframes.{join-words}
use Rattle.joins.proofs.row.join_of.Goals as goal

pub returns : goal.returns
returns c =
    sym (join-words c.args.row.now.sizes c.args.lanes.now c.args.row.now.group c.args.row.now.start c.args.k (record { branch = c.word_of.result; line = c.word_of-2.result; lanes = c.word_of-3.result })
    (sym c.word_of.ensures) (sym c.word_of-2.ensures) (sym c.word_of-3.ensures))
