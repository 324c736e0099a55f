use Rattle.store.proofs.Cells.{found-row}
use Rattle.store.specs.Layout.{numbered}
use Rattle.store.proofs.words.spot_row.Goals as goal

pub returns : goal.returns
returns c =
    found-row c.args.z (numbered c.args.of) c.args.c c.args.n c.many_cells.result _ _ c.requires.there c.requires.few.0 c.many_cells.ensures
    c.in_ok-i.ensures.0 c.then_some.ensures
