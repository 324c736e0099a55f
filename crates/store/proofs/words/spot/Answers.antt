use Rattle.std.proofs.Common.{ap, ◌+◌}
use Rattle.store.proofs.Cells.{found}
use Rattle.store.specs.Layout.{numbered}
use Rattle.store.proofs.words.spot.Goals as goal

pub returns : goal.returns
returns c =
    found c.args.z (numbered c.args.of) c.args.c c.many_cells.result _ _ c.requires.there c.many_cells.ensures
    (ap (λ i. i + c.args.c) c.first_cell.ensures.is) c.then_some.ensures
