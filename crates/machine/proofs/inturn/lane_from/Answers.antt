use Rattle.std.proofs.Common.{◌≡◌, true, false, ap, rules}
use Rattle.std.proofs.lemmas.Iterator.{first_from_Range}
use Rattle.lanes.specs.Grid.{of, can}
use Rattle.store.specs.declared.Sizes.{Sizes}
use Rattle.store.specs.Lent.{grid_of}
use Rattle.machine.proofs.Ranges.{find-below}
use Rattle.machine.proofs.inturn.lane_from.Goals as goal

pub returns : goal.returns
returns c = λ at cs k.
    let z = c.args.view.now.sizes in let e = grid_of z at c.args.view.now.lanes.now cs in
    find-below c.args.from _ z.lanes (ap (λ (s : Sizes). s.lanes) c.z.view_is) c.find.result _ _
    (first_from_Range _ _ _ _ (λ l. can z.lanes e (of c.args.g l) ≡ true) (λ l. can z.lanes e (of c.args.g l) ≡ false) c.find.ensures.ran (λ x q h. search rules) (λ x q h. search rules))
