use Rattle.std.proofs.Common.{◌≡◌, ℕ, ◌<◌, ◌≤◌, true, false, None, ap, rules, arith}
use Rattle.std.proofs.lemmas.Iterator.{first_from_Range}
use Rattle.store.specs.declared.Sizes.{Sizes}
use Rattle.machine.specs.Verdict.{Waiting}
use Rattle.machine.proofs.run.over.Goals as goal

pub returns-in-None : goal.returns-in-None
returns-in-None c = λ at cs k still g l hg hl.
    let many : c.z.inside.groups ≡ c.args.view.now.sizes.groups = ap (λ (s : Sizes). s.groups) c.z.view_is in
    let none : (h : ℕ) → 0 ≤ h → h < c.z.inside.groups → Waiting c.args.view.now.sizes at c.args.view.now.lanes.now h false =
    first_from_Range _ _ _ None (λ h. Waiting c.args.view.now.sizes at c.args.view.now.lanes.now h true) (λ h. Waiting c.args.view.now.sizes at c.args.view.now.lanes.now h false) c.in-None.ensures.ran (λ x q h. search rules) (λ x q h. search rules) in
    none g (omega arith) (omega arith) l hl
