use Rattle.std.proofs.Common.{◌≡◌, ℕ, ◌<◌, ◌≤◌, Bool, List, MatchBool, true, false, sym, ◌∙◌, ap, rules}
use Rattle.std.proofs.lemmas.Bool.{le-ltb}
use Rattle.lanes.specs.Syntax.{Body, at_barrier}
use Rattle.lanes.specs.Grid.{release, can}
use Rattle.store.specs.declared.Sizes.{Sizes}
use Rattle.store.specs.Lent.{line_at, grid_of}
use Rattle.machine.proofs.Ranges.{all-below}
use Rattle.machine.proofs.Stances.{cannot-outside, cannot-go, can-go}
use Rattle.machine.proofs.view.View.can_go_on.Goals as goal

pub returns-then-g-z : goal.returns-then-g-z
returns-then-g-z c = λ at cs k.
    let z = c.args.self.now.sizes in let ls = c.args.self.now.lanes.now in let g = c.args.g in
    by at cs c.all.result (all-below _ z.lanes (ap (λ (s : Sizes). s.lanes) c.z.view_is) _ _ c.all.result (λ l. at_barrier (at (line_at z ls g l)) ≡ true) (λ l. at_barrier (at (line_at z ls g l)) ≡ false) c.all.ensures.ran
    (λ x q h. search rules) (λ x q h. search rules))
  where
    there : c.args.g < c.args.self.now.sizes.groups
    there = rw (← c.z.view_is) c.if-g-z.true

    by : (at : ℕ → Body) (cs : List ℕ) (r : Bool) → MatchBool r ((l : ℕ) → l < c.args.self.now.sizes.lanes → at_barrier (at (line_at c.args.self.now.sizes c.args.self.now.lanes.now c.args.g l)) ≡ true)
        ((l : ℕ) × (l < c.args.self.now.sizes.lanes) × (at_barrier (at (line_at c.args.self.now.sizes c.args.self.now.lanes.now c.args.g l)) ≡ false)) → r ≡ can c.args.self.now.sizes.lanes (grid_of c.args.self.now.sizes at c.args.self.now.lanes.now cs) (release c.args.g)
    by at cs true h = sym (can-go c.args.self.now.sizes at c.args.self.now.lanes.now cs c.args.g there h)
    by at cs false (l, hl, e) = sym (cannot-go c.args.self.now.sizes at c.args.self.now.lanes.now cs c.args.g l there hl e)

pub returns-else-g-z : goal.returns-else-g-z
returns-else-g-z c = λ at cs k. le-ltb c.args.g _ c.if-g-z.false ∙ sym (cannot-outside c.args.self.now.sizes at c.args.self.now.lanes.now cs c.args.g (rw (← c.z.view_is) c.if-g-z.false))
