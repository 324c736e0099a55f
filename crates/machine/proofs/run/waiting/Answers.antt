use Rattle.std.proofs.Common.{◌≡◌, ℕ, ◌<◌, Bool, List, MatchBool, true, false, sym, ◌∙◌, ap, rules}
use Rattle.lanes.specs.Syntax.{Body, at_barrier, ended}
use Rattle.lanes.specs.Grid.{of}
use Rattle.lanes.specs.Promise.{Still}
use Rattle.store.specs.declared.Sizes.{Sizes}
use Rattle.store.specs.Lent.{line_at, grid_of}
use Rattle.machine.specs.Verdict.{Waiting}
use Rattle.machine.proofs.Ranges.{any-below}
use Rattle.machine.proofs.Stances.{can-of}
use Rattle.machine.proofs.Overs.{stance-waits}
use Rattle.machine.proofs.run.waiting.Goals as goal

pub returns : goal.returns
unfolding Still
returns c = λ at cs k still.
    let z = c.args.view.now.sizes in let ls = c.args.view.now.lanes.now in let g = c.args.g in
    by at cs still c.any.result (any-below _ z.lanes (ap (λ (s : Sizes). s.lanes) c.z.view_is) _ _ c.any.result (λ l. ended (at (line_at z ls g l)) ≡ false) (λ l. ended (at (line_at z ls g l)) ≡ true) c.any.ensures.ran
    (λ x q h. search rules) (λ x q h. search rules))
  where
    by : (at : ℕ → Body) (cs : List ℕ) → Still c.args.view.now.sizes.lanes (grid_of c.args.view.now.sizes at c.args.view.now.lanes.now cs) → (r : Bool) →
        MatchBool r ((l : ℕ) × (l < c.args.view.now.sizes.lanes) × (ended (at (line_at c.args.view.now.sizes c.args.view.now.lanes.now c.args.g l)) ≡ false))
        ((l : ℕ) → l < c.args.view.now.sizes.lanes → ended (at (line_at c.args.view.now.sizes c.args.view.now.lanes.now c.args.g l)) ≡ true) → Waiting c.args.view.now.sizes at c.args.view.now.lanes.now c.args.g r
    by at cs still true (l, hl, e) = (l, hl, stance-waits _ (sym (can-of c.args.view.now.sizes at c.args.view.now.lanes.now cs c.args.g l c.requires hl) ∙ still (of c.args.g l)) e)
    by at cs still false h = h
