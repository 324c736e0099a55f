use Rattle.std.proofs.Common.{◌≡◌, Option, Some, None, rules}
use denote.Param.Members.{Mut, Called}
use Rattle.std.specs.Option.{IsSomeAnd}
use Rattle.store.specs.Lent.{grid_of}
use Rattle.machine.specs.Schedule.{named}
use Rattle.machine.proofs.Ones.{named-can}
use Rattle.machine.proofs.Passing.{passed_none}
use Rattle.machine.proofs.replay.ScriptedScheduler.next.Goals as goal

gave : {A F R : Type 0} {g : Mut F (A × Unit {0}) R} {f : F} {y : R} {P : Type 0} (o : Option A) → IsSomeAnd o (λ x. Called g f (x, tt) y f) → ((x : A) → Called g f (x, tt) y f → P) → P
gave (Some x) h k = k x h
gave None h k = absurd h

pub returns : goal.returns
returns c = λ at cs k p.
    let z = c.args.view.now.sizes in let ls = c.args.view.now.lanes.now in let run = c.in-Some.ensures.runs in (
      gave _ (run.2.3 (λ a r f' h. search rules)).0 (λ x h.
          let e : Some c.in-Some.choice ≡ named z.lanes (grid_of z at ls cs) x.now = search rules in
          named-can z at ls cs x.now c.in-Some.choice e),
      passed_none _ _,
    )
