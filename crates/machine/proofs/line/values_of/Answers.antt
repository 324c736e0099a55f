use Rattle.std.proofs.Common.{◌≡◌, ◌≤◌, length, sym, refl, ◌∙◌, arith, length-take}
use native.Mathlib.Nat.{sub-zero}
use Rattle.machine.proofs.Working.{row-within, worked}
use Rattle.machine.proofs.line.values_of.Goals as goal

pub invariant_of-place-clause-counted : goal.invariant_of-place-clause-counted
invariant_of-place-clause-counted c =
    let many : c.z.inside.lanes ≡ c.args.z.lanes = rw (← c.z.view_is) refl in
    let few : c.args.z.lanes ≤ 1024 = rw (← c.z.view_is) c.z.invariant.lanes in
    let w = c.min-width.ensures in let there = c.requires.inside.lane in omega arith

pub invariant_of-place-clause-within : goal.invariant_of-place-clause-within
invariant_of-place-clause-within c =
    let many : c.z.inside.lanes ≡ c.args.z.lanes = rw (← c.z.view_is) refl in
    let owns : c.z.inside.owns ≡ c.args.z.owns = rw (← c.z.view_is) refl in
    let w = c.min-width.ensures in let there = c.requires.inside.lane in
    rw (many, owns)
    (row-within c.args.z c.args.lanes.now c.args.row.group c.args.row.start c.min-width.result _ c.requires.inside.group c.requires.inside.lane (omega arith) c.requires.fit c.own_base.ensures)

pub returns : goal.returns
returns c =
    let many : c.z.inside.lanes ≡ c.args.z.lanes = rw (← c.z.view_is) refl in
    let owns : c.z.inside.owns ≡ c.args.z.owns = rw (← c.z.view_is) refl in
    let w = c.min-width.ensures in
    let long = c.requires.long in
    let there = c.requires.inside.lane in
    let kept = c.eval_row.auto.out in
    let as_many : length c.eval_row.new.out ≡ c.min-width.result = simp (kept, length-take, sub-zero) (omega arith) in
    worked c.args.z c.args.lanes.now c.args.row.group c.args.row.start _ c.args.text.now c.args.at c.eval_row.result c.eval_row.new.out _
    (record { group = refl; lanes = many; first = refl; own = refl; base = c.own_base.ensures; stride = many; owns = owns }) (λ i h l. omega arith) c.eval_row.ensures
