use Rattle.std.proofs.Common.{◌≡◌, ℕ, ◌-◌, ◌<◌, min, Bool, not, ◌&&◌, ltb, ap, ◌∙◌}
use Rattle.std.proofs.lemmas.Bool.{eqb-true, eq-eqb}
use Rattle.masks.specs.Masks.{on}
use Rattle.machine.proofs.Bits.{inside, outside}
use Rattle.machine.proofs.line.is_inside.Goals as goal

pub returns : goal.returns
returns c =
    let z = c.args.z in let g = c.args.row.group in let start = c.args.row.start in let mask = c.args.row.mask in let width = c.min-width.result in let left = c.without.result in
    let bits : (i : ℕ) → on left i ≡ (on mask i && not (ltb i width)) = λ i. c.without.ensures.bits i ∙ ap (λ (b : Bool). on mask i && not b) (c.first_lanes.ensures i) in
    let group : g < z.groups = rw (← c.z.view_is) c.if-row-z.false in
    let lane : start < z.lanes = rw (← c.z.view_is) c.if-row-z-2.false in
    let wide : width ≡ min (z.lanes - start) 32 = rw (← c.z.view_is) c.min-width.ensures in
    record {
      yes = λ t. inside z g start mask width left group lane wide bits (eqb-true left 0 t);
      no = λ row. eq-eqb left 0 (outside z g start mask width left group lane wide bits c.without.type_inv row);
    }
