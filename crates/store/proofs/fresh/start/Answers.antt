use Rattle.std.proofs.Common.{◌≡◌, ℕ, ◌*◌, length, take, refl, arith, length-take}
use Rattle.store.proofs.Begins.{started, front-clear, rest-kept}
use Rattle.store.proofs.fresh.start.Goals as goal

pub returns : goal.returns
returns c =
    let fit = c.requires.lanes_fit in
    let fit-2 = rw (← c.z.view_is) at c.requires.cells_fit in
    let n = c.room_of.ensures in
    let cells : ℕ = c.z.inside.groups * c.z.inside.shared in
    let lanes_long : length (take c.room_of.result c.args.lanes.now) ≡ c.room_of.result = simp length-take (omega arith) in
    let cells_long : length (take cells c.args.cells.now) ≡ cells = simp length-take (omega arith) in
    let same : c.args.z.groups * c.args.z.shared ≡ cells = rw (← c.z.view_is) refl in
    started c.args.z c.requires.sized.some_lane c.args.cells.now _ _
    (λ i h. front-clear c.room_of.result _ c.fill.new.self c.args.lanes.now (c.fill.ensures.after (λ _ e. e)) lanes_long i (rw c.room_of.ensures h))
    (λ i h. front-clear cells _ c.fill-2.new.self c.args.cells.now (c.fill-2.ensures.after (λ _ e. e)) cells_long i (rw same at h))
    (λ i h. rest-kept cells _ c.fill-2.new.self c.args.cells.now (c.fill-2.ensures.after (λ _ e. e)) cells_long i (rw same at h))
    c.args.lanes.now
