use Rattle.std.proofs.Common.{◌≡◌, ◌*◌, refl, arith, length-drop, length-take}
use Rattle.calls.proofs.Loading.{field-copied, loads}
use Rattle.calls.proofs.load.load.Goals as goal

pub returns-clause-loaded : goal.returns-clause-loaded
returns-clause-loaded c ns p f =
    let fit = rw (← c.z.view_is) at c.requires.lent.cells_fit in
    let from : c.z.inside.groups * c.z.inside.shared ≡ c.args.z.groups * c.args.z.shared = rw (← c.z.view_is) refl in
    let field : c.z.inside.field ≡ c.args.z.field = rw (← c.z.view_is) refl in
    loads ns p c.args.z c.args.text.now c.args.bytes.now c.args.lent.now.steps.now c.compile.new.steps c.args.lent.now.lanes.now _ c.start.new.lanes c.start.new.cells c.clear.new.words c.compile.result f
    (c.compile.ensures.made ns p f.taken f.steps_fit) c.start.ensures
    (field-copied c.args.z _ _ _ c.args.lent.now.cells.now c.copy_cells.new.out c.args.bytes.now from (omega arith) c.copy_cells.ensures (simp (length-take, length-drop) (omega arith)))
    c.clear.ensures
