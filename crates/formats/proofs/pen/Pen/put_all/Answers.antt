use Rattle.std.proofs.Common.{◌≡◌, ◌+◌, ◌-◌, length, refl, arith}
use borrow.Rule.Slice.PartMut.{put_mid}
use Rattle.formats.proofs.Pieces.{wrote-part, part-long}
use Rattle.formats.proofs.pen.Pen.put_all.Goals as goal

pub returns : goal.returns
returns c =
    let at = c.args.self.now.at in
    let bs = c.args.self.now.out.now in
    let k = at + length c.args.text.now - at in
    let long : length (put_mid at k bs c.copy_from_slice.new.self) ≡ length bs = part-long bs _ at k (omega arith) (omega (arith, c.copy_from_slice.auto.self)) in
    record { same_slice = refl; room = long; inside = omega (arith, long); wrote = wrote-part _ _ _ _ _ c.copy_from_slice.ensures.after (omega arith) }
