use Rattle.std.proofs.Common.{◌∙◌, ap, take, List, ℕ, arith}
use Rattle.formats.proofs.Round.{length-low_bytes}
use Rattle.formats.proofs.Low.{low-of_eight}
use Rattle.formats.proofs.packed.put_low.Goals as goal

pub returns : goal.returns
returns g c =
    let e = ap (λ (x : List ℕ). take g.row.N x) c.to_le_bytes.ensures ∙ low-of_eight g.row.N c.args.n c.requires.few in
    let w = rw e at c.put_all.ensures in
    record { wrote = w; size = omega (arith, w.wrote.ends, length-low_bytes g.row.N c.args.n) }
