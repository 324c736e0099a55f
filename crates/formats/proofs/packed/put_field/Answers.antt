use Rattle.formats.specs.Field.{field_bytes}
use Rattle.formats.proofs.Pieces.{writes_more}
use Rattle.formats.proofs.packed.put_field.Goals as goal

pub returns : goal.returns
unfolding field_bytes
returns c =
    writes_more _ _ _ _ _ c.put_low.ensures.wrote
    (writes_more _ _ _ _ _ c.put_low-2.ensures.wrote
    (writes_more _ _ _ _ _ c.put_low-3.ensures.wrote (writes_more _ _ _ _ _ c.put_low-4.ensures.wrote c.put_cells.ensures)))
