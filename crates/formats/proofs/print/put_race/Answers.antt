use Rattle.formats.specs.Printed.{race_line}
use Rattle.formats.proofs.Pieces.{writes_more}
use Rattle.formats.proofs.print.put_race.Goals as goal

pub returns : goal.returns
unfolding race_line
returns c = writes_more _ _ _ _ _ c.put_place.ensures.wrote (writes_more _ _ _ _ _ c.put_touch.ensures.wrote (writes_more _ _ _ _ _ c.put_touch-2.ensures.wrote c.put.ensures))
