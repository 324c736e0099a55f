use Rattle.joins.proofs.Stories.{joins-kept}
use Rattle.joins.proofs.Matches.{left-by-place}
use Rattle.joins.proofs.story.joins_kept_stands.Goals as goal

pub returns : goal.returns
returns c = record { kept = joins-kept; placed = left-by-place }
