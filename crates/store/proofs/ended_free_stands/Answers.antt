use Rattle.store.proofs.Showing.{ended-free}
use Rattle.store.proofs.ended_free_stands.Goals as goal

pub returns : goal.returns
returns c = ended-free
