use Rattle.calls.proofs.Answering.{passed_none}
use Rattle.calls.proofs.programs.any_text.Goals as goal

pub answer_by-requires : goal.answer_by-requires
answer_by-requires c = passed_none
