use Rattle.code.proofs.Entries.{entry-read}
use Rattle.code.proofs.words.entry_of.Goals as goal

pub returns : goal.returns
returns c =
    let h = c.get.ensures.lookup in
    entry-read c.args.steps.now c.as_chunks.result.0.now c.args.i _ c.get.result c.as_chunks.ensures.front c.as_chunks.ensures.front_len h.1 h.3
