use Rattle.machine.proofs.Scripted.{behind-is}
use Rattle.machine.proofs.script.behind.Goals as goal

pub returns : goal.returns
returns c = rw c.ok.ensures.value (behind-is c.args.bytes.now c.args.wanted.now c.args.i c.requires c.expect.result c.expect.ensures)
