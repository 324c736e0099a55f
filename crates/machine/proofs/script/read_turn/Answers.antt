use Rattle.machine.proofs.Scripted.{none-case, plain_of, plain-release, of-cases, release-cases, no-turn}
use Rattle.machine.proofs.script.read_turn.Goals as goal

pub behind-requires : goal.behind-requires
behind-requires c = plain_of

pub behind-requires-2 : goal.behind-requires-2
behind-requires-2 c = plain-release

pub returns-in-Some : goal.returns-in-Some
returns-in-Some c = of-cases c.args.bytes.now c.args.i c.in-Some.at c.in-Some.ensures c.lane_turn.result c.lane_turn.ensures

pub returns-in_err-at : goal.returns-in_err-at
returns-in_err-at c = none-case _ _ _ c.from_residual.ensures (no-turn c.args.bytes.now c.args.i c.in_default.ensures c.in_err-at.ensures)

pub returns : goal.returns
returns c = release-cases c.args.bytes.now c.args.i c.in_ok-at.at c.in_ok-at.ensures c.group_turn.result c.group_turn.ensures
