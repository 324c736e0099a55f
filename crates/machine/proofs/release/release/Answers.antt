use Rattle.std.proofs.Common.{suc, arith}
use Rattle.machine.proofs.Going.{lined-up, same-phase, went_on}
use Rattle.machine.proofs.release.release.Goals as goal

pub go_on-requires : goal.go_on-requires
go_on-requires c =
    let s = c.settle_group.ensures.settled in
    let e = same-phase c.args.z c.args.steps.now c.args.lines c.args.g c.args.lanes.now c.settle_group.new.lanes c.settle_group.new.lanes c.settle_group.ensures.some c.requires.group s c.args.g in
    let p = c.requires.phase in let f = c.requires.few in
    record {
      fit = let h = c.requires.fit in let k = c.settle_group.auto.lanes in omega arith;
      group = c.requires.group;
      phase = omega arith;
      lined = lined-up c.args.z (suc c.args.lines) 4294967295 c.settle_group.new.lanes (omega arith) (s.runs c.requires.runs.0 c.requires.runs.1).lined;
    }

pub returns : goal.returns
returns c = went_on c.args.z c.args.steps.now c.args.lines c.args.g c.args.lanes.now c.settle_group.new.lanes c.go_on.new.lanes c.settle_group.ensures.some c.requires.group c.settle_group.ensures.settled c.go_on.ensures
