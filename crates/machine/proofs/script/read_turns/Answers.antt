use Rattle.std.proofs.Common.{vec_items, arith}
use Rattle.machine.proofs.Scripted.{turn-forward, turns_more, turns-none}
use Rattle.machine.proofs.script.read_turns.Goals as goal

pub loop-at-init : goal.loop-at-init
loop-at-init c = (omega arith, omega (arith, c.new-turns.ensures.len), rw c.new-turns.ensures.items (turns-none c.args.bytes.now))

pub loop-at-preserved : goal.loop-at-preserved
loop-at-preserved c =
    let h = c.in-Some.ensures in
    let f = turn-forward c.args.bytes.now c.loop-at.at c.in-Some.reading.turn c.in-Some.reading.next h in
    let more = turns_more c.args.bytes.now 0 (vec_items c.loop-at.turns) c.loop-at.at c.in-Some.reading.turn c.in-Some.reading.next c.loop-at.invariant.2 h in
    (f.1, omega (arith, c.in_ok-push.ensures.len, f.0), simp c.in_ok-push.ensures.items more)
