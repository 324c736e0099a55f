use Rattle.machine.proofs.Running.{masked, ran, ran-done}
use Rattle.machine.proofs.row.do_row.Goals as goal

pub returns : goal.returns
returns c =
    let z = c.args.z in let words = c.args.source.now.steps.now in let text = c.args.source.now.text.now in let n = c.args.source.now.lines in
    let ls = c.args.lanes.now in let cs = c.args.cells.now in let ks = c.args.marks.now in
    let g = c.args.row.group in let start = c.args.row.start in let mask = c.args.row.mask in
    let low = c.in-Some.low in let line = c.line_of-line.result in let entry = c.settle_row-entry.result in let ls' = c.settle_row-entry.new.lanes in
    record {
      ran = λ ns at l lined can. ran z at words text n ls cs ks ls' g start mask low line entry c.do_line.result ns l lined can c.in-Some.ensures.within c.in-Some.ensures.here c.line_of-line.ensures c.settle_row-entry.ensures
          c.do_line.new.lanes c.do_line.new.cells c.do_line.new.marks
          (c.do_line.ensures.did ns at l (masked z at words text n ls cs ks ls' g start mask low line entry c.do_line.result ns l lined can c.in-Some.ensures.within c.in-Some.ensures.here c.line_of-line.ensures c.settle_row-entry.ensures));
      done = λ ns at d ts l lined can s. ran-done z at _ ls cs ks c.do_line.new.lanes c.do_line.new.cells c.do_line.new.marks g start mask c.do_line.result d ts
          (ran z at words text n ls cs ks ls' g start mask low line entry c.do_line.result ns l lined can c.in-Some.ensures.within c.in-Some.ensures.here c.line_of-line.ensures c.settle_row-entry.ensures
          c.do_line.new.lanes c.do_line.new.cells c.do_line.new.marks
          (c.do_line.ensures.did ns at l (masked z at words text n ls cs ks ls' g start mask low line entry c.do_line.result ns l lined can c.in-Some.ensures.within c.in-Some.ensures.here c.line_of-line.ensures c.settle_row-entry.ensures))) s;
    }
