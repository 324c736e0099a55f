use Rattle.std.proofs.Common.{◌≡◌, ℕ, refl, sym, ap, ◌∙◌}
use Rattle.std.proofs.lemmas.Bool.{both_ways}
use Rattle.machine.specs.Plans.{plan_of_spec}
use Rattle.machine.proofs.Lined.{idle, none_inside, none-planned, line-did, line-done}
use Rattle.machine.proofs.line.do_line.Goals as goal

pub returns-in_default : goal.returns-in_default
returns-in_default c =
    let z = c.args.z in let words = c.args.source.now.steps.now in let n = c.args.source.now.lines in let ls = c.args.lanes.now in let cs = c.args.cells.now in let ks = c.args.marks.now in
    let g = c.args.row.group in let start = c.args.row.start in let mask = c.args.row.mask in
    let o : c.z.inside.owns ≡ z.owns = rw (← c.z.view_is) refl in
    let e = ap (plan_of_spec z.owns) (sym c.decode.ensures) ∙ (ap (λ (n : ℕ). plan_of_spec n c.decode.result) (sym o) ∙ (sym c.plan_of.ensures ∙ c.in_default.is)) in
    record {
      did = λ ns at l m. idle z at _ ls cs ks g start mask (none-planned z at words n ls cs g start mask c.args.entry m ns c.args.source.now.text.now l e);
      done = λ ns at d ts l m s. line-done z at n ls cs ks ls cs ks g start mask _ d ts (idle z at n ls cs ks g start mask (none-planned z at words n ls cs g start mask c.args.entry m ns c.args.source.now.text.now l e)) s;
    }

pub returns-then-not-is_inside : goal.returns-then-not-is_inside
returns-then-not-is_inside c =
    let z = c.args.z in let words = c.args.source.now.steps.now in let n = c.args.source.now.lines in let ls = c.args.lanes.now in let cs = c.args.cells.now in let ks = c.args.marks.now in
    let g = c.args.row.group in let start = c.args.row.start in let mask = c.args.row.mask in
    record {
      did = λ ns at l m. idle z at _ ls cs ks g start mask (none_inside z at words n ls cs g start mask c.args.entry m (λ r. both_ways _ c.if-not-is_inside.true (c.is_inside.ensures.no r)));
      done = λ ns at d ts l m s. line-done z at n ls cs ks ls cs ks g start mask _ d ts (idle z at n ls cs ks g start mask (none_inside z at words n ls cs g start mask c.args.entry m (λ r. both_ways _ c.if-not-is_inside.true (c.is_inside.ensures.no r)))) s;
    }

pub returns : goal.returns
returns c =
    let z = c.args.z in let words = c.args.source.now.steps.now in let n = c.args.source.now.lines in let ls = c.args.lanes.now in let cs = c.args.cells.now in let ks = c.args.marks.now in
    let g = c.args.row.group in let start = c.args.row.start in let mask = c.args.row.mask in
    let o : c.z.inside.owns ≡ z.owns = rw (← c.z.view_is) refl in
    let e = ap (plan_of_spec z.owns) (sym c.decode.ensures) ∙ (ap (λ (n : ℕ). plan_of_spec n c.decode.result) (sym o) ∙ (sym c.plan_of.ensures ∙ c.in-Some.is)) in
    record {
      did = λ ns at l m. line-did z at words n ls cs g start mask c.args.entry m ns c.args.source.now.text.now l c.in-Some.plan ks c.do_masked.new.lanes c.do_masked.new.cells c.do_masked.new.marks
          c.values_of.new.out c.seconds_of.new.out c.do_masked.result e c.values_of.ensures c.seconds_of.ensures c.do_masked.ensures;
      done = λ ns at d ts l m s. line-done z at _ ls cs ks c.do_masked.new.lanes c.do_masked.new.cells c.do_masked.new.marks g start mask c.do_masked.result d ts
          (line-did z at words n ls cs g start mask c.args.entry m ns c.args.source.now.text.now l c.in-Some.plan ks c.do_masked.new.lanes c.do_masked.new.cells c.do_masked.new.marks
          c.values_of.new.out c.seconds_of.new.out c.do_masked.result e c.values_of.ensures c.seconds_of.ensures c.do_masked.ensures) s;
    }
