use Rattle.std.proofs.Common.{sym, refl, subst, rules}
use Rattle.lanes.specs.Grid.{marked}
use Rattle.store.specs.declared.Deed.{Deed}
use Rattle.store.specs.Layout.{numbered}
use Rattle.machine.specs.Sofar.{layout, Doing}
use Rattle.machine.proofs.Noted.{AfterRace, who-is, noted-quiet, noted-wrong, noted-kept, noted-raced, keepable, rising}
use Rattle.machine.proofs.note.note.Goals as goal

pub returns-in-Quiet : goal.returns-in-Quiet
returns-in-Quiet c = record {
  after = λ z at d ts ls cs ls' cs' k. noted-quiet z at d ts ls cs c.args.kept.now ls' cs' c.args.group c.args.lane c.args.phase
      (subst (λ (x : Deed). Doing z at d ts ls cs c.args.kept.now ls' cs' c.args.group c.args.lane c.args.phase x) c.in-Quiet.is k);
  names = tt;
}

pub returns-in-Wrong : goal.returns-in-Wrong
returns-in-Wrong c = record { after = λ z at d ts ls cs ls' cs' k. noted-wrong z at d ts ls cs c.args.kept.now ls' cs' c.args.group c.args.lane c.args.phase c.args.deed k (rw c.in-Wrong.is refl); names = (refl, refl) }

pub returns-in-None : goal.returns-in-None
returns-in-None c = record {
  after = λ z at d ts ls cs ls' cs' k.
      let g = c.args.group in let l = c.args.lane in let p = c.args.phase in let i = c.args.line in
      let s = c.in-Touched.seen in let ks = c.args.kept.now in
      let who = who-is c.who_of-who.result g l p i c.who_of-who.ensures in
      let k' = subst (λ (x : Deed). Doing z at d ts ls cs ks ls' cs' g l p x) c.in-Touched.is k in
      noted-kept z at d ts ls cs ks ls' cs' g l p s i k' c.touch.new.kept
      ((rw who at c.in-None.ensures).exact (layout z) (numbered s.place) s.cell (marked z.lanes d ts)
      (keepable z at d ts ls cs ks ls' cs' g l p s i k' (search rules)) k.sofar.kept (rising z at d ts ls cs ks ls' cs' g l p s i k'));
  names = tt;
}

pub returns-in-Some : goal.returns-in-Some
returns-in-Some c = record {
  after = λ z at d ts ls cs ls' cs' k.
      let g = c.args.group in let l = c.args.lane in let p = c.args.phase in let i = c.args.line in
      let s = c.in-Touched.seen in let ks = c.args.kept.now in
      let who = who-is c.who_of-who.result g l p i c.who_of-who.ensures in
      let k' = subst (λ (x : Deed). Doing z at d ts ls cs ks ls' cs' g l p x) c.in-Touched.is k in
      subst (AfterRace z at d ts ls cs ks ls' cs' g l p s i k') (sym (rw who at c.paired.ensures))
      (noted-raced z at d ts ls cs ks ls' cs' g l p s i k' c.touch.new.kept c.in-Some.found
      ((rw who at c.in-Some.ensures).exact (layout z) (numbered s.place) s.cell (marked z.lanes d ts)
      (keepable z at d ts ls cs ks ls' cs' g l p s i k' (search rules)) k.sofar.kept (rising z at d ts ls cs ks ls' cs' g l p s i k')));
  names = tt;
}
