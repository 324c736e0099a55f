-- A lane's turn and what came of its touch: all is well after it, or it shows a race or a wrong lane.
use Rattle.std.proofs.Common.{◌≡◌, ℕ, ◌<◌, ◌≤◌, true, false, cond, ◌&&◌, ◌||◌, eqb, ltb, leb, List, [], ◌∷◌, ◌++◌, Some, None, sym, refl, ap, ◌∙◌, subst, append-nil, arith}
use Rattle.std.proofs.lemmas.Bool.{cond_both}
use Rattle.std.proofs.lemmas.Bool.Decides.{nat_tests}
use Rattle.lanes.specs.Syntax.{Body}
use Rattle.lanes.specs.Grid.{Grid, Turn, of, Mark, can, turn, turns, marked, marks, marks_at, the_group, the_lane}
use Rattle.lanes.specs.Told.{NoneWrong, Shows, races, missing, told_first}
use Rattle.lanes.proofs.Rising.{To, marked-to}
use Rattle.store.specs.declared.Sizes.{Sizes}
use Rattle.store.specs.declared.Seen.{Seen}
use Rattle.store.specs.declared.Deed.{Deed}
use Rattle.store.specs.declared.Deed.TheVariants.{Quiet, Touched}
use Rattle.store.specs.Layout.{size, numbered}
use Rattle.store.specs.Lent.{grid_of, lane_at}
use Rattle.store.specs.Acts.{touches_of, went_wrong}
use Rattle.store.proofs.Grids.{the-lane-is, the-phase-is}
use Rattle.store.proofs.Cells.{spot-lt, spot-same}
use Rattle.touches.specs.declared.Who.{Who}
use Rattle.touches.specs.declared.Found.{Found}
use Rattle.touches.specs.Kept.{mark_of, Rising}
use Rattle.touches.specs.Whole as whole
use Rattle.touches.specs.Whole.{Layout, Laid, Keepable, AllKept}
use Rattle.machine.specs.declared.outcome.Race.{Race}
use Rattle.machine.specs.Sofar.{layout, Sofar, Doing, IsWho, paired_of, first_mark, second_mark}
use Rattle.machine.proofs.Rows.{grid-more, marked_more, right_of}
use Rattle.machine.proofs.Marks.{among-all, calm_more, shows-earlier, shows_later}

pub who-is : (a : Who) (g l p i : ℕ) → IsWho a g l p i → a ≡ record { group = g; lane = l; phase = p; line = i }
who-is a g l p i h = rw (sym h.group, sym h.lane, sym h.phase, sym h.line) refl

-- cells lie apart, as the store has them
in_range : (z : Sizes) (w c : ℕ) → c < cond (leb w z.groups) (size z w) 0 → (w ≤ z.groups) × (c < size z w)
in_range z w c h = (grind (arith, nat_tests), grind (arith, nat_tests))

pub laid : (z : Sizes) → Laid (layout z)
unfolding layout
laid z = record {
  within = λ w c h. let p = in_range z w c h in spot-lt z w c p.0 p.1;
  apart = λ w c v e h k s. let p = in_range z w c h in let q = in_range z v e k in spot-same z w c v e p.0 q.0 p.1 q.1 s;
}

module _ (z : Sizes) (at : ℕ → Body) (d : Grid) (ts : List Turn) (ls cs ks ls' cs' : List ℕ) (g l p : ℕ) where
  us : List Turn
  us = ts ++ (of g l ∷ [])

  module _ (deed : Deed) (k : Doing z at d ts ls cs ks ls' cs' g l p deed) where
    could : can z.lanes (turns z.lanes d ts) (of g l) ≡ true
    could = subst (λ (e : Grid). can z.lanes e (of g l) ≡ true) k.sofar.grid k.turned.could

    grid-is : grid_of z at ls' cs' ≡ turns z.lanes d (ts ++ (of g l ∷ []))
    grid-is = k.turned.grid ∙ (ap (λ (e : Grid). turn z.lanes e (of g l)) k.sofar.grid ∙ sym (grid-more z.lanes d ts (of g l)))

    marked-is : marked z.lanes d (ts ++ (of g l ∷ [])) ≡ marked z.lanes d ts ++ marks g l p (touches_of deed)
    marked-is =
        marked_more z.lanes d ts (of g l) could
        ∙ ap (λ (ms : List Mark). marked z.lanes d ts ++ ms)
        (ap (λ (e : Grid). marks_at z.lanes e (of g l)) (sym k.sofar.grid) ∙ (k.turned.touch ∙ ap (λ (q : ℕ). marks g l q (touches_of deed)) (sym k.phase)))

    lane-now : (the_lane (turns z.lanes d (ts ++ (of g l ∷ []))) g l).wrong ≡ (lane_at z at ls' g l).wrong
    lane-now = ap (λ (e : Grid). (the_lane e g l).wrong) (sym grid-is) ∙ ap (λ x. x.wrong) (the-lane-is z at ls' cs' g l k.group k.lane)

    lane-then : (lane_at z at ls g l).wrong ≡ false
    unfolding NoneWrong
    lane-then = ap (λ x. x.wrong) (sym (the-lane-is z at ls cs g l k.group k.lane)) ∙ (ap (λ (e : Grid). (the_lane e g l).wrong) k.sofar.grid ∙ k.sofar.none_wrong g l)

    right-now : went_wrong deed ≡ false → NoneWrong (turns z.lanes d (ts ++ (of g l ∷ [])))
    right-now e =
        let here : (the_lane (turns z.lanes d (ts ++ (of g l ∷ []))) g l).wrong ≡ false = lane-now ∙ (k.turned.right e ∙ lane-then) in
        subst NoneWrong (sym (grid-more z.lanes d ts (of g l)))
        (right_of z.lanes (turns z.lanes d ts) g l could (subst (λ (x : Grid). (the_lane x g l).wrong ≡ false) (grid-more z.lanes d ts (of g l)) here) k.sofar.none_wrong)

    pub noted-wrong : went_wrong deed ≡ true → (most : ℕ) → Shows most z.lanes d (ts ++ (of g l ∷ [])) (missing g l)
    unfolding Shows
    noted-wrong e most = lane-now ∙ k.turned.wrong e

  pub noted-quiet : Doing z at d ts ls cs ks ls' cs' g l p Quiet → Sofar z at d (ts ++ (of g l ∷ [])) ls' cs' ks
  unfolding marks
  noted-quiet k =
      let same : marked z.lanes d (ts ++ (of g l ∷ [])) ≡ marked z.lanes d ts = marked-is Quiet k ∙ append-nil (marked z.lanes d ts) in
      record { grid = grid-is Quiet k; kept = rw same k.sofar.kept; no_race = rw same k.sofar.no_race; none_wrong = right-now Quiet k refl }

  module _ (s : Seen) (i : ℕ) (k : Doing z at d ts ls cs ks ls' cs' g l p (Touched s)) where
    -- who touched
    abbrev pub who : Who
    who = record { group = g; lane = l; phase = p; line = i }

    marks-are : marked z.lanes d (ts ++ (of g l ∷ [])) ≡ marked z.lanes d ts ++ (mark_of (numbered s.place) s.cell who s.wrote ∷ [])
    unfolding marks
    marks-are = marked-is (Touched s) k

    phase-is : (the_group (turns z.lanes d ts) g).phase ≡ p
    phase-is = ap (λ (e : Grid). (the_group e g).phase) (sym k.sofar.grid) ∙ (the-phase-is z at ls cs g k.group ∙ sym k.phase)

    pub rising : Rising (marked z.lanes d ts) (mark_of (numbered s.place) s.cell who s.wrote)
    unfolding Rising
    rising m i' same =
        let low : To (turns z.lanes d ts) m = among-all (To (turns z.lanes d ts)) m (marked z.lanes d ts) (marked-to z.lanes d ts) i' in
        let h : (the_group (turns z.lanes d ts) m.by_group).phase ≡ p = ap (λ (i : ℕ). (the_group (turns z.lanes d ts) i).phase) same ∙ phase-is in
        omega arith

    pub keepable : i < 4294967296 → Keepable (layout z) (numbered s.place) s.cell s.index who ks
    unfolding layout
    keepable hl =
        let few = k.sized.groups in let fewer = k.sized.lanes in let hg = k.group in let hl' = k.lane in
        record {
          laid = laid z;
          there = let a = k.placed.0 in let b = k.placed.3 in grind (arith, nat_tests);
          spot = sym k.placed.1;
          room = k.room;
          group = omega arith;
          lane = omega arith;
          line = hl;
        }

    pub noted-kept : (ks' : List ℕ) → whole.Touched (layout z) (numbered s.place) s.cell (marked z.lanes d ts) ks ks' who s.wrote None → Sofar z at d (ts ++ (of g l ∷ [])) ls' cs' ks'
    noted-kept ks' (none, kept) =
        record { grid = grid-is (Touched s) k; kept = rw marks-are kept; no_race = rw marks-are (calm_more (marked z.lanes d ts) _ k.sofar.no_race none); none_wrong = right-now (Touched s) k refl }

    abbrev pub AfterRace : Race → Type 0
    AfterRace r = (most : ℕ) → Shows most z.lanes d (ts ++ (of g l ∷ [])) (races (first_mark r) (second_mark r))

    pub noted-raced : (ks' : List ℕ) (f : Found) → whole.Touched (layout z) (numbered s.place) s.cell (marked z.lanes d ts) ks ks' who s.wrote (Some f) →
        AfterRace (paired_of s.place s.cell f (record { who = who; wrote = s.wrote }))
    unfolding told_first
    noted-raced ks' f (among, raced, same) =
        cond_both (ltb f.who.group who.group || (eqb f.who.group who.group && ltb f.who.lane who.lane)) _ _ AfterRace
        (λ e most. shows-earlier most z.lanes d (ts ++ (of g l ∷ [])) (marked z.lanes d ts) _ _ marks-are among raced e)
        (λ e most. shows_later most z.lanes d (ts ++ (of g l ∷ [])) (marked z.lanes d ts) _ _ marks-are among raced e)
