-- A choice is done: what came of a row's line, or of a group that goes on.
use Rattle.std.proofs.Common.{◌≡◌, ℕ, zero, suc, ◌+◌, ◌-◌, ◌<◌, ◌≤◌, true, List, [], ◌∷◌, ◌++◌, length, sym, refl, ap, ◌∙◌, subst, inl, inr, append-nil, add-zero, arith, Ok, Err}
use Rattle.std.proofs.lemmas.Bool.{cases_eq}
use Rattle.lanes.specs.Syntax.{Body}
use Rattle.lanes.specs.Grid.{Grid, Turn, of, release, can, turn, turns, marked, marks_at, steps}
use Rattle.lanes.specs.Told.{Shows, too_long, NoneWrong}
use Rattle.lanes.proofs.Turns.{steps-append}
use Rattle.grammar.specs.Spelling.{Named}
use Rattle.code.specs.Words.{step_at}
use Rattle.store.specs.declared.Sizes.{Sizes}
use Rattle.store.specs.Layout.{Sized}
use Rattle.store.specs.Lent.{Lined, line_at, phase_of_spec, field_of, grid_of}
use Rattle.store.proofs.Slots.{phase-same}
use Rattle.machine.specs.declared.schedule.Choice.TheVariants.{Row, GoOn}
use Rattle.machine.specs.declared.outcome.Stopped.{Stopped}
use Rattle.machine.specs.declared.outcome.Stopped.TheVariants.{Raced, Wrong}
use Rattle.machine.specs.Sofar.{Sofar, After}
use Rattle.masks.specs.Masks.{on, lanes_in}
use Rattle.machine.specs.Line.{Loaded, Runs, row_turns}
use Rattle.machine.specs.Schedule.{RowCan}
use Rattle.machine.specs.Plans.{RowRan}
use Rattle.machine.specs.Moves.{WentOn}
use Rattle.machine.specs.Verdict.{told_of, told_at, barriers, highest, StandsAt, WentTo}
use Rattle.machine.proofs.Rows.{grid-more, marked_more, steps-more, right-released}
use Rattle.machine.proofs.Counting.{row-steps}
use Rattle.machine.proofs.Bounds.{few-barriers, highest-more}

pub runs-from : (ns : List (List ℕ)) (text steps : List ℕ) (lines : ℕ) (z : Sizes) (at : ℕ → Body) (ls : List ℕ) → Loaded ns text steps lines z at → Lined z (suc lines) ls → Runs z at steps lines ls
runs-from ns text steps lines z at ls k h = record { ns = ns; text = text; owns = length ns; coded = k.coded; lined = h }

-- what stops a row of turns is told
pub shows-stopped : (z : Sizes) (at : ℕ → Body) (d : Grid) (us : List Turn) (ls cs ks : List ℕ) (granted : ℕ) (x : Stopped) → After z at d us ls cs ks (Err x) →
    Shows granted z.lanes d us (told_of (told_at x) (field_of z cs))
shows-stopped z at d us ls cs ks granted (Raced r) h = h granted
shows-stopped z at d us ls cs ks granted (Wrong g l i) h = h granted

some_lanes : (mask i k : ℕ) → i < k → on mask i ≡ true → 1 ≤ lanes_in mask k
unfolding lanes_in
some_lanes mask i zero h e = absurd (omega arith)
some_lanes mask i (suc k) h e = elim (cases_eq i k) [
  | inl q ↦ let r : on mask k ≡ true = subst (λ (j : ℕ). on mask j ≡ true) q e in rw r (omega arith)
  | inr q ↦ let r = some_lanes mask i k (omega arith) e in omega arith
]

few-at : (ns : List (List ℕ)) (text steps : List ℕ) (lines : ℕ) (z : Sizes) (at : ℕ → Body) (ls : List ℕ) (h : ℕ) → Loaded ns text steps lines z at → Sized z → Lined z (suc lines) ls → h < z.groups →
    barriers (at (line_at z ls h 0)) ≤ lines
unfolding Lined
few-at ns text steps lines z at ls h k sized lined hg =
    let some = sized.some_lane in let q = lined h 0 hg (omega arith) in
    few-barriers (Named ns) text (length ns) lines at (step_at steps lines) k.coded (line_at z ls h 0) (omega arith)

module _ (ns : List (List ℕ)) (text steps-words : List ℕ) (lines : ℕ) (z : Sizes) (at : ℕ → Body) (d : Grid) (ts : List Turn) (ls cs ks : List ℕ) (done : ℕ)
    (loaded : Loaded ns text steps-words lines z at) (sized : Sized z) (stands : StandsAt z at lines d ts ls cs ks done) where
  -- the steps of a row that can be done
  row-steps-from : (g start mask : ℕ) → RowCan z at ls cs g start mask → steps z.lanes d (ts ++ row_turns g start mask 32) ≡ done + lanes_in mask 32
  row-steps-from g start mask can-row =
      steps-append z.lanes d ts (row_turns g start mask 32)
      ∙ (ap (λ (k : ℕ). k + steps z.lanes (turns z.lanes d ts) (row_turns g start mask 32)) stands.has_steps
      ∙ ap (λ (k : ℕ). done + k)
      (row-steps z.lanes (turns z.lanes d ts) g start mask 32 (λ j h e. ap (λ (x : Grid). can z.lanes x (of g (start + j))) (sym stands.sofar.grid) ∙ can-row.can_step j h e)))

  pub shows-long : (granted g start mask : ℕ) → RowCan z at ls cs g start mask → done ≤ granted → granted - done < lanes_in mask 32 → Shows granted z.lanes d (ts ++ row_turns g start mask 32) too_long
  unfolding Shows
  shows-long granted g start mask can-row h k = let q = row-steps-from g start mask can-row in omega arith

  module _ (ls' cs' ks' : List ℕ) (granted g start mask : ℕ) (can-row : RowCan z at ls cs g start mask) (ran : RowRan z at (suc lines) ls cs ks ls' cs' ks' g start mask (Ok tt)) where
    same-phases : (h : ℕ) → phase_of_spec z ls' h ≡ phase_of_spec z ls h
    same-phases h = let some = sized.some_lane in phase-same z ls ls' h (ran.words h 2 0 (omega arith) (omega arith) (omega arith)) (ran.words h 3 0 (omega arith) (omega arith) (omega arith))

    sofar-now : Sofar z at d (ts ++ row_turns g start mask 32) ls' cs' ks'
    sofar-now = subst (λ (k : ℕ). Sofar z at d (ts ++ row_turns g start mask k) ls' cs' ks') ran.ends (ran.after d ts stands.sofar)

    some : 1 ≤ lanes_in mask 32
    some = some_lanes mask can-row.lowest 32 can-row.lowest_few can-row.lowest_on

    stands-now : StandsAt z at lines d (ts ++ row_turns g start mask 32) ls' cs' ks' (done + lanes_in mask 32)
    stands-now = record {
      sofar = sofar-now;
      has_steps = row-steps-from g start mask can-row;
      lined = ran.lined;
      phases = λ h hg.
          let p = stands.phases h hg in let q = same-phases h in let r = few-at ns text steps-words lines z at ls' h loaded sized ran.lined hg in
          let m = highest-more done (lanes_in mask 32) lines some in omega arith;
    }

    pub went-row : done ≤ granted → lanes_in mask 32 ≤ granted - done → WentTo z at lines d ls cs ls' cs' ks' granted done (done + lanes_in mask 32) (Row g start mask)
    went-row h k = record {
      us = ts ++ row_turns g start mask 32;
      stands = stands-now;
      grid = subst (λ (i : ℕ). grid_of z at ls' cs' ≡ turns z.lanes (grid_of z at ls cs) (row_turns g start mask i)) ran.ends ran.grid;
      granted_still = omega arith;
      moved = inl (record { more = let s = some in omega arith; phases = same-phases });
    }

  module _ (ls' : List ℕ) (granted g : ℕ) (hg : g < z.groups) (could : can z.lanes (grid_of z at ls cs) (release g) ≡ true) (went : WentOn z steps-words lines g ls ls') where
    runs : Runs z at steps-words lines ls
    runs = runs-from ns text steps-words lines z at ls loaded stands.lined

    could-now : can z.lanes (turns z.lanes d ts) (release g) ≡ true
    could-now = subst (λ (e : Grid). can z.lanes e (release g) ≡ true) stands.sofar.grid could

    grid-now : grid_of z at ls' cs ≡ turns z.lanes d (ts ++ (release g ∷ []))
    grid-now = went.grid at cs runs could ∙ (ap (λ (e : Grid). turn z.lanes e (release g)) stands.sofar.grid ∙ sym (grid-more z.lanes d ts (release g)))

    marked-now : marked z.lanes d (ts ++ (release g ∷ [])) ≡ marked z.lanes d ts
    unfolding marks_at
    marked-now = marked_more z.lanes d ts (release g) could-now ∙ append-nil (marked z.lanes d ts)

    sofar-gone : Sofar z at d (ts ++ (release g ∷ [])) ls' cs ks
    sofar-gone = record {
      grid = grid-now;
      kept = rw marked-now stands.sofar.kept;
      no_race = rw marked-now stands.sofar.no_race;
      none_wrong = subst NoneWrong (sym (grid-more z.lanes d ts (release g))) (right-released z.lanes (turns z.lanes d ts) g could-now stands.sofar.none_wrong);
    }

    barriers-one : barriers (at (line_at z ls g 0)) ≡ suc (barriers (at (line_at z ls' g 0)))
    unfolding barriers
    barriers-one = let some = sized.some_lane in ap barriers (went.behind at cs 0 (omega arith) runs could)

    phases-gone : (h : ℕ) → h < z.groups → phase_of_spec z ls' h + barriers (at (line_at z ls' h 0)) ≤ highest done lines
    phases-gone h hh = elim (cases_eq h g) [
      | inl e ↦ rw e (let p = stands.phases g hg in let q = went.phase in let r = barriers-one in omega arith)
      | inr ne ↦ let some = sized.some_lane in let p = stands.phases h hh in let q = went.other_phases h ne in
          let r : barriers (at (line_at z ls' h 0)) ≡ barriers (at (line_at z ls h 0)) = ap (λ (i : ℕ). barriers (at i)) (went.other_lines h 0 (omega arith) ne) in omega arith
    ]

    stands-gone : StandsAt z at lines d (ts ++ (release g ∷ [])) ls' cs ks done
    stands-gone = record {
      sofar = sofar-gone;
      has_steps = steps-more z.lanes d ts (release g) could-now ∙ (add-zero (steps z.lanes d ts) ∙ stands.has_steps);
      lined = (went.runs at cs runs could).lined;
      phases = phases-gone;
    }

    pub went-go : done ≤ granted → WentTo z at lines d ls cs ls' cs ks granted done done (GoOn g)
    unfolding turns
    went-go h = record {
      us = ts ++ (release g ∷ []);
      stands = stands-gone;
      grid = went.grid at cs runs could;
      granted_still = h;
      moved = inr (record { as_many = refl; group = g; there = hg; phase = went.phase; phases = went.other_phases });
    }
