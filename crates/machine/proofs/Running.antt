-- The lanes of a mask do the line where the jumps of theirs lead.
use Rattle.std.proofs.Common.{◌≡◌, ℕ, suc, ◌+◌, ◌<◌, ◌≤◌, true, List, ◌++◌, length, sym, ap, ◌∙◌, subst, arith, Ok, Err}
use Rattle.std.proofs.lemmas.Bool.{both_ways}
use Rattle.lanes.specs.Syntax.{Body}
use Rattle.lanes.specs.Grid.{Grid, Turn, of, can, turns, steps}
use Rattle.store.specs.declared.Sizes.{Sizes}
use Rattle.store.specs.Lent.{line_at, grid_of, Lined}
use Rattle.machine.specs.declared.outcome.Stopped.TheVariants.{Raced, Wrong}
use Rattle.machine.specs.Masks.{Ends}
use Rattle.machine.specs.Sofar.{Sofar, Outcome}
use Rattle.masks.specs.Masks.{on}
use Rattle.machine.specs.Line.{row_turns, Loaded, Masked, LineDone}
use Rattle.machine.specs.Schedule.{RowCan}
use Rattle.machine.specs.Plans.{RowIn, RowThere, RowSettled, RowRan, LineOutcome}
use Rattle.machine.proofs.Lined.{all-fine}

-- the grid is the same, so all that is said of it is
sofar-same : (z : Sizes) (at : ℕ → Body) (d : Grid) (ts : List Turn) (ls ls' cs ks : List ℕ) → grid_of z at ls' cs ≡ grid_of z at ls cs → Sofar z at d ts ls cs ks → Sofar z at d ts ls' cs ks
sofar-same z at d ts ls ls' cs ks e s = record { grid = e ∙ s.grid; kept = s.kept; no_race = s.no_race; none_wrong = s.none_wrong }

pub row_inside : (z : Sizes) (at : ℕ → Body) (ls cs : List ℕ) (g start mask : ℕ) → RowCan z at ls cs g start mask → RowIn z g start mask
row_inside z at ls cs g start mask c = record { group = c.group; lane = c.start_there; there = c.there }

module _ (z : Sizes) (at : ℕ → Body) (words text : List ℕ) (lines : ℕ) (ls cs ks ls' : List ℕ) (g start mask low line entry : ℕ) (r : Outcome) (ns : List (List ℕ))
    (l : Loaded ns text words lines z at) (lined : Lined z (suc lines) ls) (c : RowCan z at ls cs g start mask) (hlow : low < 32) (on-low : on mask low ≡ true)
    (el : line ≡ line_at z ls g (start + low)) (st : RowSettled z words lines g start mask line entry ls ls') where
  all_there : RowThere z at words lines g start mask entry ls ls'
  unfolding Lined
  all_there =
      let p = lined g (start + low) c.group (c.there low hlow on-low) in
      let h : line ≤ lines = omega arith in
      st.there ns text (length ns) at l.coded h (λ j hj o. c.one_line j hj o ∙ sym (c.one_line low hlow on-low) ∙ sym el)

  pub masked : Masked z at words lines ls' cs g start mask entry
  masked =
      let a = all_there in
      record {
        group = c.group;
        there = c.there;
        stands = a.here;
        within = a.within;
        no_jump = λ j. both_ways _ a.no_jump j;
        can_step = λ i h o. subst (λ (d : Grid). can z.lanes d (of g (start + i)) ≡ true) (sym (a.grid cs)) (c.can_step i h o);
      }

  pub ran : (ls'' cs'' ks'' : List ℕ) → LineOutcome z at (suc lines) ls' cs ks ls'' cs'' ks'' g start mask r → RowRan z at (suc lines) ls cs ks ls'' cs'' ks'' g start mask r
  ran ls'' cs'' ks'' o =
      let a = all_there in
      record {
        many = o.many;
        ends = o.ends;
        lined = o.lined (a.lined lined);
        rest = λ g' s k hs hk ne. o.rest g' s k hs hk (λ x j e h m. ne x j e (few o.many r o.ends j h) m) ∙ st.rest g' s k hs hk (λ x _ j e h m. ne x j e h m);
        words = λ g' s k h2 hs hk. o.words g' s k h2 hs hk ∙ st.rest g' s k (omega arith) hk (λ _ x _ _ _ _. omega arith);
        grid = o.grid ∙ ap (λ (d : Grid). turns z.lanes d (row_turns g start mask o.many)) (a.grid cs);
        steps = subst (λ (d : Grid). steps z.lanes d (row_turns g start mask o.many) ≡ length (row_turns g start mask o.many)) (a.grid cs) o.steps;
        after = λ d ts s. o.after d ts (sofar-same z at d ts ls ls' cs ks (a.grid cs) s);
      }
    where
      few : (many : ℕ) (q : Outcome) → Ends g start mask many q → (j : ℕ) → j < many → j < 32
      few many (Ok u) e j h = omega arith
      few many (Err (Raced x)) e j h = let a = e.1 in let b = e.2 in omega arith
      few many (Err (Wrong x y i)) e j h = let a = e.1 in let b = e.2 in omega arith

pub ran-done : (z : Sizes) (at : ℕ → Body) (lines : ℕ) (ls cs ks ls' cs' ks' : List ℕ) (g start mask : ℕ) (r : Outcome) (d : Grid) (ts : List Turn) →
    RowRan z at lines ls cs ks ls' cs' ks' g start mask r → Sofar z at d ts ls cs ks → LineDone z at d ts g start mask ls' cs' ks' r
ran-done z at lines ls cs ks ls' cs' ks' g start mask r d ts o s =
    record { us = ts ++ row_turns g start mask o.many; after = o.after d ts s; all = λ f. ap (λ (n : ℕ). ts ++ row_turns g start mask n) (all-fine g start mask o.many r o.ends f) }
