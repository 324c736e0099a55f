-- A line for a mask, from the entry at which its lanes stand.
use Rattle.std.proofs.Common.{◌≡◌, ℕ, zero, suc, ◌+◌, ◌<◌, ◌≤◌, true, false, ◌⊎◌, List, [], ◌++◌, get_or, Some, None, sym, refl, ap, ◌∙◌, subst, inl, inr, append-nil, le_of_eq, arith, Ok, Err}
use Rattle.std.proofs.lemmas.Bool.{cases_Bool, both_ways, and_parts}
use Rattle.lanes.specs.Syntax.{Body, end}
use Rattle.lanes.specs.Step.{value, stepping, Lane}
use Rattle.lanes.specs.Grid.{Grid, Turn, of, can, turns, steps, the_lane}
use Rattle.grammar.specs.Spelling.{Named}
use Rattle.code.specs.Code as code
use Rattle.code.specs.Code.{Does, Coded, is_jump}
use Rattle.code.specs.Words.{step_at}
use Rattle.store.specs.declared.Sizes.{Sizes}
use Rattle.store.specs.declared.Todo.{Todo}
use Rattle.store.specs.declared.Todo.TheVariants as todo
use Rattle.store.specs.Lent.{own_of, lane_at, grid_of}
use Rattle.store.specs.Acts.{NextIs, Ready}
use Rattle.store.proofs.Grids.{the-lane-is}
use Rattle.machine.specs.declared.line.Plan.{Plan}
use Rattle.machine.specs.declared.outcome.Stopped.TheVariants.{Raced, Wrong}
use Rattle.machine.specs.Sofar.{Sofar, Outcome}
use Rattle.masks.specs.Masks.{on}
use Rattle.machine.specs.Line.{row_turns, Loaded, Masked, LineDone}
use Rattle.machine.specs.Masks.{ReadyRow, RowOutcome, Ends}
use Rattle.machine.specs.Plans.{plan_of_spec, Worked, SecondWorked, RowIn, LineOutcome}
use Rattle.machine.proofs.Planned.{plan-goes, no-plan, next_is, last_end, Second}

-- a mask without a lane
no-turns : (g start mask n : ℕ) → n ≤ 32 → ((i : ℕ) → i < 32 → on mask i ≡ false) → row_turns g start mask n ≡ []
unfolding row_turns
no-turns g start mask zero h none = refl
no-turns g start mask (suc n) h none = rw (none n (omega arith), no-turns g start mask n (omega arith) none) refl

pub idle : (z : Sizes) (at : ℕ → Body) (lines : ℕ) (ls cs ks : List ℕ) (g start mask : ℕ) → ((i : ℕ) → i < 32 → on mask i ≡ false) →
    LineOutcome z at lines ls cs ks ls cs ks g start mask (Ok tt)
unfolding turns steps
idle z at lines ls cs ks g start mask none =
    let e = no-turns g start mask 32 (omega arith) none in
    record {
      many = 32;
      ends = refl;
      lined = λ h. h;
      rest = λ _ _ _ _ _ _. refl;
      words = λ _ _ _ _ _ _. refl;
      grid = rw e refl;
      steps = rw e refl;
      after = λ d ts s. rw (e, append-nil ts) s;
    }

-- what the lanes can do, and where
module _ (z : Sizes) (at : ℕ → Body) (words : List ℕ) (lines : ℕ) (ls cs : List ℕ) (g start mask entry : ℕ) (m : Masked z at words lines ls cs g start mask entry) where
  left_is : (i : ℕ) → i < 32 → on mask i ≡ true → (the_lane (grid_of z at ls cs) g (start + i)).left ≡ at entry
  unfolding lane_at
  left_is i h o =
      ap (λ (x : Lane). x.left) (the-lane-is z at ls cs g (start + i) m.group (m.there i h o)) ∙ ap at (m.stands i h o)

  can-part : (l : ℕ) → can z.lanes (grid_of z at ls cs) (of g l) ≡ true → stepping (the_lane (grid_of z at ls cs) g l).left ≡ true
  unfolding can
  can-part l e = (and_parts _ _ e).1

  steps_on : (i : ℕ) → i < 32 → on mask i ≡ true → stepping (at entry) ≡ true
  steps_on i h o = subst (λ (b : Body). stepping b ≡ true) (left_is i h o) (can-part (start + i) (m.can_step i h o))

  none-if : ((i : ℕ) → i < 32 → on mask i ≡ true → ⊥) → (i : ℕ) → i < 32 → on mask i ≡ false
  none-if never i h = by (cases_Bool (on mask i))
    where
      by : (on mask i ≡ true) ⊎ (on mask i ≡ false) → on mask i ≡ false
      by (inl o) = absurd (never i h o)
      by (inr o) = o

  pub none_inside : (RowIn z g start mask → ⊥) → (i : ℕ) → i < 32 → on mask i ≡ false
  none_inside never = none-if (λ i h o. let p = m.there i h o in never (record { group = m.group; lane = omega arith; there = m.there }))

  module _ (ns : List (List ℕ)) (text : List ℕ) (l : Loaded ns text words lines z at) where
    pub none-planned : plan_of_spec z.owns (step_at words lines entry) ≡ None → (i : ℕ) → i < 32 → on mask i ≡ false
    none-planned e =
        none-if (λ i h o. both_ways (stepping (at entry))
        (no-plan (Named ns) text at z.owns lines (step_at words lines entry) (at entry) e (subst (λ (n : ℕ). code.Goes n lines (step_at words lines entry)) l.owned (l.coded.goes entry m.within)) m.no_jump (l.coded.does entry m.within))
        (steps_on i h o))

    second_of : (xs ys : List ℕ) (i : ℕ) → i < 32 → start + i < z.lanes → (t : Todo) (y : ℕ) → SecondWorked z ls g start text t y ys →
        Second (Named ns) text at z.owns (value (own_of z ls g (start + i)) (start + i) g z.lanes) (get_or xs i 0) (get_or ys i 0) y t
    unfolding Worked
    second_of xs ys i h hl (todo.Put k j) y w = tt
    second_of xs ys i h hl (todo.Read f k j) y w = tt
    second_of xs ys i h hl (todo.Write f j) y w = λ e st. w ns l.names l.distinct (le_of_eq l.owned) e st i h hl
    second_of xs ys i h hl (todo.Branch a b) y w = tt

    pub ready-row : (p : Plan) (xs ys : List ℕ) → plan_of_spec z.owns (step_at words lines entry) ≡ Some p → Worked z ls g start text p.first xs →
        SecondWorked z ls g start text p.todo p.second ys → ReadyRow z at ls g start mask p.todo xs ys
    unfolding ReadyRow Ready Worked
    ready-row p xs ys e w u i h o =
        let hl = m.there i h o in
        subst (λ (n : ℕ). NextIs at (value (own_of z ls g (start + i)) (start + i) g z.lanes) p.todo (get_or xs i 0) (get_or ys i 0) (at n)) (sym (m.stands i h o))
        (next_is (Named ns) text at z.owns (value (own_of z ls g (start + i)) (start + i) g z.lanes) (get_or xs i 0) (get_or ys i 0) (step_at words lines entry) p (at entry) e (l.coded.does entry m.within)
        (λ f st. w ns l.names l.distinct (le_of_eq l.owned) f st i h hl) (second_of xs ys i h hl p.todo p.second u))

    stops : at lines ≡ end
    stops = last_end (Named ns) text at words lines (at lines) (l.coded.does lines (omega arith))

    pub line-did : (p : Plan) (ks ls' cs' ks' xs ys : List ℕ) (r : Outcome) → plan_of_spec z.owns (step_at words lines entry) ≡ Some p → Worked z ls g start text p.first xs →
        SecondWorked z ls g start text p.todo p.second ys → RowOutcome z ls cs ks ls' cs' ks' g start mask lines p.todo xs ys r →
        LineOutcome z at (suc lines) ls cs ks ls' cs' ks' g start mask r
    line-did p ks ls' cs' ks' xs ys r e w u o =
        let ready = ready-row p xs ys e w u in
        let goes = plan-goes z.owns lines (step_at words lines entry) p e (subst (λ (n : ℕ). code.Goes n lines (step_at words lines entry)) l.owned (l.coded.goes entry m.within)) in
        record {
          many = o.many;
          ends = o.ends;
          lined = λ h. o.did.lined (suc lines) (omega arith) goes h;
          rest = o.did.rest;
          words = o.did.words;
          grid = o.did.grid at stops ready;
          steps = o.did.steps at stops ready;
          after = λ d ts s. o.after at d ts stops ready s;
        }

-- what that is for the machine's row of turns
pub all-fine : (g start mask many : ℕ) (r : Outcome) → Ends g start mask many r → r ≡ Ok tt → many ≡ 32
all-fine g start mask many (Ok u) e f = e
all-fine g start mask many (Err (Raced x)) e f = absurd (let q : ◌≡◌ {A = ℕ} 0 1 = cc in omega arith)
all-fine g start mask many (Err (Wrong h l i)) e f = absurd (let q : ◌≡◌ {A = ℕ} 0 1 = cc in omega arith)

pub line-done : (z : Sizes) (at : ℕ → Body) (lines : ℕ) (ls cs ks ls' cs' ks' : List ℕ) (g start mask : ℕ) (r : Outcome) (d : Grid) (ts : List Turn) →
    LineOutcome z at lines ls cs ks ls' cs' ks' g start mask r → Sofar z at d ts ls cs ks → LineDone z at d ts g start mask ls' cs' ks' r
line-done z at lines ls cs ks ls' cs' ks' g start mask r d ts o s =
    record { us = ts ++ row_turns g start mask o.many; after = o.after d ts s; all = λ f. ap (λ (n : ℕ). ts ++ row_turns g start mask n) (all-fine g start mask o.many r o.ends f) }
