-- A line for a mask is the steps of its lanes.
use Rattle.std.proofs.Common.{◌≡◌, ℕ, ◌+◌, ◌<◌, true, false, List, [], ◌∷◌, ◌++◌, get_or, sym, refl, ap, ◌∙◌, subst, append_assoc, append-nil, add-one, arith, Ok, Err}
use Rattle.std.proofs.lemmas.List.{length_push}
use Rattle.lanes.specs.Syntax.{Body, end}
use Rattle.lanes.specs.Grid.{Grid, Turn, of, can, turn, turns, steps}
use Rattle.store.specs.declared.Sizes.{Sizes}
use Rattle.store.specs.declared.Todo.{Todo}
use Rattle.store.specs.Layout.{Sized, slots}
use Rattle.store.specs.Lent.{slot_of, line_at, own_of, grid_of, phase_of_spec}
use Rattle.store.specs.Acts.{Ready}
use Rattle.store.proofs.Slots.{own_same, phase-same}
use Rattle.machine.specs.declared.outcome.Stopped.{Stopped}
use Rattle.machine.specs.declared.outcome.Stopped.TheVariants.{Raced, Wrong}
use Rattle.machine.specs.Sofar.{Sofar, After, Names, Outcome}
use Rattle.masks.specs.Masks.{on}
use Rattle.machine.specs.Line.{row_turns}
use Rattle.machine.specs.Masks.{LaneDid, ReadyRow, RowDid, Ends, RowOutcome, RowSofar}
use Rattle.machine.proofs.Rows.{grid-more, steps-more}

row_turns-on : (g start mask i : ℕ) → on mask i ≡ true → row_turns g start mask (i + 1) ≡ row_turns g start mask i ++ of g (start + i) ∷ []
unfolding row_turns
row_turns-on g start mask i e = rw (add-one, e)

row_turns-off : (g start mask i : ℕ) → on mask i ≡ false → row_turns g start mask (i + 1) ≡ row_turns g start mask i
unfolding row_turns
row_turns-off g start mask i e = rw (add-one, e) (append-nil (row_turns g start mask i))

ready-same : (z : Sizes) (at : ℕ → Body) (ls ls' : List ℕ) (g l : ℕ) (todo : Todo) (c v : ℕ) → own_of z ls' g l ≡ own_of z ls g l → line_at z ls' g l ≡ line_at z ls g l →
    Ready z at ls g l todo c v → Ready z at ls' g l todo c v
unfolding Ready
ready-same z at ls ls' g l todo c v o e r = rw (o, e) r

line_same : (z : Sizes) (ls ls' : List ℕ) (g l : ℕ) → slot_of z ls' g 0 l ≡ slot_of z ls g 0 l → line_at z ls' g l ≡ line_at z ls g l
unfolding line_at
line_same z ls ls' g l e = e

module _ (z : Sizes) (ls cs ks : List ℕ) (g start mask stop : ℕ) (todo : Todo) (xs ys : List ℕ) where
  pub row-none : RowSofar z ls cs ks ls cs ks g start mask stop todo xs ys 0
  unfolding row_turns turns steps
  row-none =
      record {
        did = record { lined = λ _ _ _ h. h; rest = λ _ _ _ _ _ _. refl; words = λ _ _ _ _ _ _. refl; grid = λ _ _ _. refl; steps = λ _ _ _. refl };
        sofar = λ at d ts _ _ s. rw append-nil s;
      }

  module _ (ls' cs' ks' : List ℕ) (i : ℕ) (hi : i < 32) (far : RowSofar z ls cs ks ls' cs' ks' g start mask stop todo xs ys i) where
    pub row-off : on mask i ≡ false → RowSofar z ls cs ks ls' cs' ks' g start mask stop todo xs ys (i + 1)
    row-off e =
        record {
          did = record {
            lined = far.did.lined;
            rest = λ g' s l hs hl ne. far.did.rest g' s l hs hl (λ a j x h o. ne a j x (omega arith) o);
            words = far.did.words;
            grid = λ at ends ready. rw (row_turns-off g start mask i e) (far.did.grid at ends ready);
            steps = λ at ends ready. rw (row_turns-off g start mask i e) (far.did.steps at ends ready);
          };
          sofar = λ at d ts ends ready s. rw (row_turns-off g start mask i e) (far.sofar at d ts ends ready s);
        }

    module _ (ls'' cs'' ks'' : List ℕ) (r : Outcome) (e : on mask i ≡ true) (hl : start + i < z.lanes) (lane : LaneDid z ls' cs' ks' ls'' cs'' ks'' g (start + i) stop todo (get_or xs i 0) (get_or ys i 0) r) where
      slot-still : (s : ℕ) → s < slots z → slot_of z ls' g s (start + i) ≡ slot_of z ls g s (start + i)
      slot-still s hs = far.did.rest g s (start + i) hs hl (λ _ j x h _. omega arith)

      still-ready : (at : ℕ → Body) → ReadyRow z at ls g start mask todo xs ys → Ready z at ls' g (start + i) todo (get_or xs i 0) (get_or ys i 0)
      unfolding ReadyRow
      still-ready at ready =
          ready-same z at ls ls' g (start + i) todo (get_or xs i 0) (get_or ys i 0) (own_same z ls ls' g (start + i) (λ s hs _. slot-still s hs))
          (line_same z ls ls' g (start + i) (slot-still 0 (omega arith))) (ready i hi e)

      could-now : (at : ℕ → Body) → at stop ≡ end → ReadyRow z at ls g start mask todo xs ys → can z.lanes (turns z.lanes (grid_of z at ls cs) (row_turns g start mask i)) (of g (start + i)) ≡ true
      could-now at ends ready = subst (λ (d : Grid). can z.lanes d (of g (start + i)) ≡ true) (far.did.grid at ends ready) (lane.could at ends (still-ready at ready))

      did-on : RowDid z ls cs ls'' cs'' g start mask stop todo xs ys (i + 1)
      did-on =
          record {
            lined = λ lines hs goes h. lane.lined lines hs goes (far.did.lined lines hs goes h);
            rest = λ g' s l hs hl' ne. lane.only.others g' s l hs hl' (λ a x. ne a i x (omega arith) e) ∙ far.did.rest g' s l hs hl' (λ a j x h o. ne a j x (omega arith) o);
            words = λ g' s l h2 hs hl'. lane.only.words g' s l h2 hs hl' ∙ far.did.words g' s l h2 hs hl';
            grid = λ at ends ready.
                rw (row_turns-on g start mask i e)
                (lane.grid at ends (still-ready at ready) ∙ ap (λ (d : Grid). turn z.lanes d (of g (start + i))) (far.did.grid at ends ready)
                ∙ sym (grid-more z.lanes (grid_of z at ls cs) (row_turns g start mask i) (of g (start + i))));
            steps = λ at ends ready.
                rw (row_turns-on g start mask i e)
                (steps-more z.lanes (grid_of z at ls cs) (row_turns g start mask i) (of g (start + i)) (could-now at ends ready)
                ∙ ap (λ (n : ℕ). n + 1) (far.did.steps at ends ready) ∙ sym (length_push (row_turns g start mask i) (of g (start + i))));
          }

      after_on : (at : ℕ → Body) (d : Grid) (ts : List Turn) → at stop ≡ end → ReadyRow z at ls g start mask todo xs ys → Sofar z at d ts ls cs ks →
          After z at d (ts ++ row_turns g start mask (i + 1)) ls'' cs'' ks'' r
      after_on at d ts ends ready s =
          rw (row_turns-on g start mask i e, ← append_assoc ts (row_turns g start mask i) (of g (start + i) ∷ []))
          (lane.after at d (ts ++ row_turns g start mask i) ends (still-ready at ready) (far.sofar at d ts ends ready s))

      pub row_on : r ≡ Ok tt → RowSofar z ls cs ks ls'' cs'' ks'' g start mask stop todo xs ys (i + 1)
      row_on fine = record { did = did-on; sofar = λ at d ts ends ready s. subst (After z at d (ts ++ row_turns g start mask (i + 1)) ls'' cs'' ks'') fine (after_on at d ts ends ready s) }

      pub row-stop : (x : Stopped) → r ≡ Err x → RowOutcome z ls cs ks ls'' cs'' ks'' g start mask stop todo xs ys (Err x)
      row-stop x stopped = record {
        many = i + 1;
        ends = by x (subst (Names g (start + i)) stopped lane.names);
        did = did-on;
        after = λ at d ts ends ready s. subst (After z at d (ts ++ row_turns g start mask (i + 1)) ls'' cs'' ks'') stopped (after_on at d ts ends ready s);
      }
        where
          by : (q : Stopped) → Names g (start + i) (Err q) → Ends g start mask (i + 1) (Err q)
          by (Raced y) n = (i, hi, add-one i, e)
          by (Wrong h l k) n = (i, hi, add-one i, e, n.0, n.1)

  pub row-all : (ls' cs' ks' : List ℕ) → RowSofar z ls cs ks ls' cs' ks' g start mask stop todo xs ys 32 → RowOutcome z ls cs ks ls' cs' ks' g start mask stop todo xs ys (Ok tt)
  row-all ls' cs' ks' far = record { many = 32; ends = refl; did = far.did; after = far.sofar }

  pub row-phase : (ls' cs' ks' : List ℕ) (i : ℕ) → Sized z → RowSofar z ls cs ks ls' cs' ks' g start mask stop todo xs ys i → phase_of_spec z ls' g ≡ phase_of_spec z ls g
  row-phase ls' cs' ks' i k far =
      let some : 0 < z.lanes = let p = k.some_lane in omega arith in
      phase-same z ls ls' g (far.did.words g 2 0 (omega arith) (omega arith) some) (far.did.words g 3 0 (omega arith) (omega arith) some)
