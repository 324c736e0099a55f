-- The grid under a step of one lane.
use Rattle.std.proofs.Common.{◌≡◌, ℕ, suc, ◌<◌, ◌≤◌, true, ◌⊎◌, List, length, set, sym, refl, ap, ◌∙◌, inl, inr, arith}
use Rattle.std.proofs.lemmas.Bool.{lt-ltb, cases_eq}
use Rattle.lanes.specs.Syntax.{Body}
use Rattle.lanes.specs.Step.{Lane, goes_to, Memory, Act, act, lane_of, after, touched, stepping}
use Rattle.lanes.specs.Grid.{Group, of, turn, did, can, the_group, the_lane, the_act, with_lane, no_group, no_lane, marks, marks_at}
use Rattle.store.specs.declared.Sizes.{Sizes}
use Rattle.store.specs.Layout.{size, place_of, room}
use Rattle.store.specs.Lent.{lane_at, phase_of_spec, group_at, memory_of, grid_of, Only, line_at, Settled}
use Rattle.store.proofs.Upto.{upto-at, upto-length, upto-same, upto-set}
use Rattle.store.proofs.Slots.{lane-same, phase-same, only-slot, lane-line, lined-line, slot-other, slot_same}
use Rattle.store.proofs.Cells.{cells-length}

-- the grid's groups and lanes are the slices'
module _ (z : Sizes) (at : ℕ → Body) (ls cs : List ℕ) where
  pub the-group-is : (g : ℕ) → g < z.groups → the_group (grid_of z at ls cs) g ≡ group_at z at ls g
  unfolding the_group grid_of
  the-group-is g h = upto-at no_group (group_at z at ls) z.groups g h

  pub the-lane-is : (g l : ℕ) → g < z.groups → l < z.lanes → the_lane (grid_of z at ls cs) g l ≡ lane_at z at ls g l
  unfolding the_lane group_at
  the-lane-is g l h k = rw (the-group-is g h) (upto-at no_lane (lane_at z at ls g) z.lanes l k)

  pub groups-long : length (grid_of z at ls cs).groups_of ≡ z.groups
  unfolding grid_of
  groups-long = upto-length (group_at z at ls) z.groups

  pub the-phase-is : (g : ℕ) → g < z.groups → (the_group (grid_of z at ls cs) g).phase ≡ phase_of_spec z ls g
  unfolding group_at
  the-phase-is g h = rw (the-group-is g h)

  pub grid-memory : (grid_of z at ls cs).memory ≡ memory_of z cs
  unfolding grid_of
  grid-memory = refl

  pub the-act-is : (g l : ℕ) → g < z.groups → l < z.lanes →
      the_act z.lanes (grid_of z at ls cs) g l ≡ act z.lanes l g z.field z.shared (lane_at z at ls g l)
  unfolding the_act grid_of size
  the-act-is g l h k = rw (the-lane-is g l h k, cells-length z cs 0 (omega arith), cells-length z cs (suc g) h)

  pub can_step_spec : (g l : ℕ) → g < z.groups → l < z.lanes → stepping (lane_at z at ls g l).left ≡ true → can z.lanes (grid_of z at ls cs) (of g l) ≡ true
  unfolding can
  can_step_spec g l h k e = let p : g < length (grid_of z at ls cs).groups_of = rw groups-long h in rw (lt-ltb g _ p, lt-ltb l _ k, the-lane-is g l h k, e)

pub group_is : (xs ys : List Lane) (p q : ℕ) → xs ≡ ys → p ≡ q → ◌≡◌ {A = Group} (record { lanes_of = xs; phase = p }) (record { lanes_of = ys; phase = q })
group_is xs ys p q a b = rw (a, b)

pub only-lane : (z : Sizes) (at : ℕ → Body) (ls ls' : List ℕ) (g l g' l' : ℕ) → Only z g l ls ls' → l' < z.lanes → (g' ≡ g → l' ≡ l → ⊥) → lane_at z at ls' g' l' ≡ lane_at z at ls g' l'
only-lane z at ls ls' g l g' l' only h ne = lane-same z at ls ls' g' l' (λ s hs _. only.others g' s l' hs h ne)

pub only-phase : (z : Sizes) (ls ls' : List ℕ) (g l g' : ℕ) → l < z.lanes → Only z g l ls ls' → phase_of_spec z ls' g' ≡ phase_of_spec z ls g'
only-phase z ls ls' g l g' k only =
    let h : 0 < z.lanes = omega arith in
    phase-same z ls ls' g' (only.words g' 2 0 (omega arith) (omega arith) h) (only.words g' 3 0 (omega arith) (omega arith) h)

-- the law: slices of which one lane and the memory are what the act leaves stand for the grid one turn on
module _ (z : Sizes) (at : ℕ → Body) (ls cs ls' cs' : List ℕ) (g l : ℕ) (hg : g < z.groups) (hl : l < z.lanes) (only : Only z g l ls ls') where
  grid-same : (y : Lane) (m : Memory) → lane_at z at ls' g l ≡ y → memory_of z cs' ≡ m →
      grid_of z at ls' cs' ≡ record { groups_of = set (grid_of z at ls cs).groups_of g (with_lane (group_at z at ls g) l y); memory = m }
  unfolding grid_of group_at
  grid-same y m here mem =
      let gs = upto-set no_group (group_at z at ls) (group_at z at ls') z.groups g (with_lane (group_at z at ls g) l y)
      (group_is _ _ _ _ (upto-set no_lane (lane_at z at ls g) (lane_at z at ls' g) z.lanes l y here (λ j h ne. only-lane z at ls ls' g l g j only h (λ _ e. ne e))) (only-phase z ls ls' g l g hl only))
      (λ i h ne. group_is _ _ _ _ (upto-same no_lane _ _ z.lanes (λ j h. only-lane z at ls ls' g l i j only h (λ e _. ne e))) (only-phase z ls ls' g l i hl only))
      in rw (gs, mem)

  module _ (a : Act) (steps : stepping (lane_at z at ls g l).left ≡ true) (is : act z.lanes l g z.field z.shared (lane_at z at ls g l) ≡ a) where
    turn-did : turn z.lanes (grid_of z at ls cs) (of g l) ≡
        record { groups_of = set (grid_of z at ls cs).groups_of g (with_lane (group_at z at ls g) l (lane_of a (memory_of z cs))); memory = after a (memory_of z cs) }
    unfolding turn did
    turn-did = rw (can_step_spec z at ls cs g l hg hl steps, the-act-is z at ls cs g l hg hl, is, the-group-is z at ls cs g hg, grid-memory z at ls cs)

    pub turn_is : lane_at z at ls' g l ≡ lane_of a (memory_of z cs) → memory_of z cs' ≡ after a (memory_of z cs) →
        grid_of z at ls' cs' ≡ turn z.lanes (grid_of z at ls cs) (of g l)
    turn_is here mem = grid-same (lane_of a (memory_of z cs)) (after a (memory_of z cs)) here mem ∙ sym turn-did

    pub marks-are : marks_at z.lanes (grid_of z at ls cs) (of g l) ≡ marks g l (phase_of_spec z ls g) (touched a)
    unfolding marks_at
    marks-are = rw (the-act-is z at ls cs g l hg hl, is, the-phase-is z at ls cs g hg)

-- slices with the same lanes and phases stand for the same grid
pub grid-kept : (z : Sizes) (at : ℕ → Body) (ls ls' cs : List ℕ) → ((g l : ℕ) → g < z.groups → l < z.lanes → lane_at z at ls' g l ≡ lane_at z at ls g l) →
    ((g : ℕ) → g < z.groups → phase_of_spec z ls' g ≡ phase_of_spec z ls g) → grid_of z at ls' cs ≡ grid_of z at ls cs
unfolding grid_of group_at
grid-kept z at ls ls' cs same phases =
    ap (λ (gs : List Group). record { groups_of = gs; memory = memory_of z cs })
    (upto-same no_group (group_at z at ls') (group_at z at ls) z.groups (λ g h. group_is _ _ _ _ (upto-same no_lane _ _ z.lanes (λ l k. same g l h k)) (phases g h)))

stays : (x : Lane) (b : Body) → b ≡ x.left → goes_to x b ≡ x
stays x b e = rw e

-- one lane stands elsewhere
module _ (z : Sizes) (g l line : ℕ) (hg : g < z.groups) (hl : l < z.lanes) (ls ls' : List ℕ) (fit : room z ≤ length ls) (e : ls' ≡ set ls (place_of z g 0 l) line) where
  stood : Only z g l ls ls'
  stood = only-slot z g 0 l ls ls' line (omega arith) (inl (omega arith)) hl e

  stood-left : (at : ℕ → Body) → (lane_at z at ls g l).left ≡ at (line_at z ls g l)
  unfolding lane_at
  stood-left at = refl

  stood-lane : (at : ℕ → Body) → at line ≡ at (line_at z ls g l) → (g' l' : ℕ) → g' < z.groups → l' < z.lanes → lane_at z at ls' g' l' ≡ lane_at z at ls g' l'
  stood-lane at q g' l' hg' hl' = by (cases_eq g' g) (cases_eq l' l)
    where
      by : (g' ≡ g) ⊎ (g' ≡ g → ⊥) → (l' ≡ l) ⊎ (l' ≡ l → ⊥) → lane_at z at ls' g' l' ≡ lane_at z at ls g' l'
      by (inl a) (inl b) = rw (a, b, e) (lane-line z at g l hg hl ls fit line ∙ stays (lane_at z at ls g l) (at line) (q ∙ sym (stood-left at)))
      by (inl a) (inr ne) = only-lane z at ls ls' g l g' l' stood hl' (λ _ b. ne b)
      by (inr ne) b = only-lane z at ls ls' g l g' l' stood hl' (λ a _. ne a)

  pub settled : Settled z g l line ls ls'
  unfolding line_at
  settled =
      record {
        only = stood;
        here = rw e (slot_same z g 0 l (omega arith) hl ls line hg fit);
        same = λ s h1 hs. rw e (slot-other z g 0 l (omega arith) hl ls line g s l hs hl (λ _ x _. omega arith));
        lined = λ lines h inl'. rw e (lined-line z g l lines hl ls line fit h inl');
        grid = λ at cs q. grid-kept z at ls ls' cs (λ g' l' a b. stood-lane at q g' l' a b) (λ g' _. only-phase z ls ls' g l g' hl stood);
      }
