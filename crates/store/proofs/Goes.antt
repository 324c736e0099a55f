-- Words of a group, and that it goes on.
use Rattle.std.proofs.Common.{◌≡◌, ℕ, zero, suc, ◌+◌, ◌*◌, ◌/◌, ◌%◌, ◌<◌, ◌≤◌, Bool, true, eqb, ◌⊎◌, List, [], ◌∷◌, length, get_or, set, sym, refl, ap, ◌∙◌, inl, inr, not-suc-le-zero, add-one, arith, length-set}
use Rattle.std.proofs.lemmas.Bool.{cases_eq, lt-ltb, and_from}
use Rattle.lanes.specs.Syntax.{Body, at_barrier, past_barrier, barrier}
use Rattle.lanes.specs.Step.{Lane, goes_to}
use Rattle.lanes.specs.Grid.{Group, turn, did, can, release, all_lanes, all_past, gone_on, no_group, no_lane}
use Rattle.store.specs.declared.Sizes.{Sizes}
use Rattle.store.specs.Layout.{slots, room, place_of}
use Rattle.store.specs.Lent.{upto, slot_of, line_at, own_of, lane_at, phase_of_spec, group_at, memory_of, grid_of, Lined, Aside, Raised}
use Rattle.store.specs.Acts.{Further, Released}
use Rattle.store.proofs.Upto.{upto_is, upto-at, upto-length, upto-same, upto-set}
use Rattle.store.proofs.Slots.{lane_is, lane-same, phase-same, slot_same, slot-other, lined-slot}
use Rattle.store.proofs.Grids.{the-group-is, groups-long, grid-memory, grid-kept, group_is}

-- a word that the grid does not depend on
pub put-aside : (z : Sizes) (g s l v : ℕ) (ls ls' : List ℕ) → g < z.groups → 4 ≤ s → s < 128 → l < z.lanes → room z ≤ length ls →
    ls' ≡ set ls (place_of z g s l) v → Aside z g s l v ls ls'
put-aside z g s l v ls ls' hg h4 hs hl fit e =
    let hz : s < slots z = omega arith in
    let some : 0 < z.lanes = omega arith in
    let other : (g' s' l' : ℕ) → s' < slots z → l' < z.lanes → (g' ≡ g → s' ≡ s → l' ≡ l → ⊥) → slot_of z ls' g' s' l' ≡ slot_of z ls g' s' l' =
    λ g' s' l' hs' hl' ne. rw e (slot-other z g s l hz hl ls v g' s' l' hs' hl' ne) in
    record {
      here = rw e (slot_same z g s l hz hl ls v hg fit);
      rest = other;
      lined = λ lines h. rw e (lined-slot z g l lines hl ls s v hz (λ x. omega arith) h);
      grid = λ at cs. grid-kept z at ls ls' cs
          (λ g' l' _ hl'. lane-same z at ls ls' g' l' (λ s' hs' own. other g' s' l' hs' hl' (λ _ x _. apart s' own x)))
          (λ g' _. phase-same z ls ls' g' (other g' 2 0 (omega arith) some (λ _ x _. omega arith)) (other g' 3 0 (omega arith) some (λ _ x _. omega arith)));
    }
  where
    apart : (s' : ℕ) → (s' < 2) ⊎ (128 ≤ s') → s' ≡ s → ⊥
    apart s' (inl a) x = omega arith
    apart s' (inr a) x = omega arith

-- the phase, in two words
pub two-words : (n : ℕ) → n % 4294967296 + 4294967296 * (n / 4294967296) ≡ n
two-words n = omega arith

pub put-phase : (z : Sizes) (g a b : ℕ) (ls ls' : List ℕ) → 0 < z.lanes → g < z.groups → room z ≤ length ls → a + 4294967296 * b ≡ phase_of_spec z ls g + 1 →
    ls' ≡ set (set ls (place_of z g 2 0) a) (place_of z g 3 0) b → Raised z g ls ls'
unfolding phase_of_spec
put-phase z g a b ls ls' some hg fit e el =
    let fit' : room z ≤ length (set ls (place_of z g 2 0) a) = rw length-set fit in
    let low : slot_of z ls' g 2 0 ≡ a = rw el (slot-other z g 3 0 (omega arith) some (set ls (place_of z g 2 0) a) b g 2 0 (omega arith) some (λ _ x _. omega arith) ∙ slot_same z g 2 0 (omega arith) some ls a hg fit) in
    let high : slot_of z ls' g 3 0 ≡ b = rw el (slot_same z g 3 0 (omega arith) some (set ls (place_of z g 2 0) a) b hg fit') in
    record {
      phase = rw (low, high) e;
      rest = λ g' s l hs hl ne. rw el (slot-other z g 3 0 (omega arith) some (set ls (place_of z g 2 0) a) b g' s l hs hl (λ x y _. ne x (inr y)) ∙ slot-other z g 2 0 (omega arith) some ls a g' s l hs hl (λ x y _. ne x (inl y)));
    }

-- lanes stand one line further, one after the other
pub further-none : (z : Sizes) (g : ℕ) (ls : List ℕ) → Further z g 0 ls ls
further-none z g ls = record { on = λ l h. absurd (not-suc-le-zero h); rest = λ _ _ _ _ _ _. refl }

pub further-more : (z : Sizes) (g l line : ℕ) (ls ls' ls'' : List ℕ) → g < z.groups → l < z.lanes → room z ≤ length ls' → line ≡ line_at z ls' g l →
    ls'' ≡ set ls' (place_of z g 0 l) (line + 1) → Further z g l ls ls' → Further z g (l + 1) ls ls''
unfolding line_at
further-more z g l line ls ls' ls'' hg hl fit en e f =
    let other : (g' s l' : ℕ) → s < slots z → l' < z.lanes → (g' ≡ g → s ≡ 0 → l' ≡ l → ⊥) → slot_of z ls'' g' s l' ≡ slot_of z ls' g' s l' =
    λ g' s l' hs hl' ne. rw e (slot-other z g 0 l (omega arith) hl ls' (line + 1) g' s l' hs hl' ne) in
    let here : slot_of z ls'' g 0 l ≡ slot_of z ls g 0 l + 1 = rw (e, slot_same z g 0 l (omega arith) hl ls' (line + 1) hg fit, en, f.rest g 0 l (omega arith) hl (λ _ _ h. omega arith)) in
    record {
      on = λ l' h. by l' h here other (cases_eq l' l);
      rest = λ g' s l' hs hl' ne. other g' s l' hs hl' (λ a b x. ne a b (omega arith)) ∙ f.rest g' s l' hs hl' (λ a b x. ne a b (omega arith));
    }
  where
    by : (l' : ℕ) → l' < l + 1 → slot_of z ls'' g 0 l ≡ slot_of z ls g 0 l + 1 →
        ((g' s l' : ℕ) → s < slots z → l' < z.lanes → (g' ≡ g → s ≡ 0 → l' ≡ l → ⊥) → slot_of z ls'' g' s l' ≡ slot_of z ls' g' s l') →
        (l' ≡ l) ⊎ (l' ≡ l → ⊥) → slot_of z ls'' g 0 l' ≡ slot_of z ls g 0 l' + 1
    by l' h here other (inl x) = rw x here
    by l' h here other (inr ne) = other g 0 l' (omega arith) (omega arith) (λ _ _ x. ne x) ∙ f.on l' (omega arith)

pub further-line : (z : Sizes) (g l : ℕ) (ls ls' : List ℕ) → l < z.lanes → Further z g l ls ls' → line_at z ls' g l ≡ line_at z ls g l
unfolding line_at
further-line z g l ls ls' hl f = f.rest g 0 l (omega arith) hl (λ _ _ h. omega arith)

pub further-phase : (z : Sizes) (g l : ℕ) (ls ls' : List ℕ) → 0 < z.lanes → Further z g l ls ls' → phase_of_spec z ls' g ≡ phase_of_spec z ls g
further-phase z g l ls ls' some f =
    phase-same z ls ls' g (f.rest g 2 0 (omega arith) some (λ _ b _. omega arith)) (f.rest g 3 0 (omega arith) some (λ _ b _. omega arith))

-- lists of lanes
all_from : (f : Body → Bool) (xs : List Lane) → ((i : ℕ) → i < length xs → f (get_or xs i no_lane).left ≡ true) → all_lanes f xs ≡ true
unfolding all_lanes
all_from f [] h = refl
all_from f (x ∷ xs) h = and_from (f x.left) (all_lanes f xs) (h 0 (omega arith)) (all_from f xs (λ i k. h (suc i) (omega arith)))

past-length : (xs : List Lane) → length (all_past xs) ≡ length xs
unfolding all_past
past-length [] = refl
past-length (x ∷ xs) = ap suc (past-length xs)

past-at : (xs : List Lane) (i : ℕ) → i < length xs → get_or (all_past xs) i no_lane ≡ goes_to (get_or xs i no_lane) (past_barrier (get_or xs i no_lane).left)
unfolding all_past
past-at [] i h = absurd (not-suc-le-zero h)
past-at (x ∷ xs) zero h = refl
past-at (x ∷ xs) (suc i) h = past-at xs i (omega arith)

module _ (z : Sizes) (some : 0 < z.lanes) (g : ℕ) (hg : g < z.groups) (ls ls' ls'' : List ℕ) (f : Further z g z.lanes ls ls') (r : Raised z g ls' ls'') where
  slot-as : (g' s l : ℕ) → s < slots z → l < z.lanes → (g' ≡ g → (s ≡ 0) ⊎ (s ≡ 2) ⊎ (s ≡ 3) → ⊥) → slot_of z ls'' g' s l ≡ slot_of z ls g' s l
  slot-as g' s l hs hl ne = r.rest g' s l hs hl (λ a b. ne a (inr b)) ∙ f.rest g' s l hs hl (λ a b _. ne a (inl b))

  line_on : (l : ℕ) → l < z.lanes → line_at z ls'' g l ≡ line_at z ls g l + 1
  unfolding line_at
  line_on l hl = r.rest g 0 l (omega arith) hl (λ _ b. none b) ∙ f.on l hl
    where
      none : ◌≡◌ {A = ℕ} 0 2 ⊎ ◌≡◌ {A = ℕ} 0 3 → ⊥
      none (inl x) = omega arith
      none (inr x) = omega arith

  phase-on : phase_of_spec z ls'' g ≡ phase_of_spec z ls g + 1
  phase-on =
      r.phase ∙ ap (λ n. n + 1) (further-phase z g z.lanes ls ls' some f)

  phase-else : (g' : ℕ) → (g' ≡ g → ⊥) → phase_of_spec z ls'' g' ≡ phase_of_spec z ls g'
  phase-else g' ne =
      phase-same z ls ls'' g' (slot-as g' 2 0 (omega arith) some (λ a _. ne a)) (slot-as g' 3 0 (omega arith) some (λ a _. ne a))

  lane-as : (at : ℕ → Body) (g' l : ℕ) → l < z.lanes → (g' ≡ g → ⊥) → lane_at z at ls'' g' l ≡ lane_at z at ls g' l
  lane-as at g' l hl ne = lane-same z at ls ls'' g' l (λ s hs _. slot-as g' s l hs hl (λ a _. ne a))

  lane_on_spec : (at : ℕ → Body) (l : ℕ) → l < z.lanes → lane_at z at ls'' g l ≡ goes_to (lane_at z at ls g l) (at (line_at z ls g l + 1))
  unfolding lane_at own_of
  lane_on_spec at l hl =
      lane_is z at ls'' g l (goes_to (lane_at z at ls g l) (at (line_at z ls g l + 1)))
      (upto-same 0 _ _ z.owns (λ j h. slot-as g (128 + j) l (omega arith) hl (λ _ b. high j b)))
      (ap at (line_on l hl)) (ap (λ n. eqb n 1) (slot-as g 1 l (omega arith) hl (λ _ b. one b)))
    where
      high : (j : ℕ) → (128 + j ≡ 0) ⊎ (128 + j ≡ 2) ⊎ (128 + j ≡ 3) → ⊥
      high j (inl x) = omega arith
      high j (inr (inl x)) = omega arith
      high j (inr (inr x)) = omega arith

      one : ◌≡◌ {A = ℕ} 1 0 ⊎ ◌≡◌ {A = ℕ} 1 2 ⊎ ◌≡◌ {A = ℕ} 1 3 → ⊥
      one (inl x) = omega arith
      one (inr (inl x)) = omega arith
      one (inr (inr x)) = omega arith

  module _ (at : ℕ → Body) (cs : List ℕ) (bar : (l : ℕ) → l < z.lanes → at (line_at z ls g l) ≡ barrier (at (line_at z ls g l + 1))) where
    left_is : (l : ℕ) → l < z.lanes → (lane_at z at ls g l).left ≡ barrier (at (line_at z ls g l + 1))
    unfolding lane_at
    left_is l h = bar l h

    past_is : (l : ℕ) → l < z.lanes → past_barrier (lane_at z at ls g l).left ≡ at (line_at z ls g l + 1)
    unfolding past_barrier
    past_is l h = ap past_barrier (left_is l h)

    lanes-past : upto (lane_at z at ls'' g) z.lanes ≡ all_past (upto (lane_at z at ls g) z.lanes)
    lanes-past =
        sym (upto_is no_lane (lane_at z at ls'' g) z.lanes (all_past (upto (lane_at z at ls g) z.lanes)) (past-length (upto (lane_at z at ls g) z.lanes) ∙ upto-length (lane_at z at ls g) z.lanes)
        (λ l h. let p : l < length (upto (lane_at z at ls g) z.lanes) = rw upto-length h in
        past-at (upto (lane_at z at ls g) z.lanes) l p ∙ rw (upto-at no_lane (lane_at z at ls g) z.lanes l h) (ap (goes_to (lane_at z at ls g l)) (past_is l h) ∙ sym (lane_on_spec at l h))))

    waits : (l : ℕ) → l < z.lanes → at_barrier (lane_at z at ls g l).left ≡ true
    unfolding at_barrier
    waits l h = ap at_barrier (left_is l h)

    all-wait : all_lanes at_barrier (upto (lane_at z at ls g) z.lanes) ≡ true
    all-wait = all_from at_barrier (upto (lane_at z at ls g) z.lanes)
        (λ l h. let p : l < z.lanes = rw upto-length at h in rw (upto-at no_lane (lane_at z at ls g) z.lanes l p) (waits l p))

    pub can-go : can z.lanes (grid_of z at ls cs) (release g) ≡ true
    unfolding can group_at
    can-go = let p : g < length (grid_of z at ls cs).groups_of = rw (groups-long z at ls cs) hg in rw (lt-ltb g _ p, the-group-is z at ls cs g hg, all-wait)

    group-on : group_at z at ls'' g ≡ gone_on (group_at z at ls g)
    unfolding group_at
    group-on = group_is _ _ _ _ lanes-past (phase-on ∙ rw add-one refl)

    group-as : (g' : ℕ) → (g' ≡ g → ⊥) → group_at z at ls'' g' ≡ group_at z at ls g'
    unfolding group_at
    group-as g' ne = group_is _ _ _ _ (upto-same no_lane (lane_at z at ls'' g') (lane_at z at ls g') z.lanes (λ l h. lane-as at g' l h ne)) (phase-else g' ne)

    groups-on : grid_of z at ls'' cs ≡ record { groups_of = set (grid_of z at ls cs).groups_of g (gone_on (group_at z at ls g)); memory = memory_of z cs }
    unfolding grid_of
    groups-on = ap (λ (gs : List Group). record { groups_of = gs; memory = memory_of z cs })
        (upto-set no_group (group_at z at ls) (group_at z at ls'') z.groups g (gone_on (group_at z at ls g)) group-on (λ j _ ne. group-as j ne))

    pub went_on : grid_of z at ls'' cs ≡ turn z.lanes (grid_of z at ls cs) (release g)
    unfolding turn did
    went_on = groups-on ∙ rw (can-go, the-group-is z at ls cs g hg, grid-memory z at ls cs)

  line-else : (g' l : ℕ) → l < z.lanes → (g' ≡ g → ⊥) → line_at z ls'' g' l ≡ line_at z ls g' l
  unfolding line_at
  line-else g' l hl ne = slot-as g' 0 l (omega arith) hl (λ a _. ne a)

  lined_on : (most : ℕ) → ((l : ℕ) → l < z.lanes → line_at z ls g l + 1 < most) → Lined z most ls → Lined z most ls''
  unfolding Lined
  lined_on most h old g' l hg' hl = by (cases_eq g' g)
    where
      by : (g' ≡ g) ⊎ (g' ≡ g → ⊥) → line_at z ls'' g' l < most
      by (inl x) = rw (x, line_on l hl) (h l hl)
      by (inr ne) = rw (line-else g' l hl ne) (old g' l hg' hl)

  pub released : (cs : List ℕ) → Released z g ls cs ls''
  released cs =
      record {
        lines = line_on;
        rest = slot-as;
        phase = phase-on;
        lined = lined_on;
        could = λ at bar. can-go at cs bar;
        grid = λ at bar. went_on at cs bar;
      }
