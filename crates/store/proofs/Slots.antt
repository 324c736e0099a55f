-- Each slot of a lane has a place of its own; slots and lanes under a write to one slot.
use Rattle.std.proofs.Common.{◌≡◌, ℕ, ◌+◌, ◌-◌, ◌*◌, ◌<◌, ◌≤◌, true, eqb, ◌⊎◌, List, length, get_or, set, refl, ap, ◌∙◌, inl, inr, add-mul, arith, length-set, get_or-set_other, get_or-set_same}
use lib.Arith.{digits_lt}
use Rattle.std.proofs.lemmas.Bool.{cases_eq}
use Rattle.lanes.specs.Syntax.{Body}
use Rattle.lanes.specs.Step.{Lane, with_own, goes_to}
use Rattle.store.specs.declared.Sizes.{Sizes}
use Rattle.store.specs.Layout.{slots, place_of, room}
use Rattle.store.specs.Lent.{slot_of, line_at, own_of, lane_at, phase_of_spec, Lined, Only}
use Rattle.store.proofs.Upto.{upto-at, upto-same, upto-set, digits_same}

pub place-lt : (z : Sizes) (g s l : ℕ) → g < z.groups → s < slots z → l < z.lanes → place_of z g s l < room z
unfolding place_of room
place-lt z g s l hg hs hl = digits_lt (digits_lt hg hs) hl

pub place_same : (z : Sizes) (g s l g' s' l' : ℕ) → s < slots z → s' < slots z → l < z.lanes → l' < z.lanes →
    place_of z g s l ≡ place_of z g' s' l' → (g ≡ g') × (s ≡ s') × (l ≡ l')
unfolding place_of
place_same z g s l g' s' l' hs hs' hl hl' e =
    let p = digits_same z.lanes (g * slots z + s) (g' * slots z + s') l l' hl hl' e in
    let q = digits_same (slots z) g g' s s' hs hs' p.0 in
    (q.0, q.1, p.1)

-- own numbers lie one stride apart
pub own-place : (z : Sizes) (g k l i : ℕ) → place_of z g (128 + k) (l + i) ≡ place_of z g 128 l + k * z.lanes + i
unfolding place_of
own-place z g k l i =
    let p : g * slots z + (128 + k) ≡ (g * slots z + 128) + k = omega arith in
    rw (p, add-mul (g * slots z + 128) k z.lanes) (omega arith)

pub own_range : (z : Sizes) (g k l width : ℕ) → g < z.groups → k < z.owns → l < z.lanes → l + width ≤ z.lanes → place_of z g 128 l + k * z.lanes + width ≤ room z
own_range z g k l width hg hk hl hw =
    let i = z.lanes - l - 1 in
    let e : l + i ≡ z.lanes - 1 = omega arith in
    let p = place-lt z g (128 + k) (l + i) hg (omega arith) (omega arith) in
    let q = own-place z g k l i in
    omega arith

pub own_slot : (z : Sizes) (ls : List ℕ) (g l k : ℕ) → k < z.owns → get_or (own_of z ls g l) k 0 ≡ slot_of z ls g (128 + k) l
unfolding own_of
own_slot z ls g l k h = upto-at 0 (λ j. slot_of z ls g (128 + j) l) z.owns k h

pub own_at : (z : Sizes) (ls : List ℕ) (g l i k : ℕ) → k < z.owns → get_or (own_of z ls g (l + i)) k 0 ≡ get_or ls (place_of z g 128 l + k * z.lanes + i) 0
unfolding slot_of
own_at z ls g l i k h = own_slot z ls g (l + i) k h ∙ ap (λ p. get_or ls p 0) (own-place z g k l i)

-- slots after a write to one
module _ (z : Sizes) (g s l : ℕ) (hs : s < slots z) (hl : l < z.lanes) where
  pub slot-other : (ls : List ℕ) (v g' s' l' : ℕ) → s' < slots z → l' < z.lanes → (g' ≡ g → s' ≡ s → l' ≡ l → ⊥) →
      slot_of z (set ls (place_of z g s l) v) g' s' l' ≡ slot_of z ls g' s' l'
  unfolding slot_of
  slot-other ls v g' s' l' hs' hl' ne =
      get_or-set_other ls (place_of z g s l) (place_of z g' s' l') v 0
      (λ e. let p = place_same z g' s' l' g s l hs' hs hl' hl e in ne p.0 p.1 p.2)

  pub slot_same : (ls : List ℕ) (v : ℕ) → g < z.groups → room z ≤ length ls → slot_of z (set ls (place_of z g s l) v) g s l ≡ v
  unfolding slot_of
  slot_same ls v hg fit = let p = place-lt z g s l hg hs hl in let h : place_of z g s l < length ls = omega arith in get_or-set_same ls (place_of z g s l) v 0 h

-- a lane is its slots
pub lane_is : (z : Sizes) (at : ℕ → Body) (ls : List ℕ) (g l : ℕ) (x : Lane) → own_of z ls g l ≡ x.own → at (line_at z ls g l) ≡ x.left →
    eqb (slot_of z ls g 1 l) 1 ≡ x.wrong → lane_at z at ls g l ≡ x
unfolding lane_at
lane_is z at ls g l x p q r = rw (p, q, r)

-- lanes with the same slots
pub lane-same : (z : Sizes) (at : ℕ → Body) (ls ls' : List ℕ) (g l : ℕ) →
    ((s : ℕ) → s < slots z → (s < 2) ⊎ (128 ≤ s) → slot_of z ls' g s l ≡ slot_of z ls g s l) → lane_at z at ls' g l ≡ lane_at z at ls g l
unfolding lane_at own_of line_at
lane-same z at ls ls' g l h =
    lane_is z at ls' g l (lane_at z at ls g l)
    (upto-same 0 _ _ z.owns (λ i k. h (128 + i) (omega arith) (inr (omega arith))))
    (ap at (h 0 (omega arith) (inl (omega arith))))
    (ap (λ n. eqb n 1) (h 1 (omega arith) (inl (omega arith))))

pub own_same : (z : Sizes) (ls ls' : List ℕ) (g l : ℕ) → ((s : ℕ) → s < slots z → (s < 2) ⊎ (128 ≤ s) → slot_of z ls' g s l ≡ slot_of z ls g s l) →
    own_of z ls' g l ≡ own_of z ls g l
unfolding own_of
own_same z ls ls' g l h = upto-same 0 _ _ z.owns (λ i k. h (128 + i) (omega arith) (inr (omega arith)))

pub phase-same : (z : Sizes) (ls ls' : List ℕ) (g : ℕ) → slot_of z ls' g 2 0 ≡ slot_of z ls g 2 0 → slot_of z ls' g 3 0 ≡ slot_of z ls g 3 0 →
    phase_of_spec z ls' g ≡ phase_of_spec z ls g
unfolding phase_of_spec
phase-same z ls ls' g p q = rw (p, q)

module _ (z : Sizes) (at : ℕ → Body) (g l : ℕ) (hg : g < z.groups) (hl : l < z.lanes) (ls : List ℕ) (fit : room z ≤ length ls) where
  -- the line is written
  pub lane-line : (i : ℕ) → lane_at z at (set ls (place_of z g 0 l) i) g l ≡ goes_to (lane_at z at ls g l) (at i)
  unfolding lane_at own_of line_at
  lane-line i =
      lane_is z at (set ls (place_of z g 0 l) i) g l (goes_to (lane_at z at ls g l) (at i))
      (upto-same 0 _ _ z.owns (λ j h. slot-other z g 0 l (omega arith) hl ls i g (128 + j) l (omega arith) hl (λ _ e _. omega arith)))
      (ap at (slot_same z g 0 l (omega arith) hl ls i hg fit))
      (ap (λ n. eqb n 1) (slot-other z g 0 l (omega arith) hl ls i g 1 l (omega arith) hl (λ _ e _. omega arith)))

  -- an own number is written
  pub lane-own : (j v : ℕ) → j < z.owns → lane_at z at (set ls (place_of z g (128 + j) l) v) g l ≡ with_own (lane_at z at ls g l) j v
  unfolding lane_at own_of line_at
  lane-own j v hj =
      let hs : 128 + j < slots z = omega arith in
      lane_is z at (set ls (place_of z g (128 + j) l) v) g l (with_own (lane_at z at ls g l) j v)
      (upto-set 0 _ _ z.owns j v (slot_same z g (128 + j) l hs hl ls v hg fit)
      (λ i h ne. slot-other z g (128 + j) l hs hl ls v g (128 + i) l (omega arith) hl (λ _ e _. ne (omega arith))))
      (ap at (slot-other z g (128 + j) l hs hl ls v g 0 l (omega arith) hl (λ _ e _. omega arith)))
      (ap (λ n. eqb n 1) (slot-other z g (128 + j) l hs hl ls v g 1 l (omega arith) hl (λ _ e _. omega arith)))

  -- it is marked as wrong
  pub lane-wrong : lane_at z at (set ls (place_of z g 1 l) 1) g l ≡ record { own = (lane_at z at ls g l).own; left = (lane_at z at ls g l).left; wrong = true }
  unfolding lane_at own_of line_at
  lane-wrong =
      lane_is z at (set ls (place_of z g 1 l) 1) g l (record { own = (lane_at z at ls g l).own; left = (lane_at z at ls g l).left; wrong = true })
      (upto-same 0 _ _ z.owns (λ j h. slot-other z g 1 l (omega arith) hl ls 1 g (128 + j) l (omega arith) hl (λ _ e _. omega arith)))
      (ap at (slot-other z g 1 l (omega arith) hl ls 1 g 0 l (omega arith) hl (λ _ e _. omega arith)))
      (ap (λ n. eqb n 1) (slot_same z g 1 l (omega arith) hl ls 1 hg fit))

-- only one lane changes
pub only_none : (z : Sizes) (g l : ℕ) (ls : List ℕ) → Only z g l ls ls
only_none z g l ls = record { others = λ _ _ _ _ _ _. refl; words = λ _ _ _ _ _ _. refl }

pub only-both : (z : Sizes) (g l : ℕ) (ls ls' ls'' : List ℕ) → Only z g l ls ls' → Only z g l ls' ls'' → Only z g l ls ls''
only-both z g l ls ls' ls'' p q =
    record {
      others = λ g' s l' hs hl ne. q.others g' s l' hs hl ne ∙ p.others g' s l' hs hl ne;
      words = λ g' s l' h2 hs hl. q.words g' s l' h2 hs hl ∙ p.words g' s l' h2 hs hl;
    }

pub only-slot : (z : Sizes) (g s l : ℕ) (ls ls' : List ℕ) (v : ℕ) → s < slots z → (s < 2) ⊎ (128 ≤ s) → l < z.lanes → ls' ≡ set ls (place_of z g s l) v → Only z g l ls ls'
only-slot z g s l ls ls' v hs (inl two) hl e =
    record {
      others = λ g' s' l' hs' hl' ne. rw e (slot-other z g s l hs hl ls v g' s' l' hs' hl' (λ a _ b. ne a b));
      words = λ g' s' l' h2 h hl'. rw e (slot-other z g s l hs hl ls v g' s' l' (omega arith) hl' (λ _ a _. omega arith));
    }
only-slot z g s l ls ls' v hs (inr own) hl e =
    record {
      others = λ g' s' l' hs' hl' ne. rw e (slot-other z g s l hs hl ls v g' s' l' hs' hl' (λ a _ b. ne a b));
      words = λ g' s' l' h2 h hl'. rw e (slot-other z g s l hs hl ls v g' s' l' (omega arith) hl' (λ _ a _. omega arith));
    }

-- lines stay lines
module _ (z : Sizes) (g l lines : ℕ) (hl : l < z.lanes) (ls : List ℕ) where
  pub lined-line : (i : ℕ) → room z ≤ length ls → i < lines → Lined z lines ls → Lined z lines (set ls (place_of z g 0 l) i)
  unfolding Lined line_at
  lined-line i fit hi h g' l' hg' hl' = by (cases_eq g' g) (cases_eq l' l)
    where
      by : (g' ≡ g) ⊎ (g' ≡ g → ⊥) → (l' ≡ l) ⊎ (l' ≡ l → ⊥) → slot_of z (set ls (place_of z g 0 l) i) g' 0 l' < lines
      by (inl a) (inl b) = rw (a, b, slot_same z g 0 l (omega arith) hl ls i (rw a at hg') fit) hi
      by (inl a) (inr ne) = rw (slot-other z g 0 l (omega arith) hl ls i g' 0 l' (omega arith) hl' (λ _ _ e. ne e)) (h g' l' hg' hl')
      by (inr ne) b = rw (slot-other z g 0 l (omega arith) hl ls i g' 0 l' (omega arith) hl' (λ e _ _. ne e)) (h g' l' hg' hl')

  pub lined-slot : (s v : ℕ) → s < slots z → (0 ≡ s → ⊥) → Lined z lines ls → Lined z lines (set ls (place_of z g s l) v)
  unfolding Lined line_at
  lined-slot s v hs ne h g' l' hg' hl' = rw (slot-other z g s l hs hl ls v g' 0 l' (omega arith) hl' (λ _ e _. ne e)) (h g' l' hg' hl')

pub lined-twice : (z : Sizes) (g l lines : ℕ) (hl : l < z.lanes) (ls ls' : List ℕ) (s v i : ℕ) → room z ≤ length ls → s < slots z → (0 ≡ s → ⊥) → i < lines →
    ls' ≡ set (set ls (place_of z g s l) v) (place_of z g 0 l) i → Lined z lines ls → Lined z lines ls'
lined-twice z g l lines hl ls ls' s v i fit hs ne hi e h =
    let f : room z ≤ length (set ls (place_of z g s l) v) = rw length-set fit in
    rw e (lined-line z g l lines hl (set ls (place_of z g s l) v) i f hi (lined-slot z g l lines hl ls s v hs ne h))
