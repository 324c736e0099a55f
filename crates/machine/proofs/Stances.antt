-- What the step where a lane stands says of what it can do.
use Rattle.std.proofs.Common.{◌≡◌, ℕ, zero, suc, ◌<◌, ◌≤◌, Bool, true, false, ◌&&◌, ◌⊎◌, List, [], ◌∷◌, length, get_or, sym, refl, subst, inl, inr, arith}
use denote.Enum.Bare.{sameb}
use Rattle.std.proofs.lemmas.Bool.{lt-ltb, both_ways}
use Rattle.std.proofs.lemmas.Bool.Decides.{nat_tests}
use Rattle.lanes.specs.Syntax.{Body, at_barrier, ended}
use Rattle.lanes.specs.Step.{Lane, stepping}
use Rattle.lanes.specs.Grid.{of, release, can, the_group, no_lane, all_lanes}
use Rattle.code.specs.declared.step.Step.{Step}
use Rattle.code.specs.declared.step.Step.TheVariants.{Put, Read, Write, Branch, Jump, Barrier, End}
use Rattle.code.specs.Code.{Does, Coded, Settled, is_jump}
use Rattle.store.specs.declared.Sizes.{Sizes}
use Rattle.store.specs.Lent.{grid_of, group_at, lane_at, line_at}
use Rattle.store.proofs.Upto.{upto-at, upto-length}
use Rattle.store.proofs.Grids.{the-group-is, the-lane-is, groups-long}
use Rattle.machine.specs.declared.look.Stance.{Stance}
use Rattle.machine.specs.declared.look.Stance.TheVariants.{Steps, Waits, Ended}
use Rattle.machine.specs.contracts.look.Stance.{the_type}
use Rattle.machine.specs.Choices.{StanceIs, stance_of_spec}

-- what a comparison of stances says
pub steps-is : (s : Stance) (b : Body) → StanceIs b s → sameb the_type s Steps ≡ stepping b
steps-is Steps b h = sym h.0
steps-is Waits b h = sym h.0
steps-is Ended b h = sym h.0

pub waits-is : (s : Stance) (b : Body) → StanceIs b s → sameb the_type s Waits ≡ at_barrier b
waits-is Steps b h = sym h.1
waits-is Waits b h = sym h.1
waits-is Ended b h = sym h.1

module _ (N : ℕ → List ℕ → Type 0) (text : List ℕ) (at : ℕ → Body) where
  does-stance : (s : Step) (b : Body) → is_jump s ≡ false → Does N text at s b → StanceIs b (stance_of_spec s)
  unfolding at_barrier ended
  does-stance (Put k x i) b j (e, st, q) = rw q (refl, refl)
  does-stance (Read true k x i) b j (e, st, q) = rw q (refl, refl)
  does-stance (Read false k x i) b j (e, st, q) = rw q (refl, refl)
  does-stance (Write true x y i) b j (e, f, st, su, q) = rw q (refl, refl)
  does-stance (Write false x y i) b j (e, f, st, su, q) = rw q (refl, refl)
  does-stance (Branch x y n k false) b j (e, st, q) = rw q.is (refl, refl)
  does-stance (Branch x y n k true) b j (e, st, q) = rw q.is (refl, refl)
  does-stance (Jump i) b j d = absurd (both_ways true j refl)
  does-stance (Barrier i) b j d = rw d (refl, refl)
  does-stance End b j d = rw d (refl, refl)

  pub settled-stance : (owns lines i r : ℕ) (code : ℕ → Step) → Coded N text owns lines at code → Settled at code lines i r → StanceIs (at i) (stance_of_spec (code r))
  settled-stance owns lines i r code k s = subst (λ (b : Body). StanceIs b (stance_of_spec (code r))) s.left (does-stance (code r) (at r) s.stays (k.does r s.within))

and-false : (b : Bool) → (b && false) ≡ false
and-false true = refl
and-false false = refl

-- not all, if one doesn't; and all, if each does
one-not : (f : Body → Bool) (xs : List Lane) (l : ℕ) → l < length xs → f (get_or xs l no_lane).left ≡ false → all_lanes f xs ≡ false
unfolding all_lanes
one-not f [] l h e = absurd (omega arith)
one-not f (x ∷ xs) zero h e = rw e
one-not f (x ∷ xs) (suc l) h e = rw (one-not f xs l (omega arith) e) (and-false (f x.left))

pub all_of : (f : Body → Bool) (xs : List Lane) → ((l : ℕ) → l < length xs → f (get_or xs l no_lane).left ≡ true) → all_lanes f xs ≡ true
unfolding all_lanes
all_of f [] h = refl
all_of f (x ∷ xs) h = rw (h 0 (omega arith)) (all_of f xs (λ l k. h (suc l) (omega arith)))

-- the lanes and groups of the grid that the slices stand for
module _ (z : Sizes) (at : ℕ → Body) (ls cs : List ℕ) where
  pub can-of : (g l : ℕ) → g < z.groups → l < z.lanes → can z.lanes (grid_of z at ls cs) (of g l) ≡ stepping (at (line_at z ls g l))
  unfolding can lane_at
  can-of g l hg hl = let p : g < length (grid_of z at ls cs).groups_of = rw (groups-long z at ls cs) hg in rw (lt-ltb g _ p, lt-ltb l _ hl, the-lane-is z at ls cs g l hg hl)

  pub can-outside : (g l : ℕ) → (z.groups ≤ g) ⊎ (z.lanes ≤ l) → can z.lanes (grid_of z at ls cs) (of g l) ≡ false
  unfolding can
  can-outside g l (inl h) = let p : length (grid_of z at ls cs).groups_of ≤ g = rw (groups-long z at ls cs) h in grind (arith, nat_tests)
  can-outside g l (inr h) = grind (arith, nat_tests)

  pub cannot-outside : (g : ℕ) → z.groups ≤ g → can z.lanes (grid_of z at ls cs) (release g) ≡ false
  unfolding can
  cannot-outside g h = let p : length (grid_of z at ls cs).groups_of ≤ g = rw (groups-long z at ls cs) h in grind (arith, nat_tests)

  pub lanes-long : (g : ℕ) → g < z.groups → length (the_group (grid_of z at ls cs) g).lanes_of ≡ z.lanes
  unfolding group_at
  lanes-long g hg = rw (the-group-is z at ls cs g hg) (upto-length (lane_at z at ls g) z.lanes)

  pub lane-left : (g l : ℕ) → g < z.groups → l < z.lanes → (get_or (the_group (grid_of z at ls cs) g).lanes_of l no_lane).left ≡ at (line_at z ls g l)
  unfolding group_at lane_at
  lane-left g l hg hl = rw (the-group-is z at ls cs g hg, upto-at no_lane (lane_at z at ls g) z.lanes l hl)

  pub cannot-go : (g l : ℕ) → g < z.groups → l < z.lanes → at_barrier (at (line_at z ls g l)) ≡ false → can z.lanes (grid_of z at ls cs) (release g) ≡ false
  unfolding can
  cannot-go g l hg hl e =
      let h : l < length (the_group (grid_of z at ls cs) g).lanes_of = rw (lanes-long g hg) hl in
      let q = one-not at_barrier (the_group (grid_of z at ls cs) g).lanes_of l h (rw (lane-left g l hg hl) e) in
      rw q (and-false _)

  pub can-go : (g : ℕ) → g < z.groups → ((l : ℕ) → l < z.lanes → at_barrier (at (line_at z ls g l)) ≡ true) → can z.lanes (grid_of z at ls cs) (release g) ≡ true
  unfolding can
  can-go g hg all =
      let p : g < length (grid_of z at ls cs).groups_of = rw (groups-long z at ls cs) hg in
      let q = all_of at_barrier (the_group (grid_of z at ls cs) g).lanes_of (λ l h. let k : l < z.lanes = rw (lanes-long g hg) at h in rw (lane-left g l hg k) (all l k)) in
      rw (lt-ltb g _ p, q)
