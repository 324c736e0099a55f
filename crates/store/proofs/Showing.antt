-- Grids that differ only in own numbers of lanes that have ended show the same to be told.
use Rattle.std.proofs.Common.{◌≡◌, ℕ, zero, suc, ◌<◌, Bool, true, false, ◌⊎◌, List, [], ◌∷◌, ◌++◌, map, length, get_or, sym, refl, ap, ◌∙◌, inl, inr, not-suc-le-zero, arith, get_or-set_other}
use lib.ListN.{length-map}
use Rattle.std.proofs.lemmas.Bool.{cases_Bool, and_parts, both_ways, not-true, or_parts}
use Rattle.lanes.specs.Syntax.{Body, ended, at_barrier}
use Rattle.lanes.specs.Step.{Lane, stepping}
use Rattle.lanes.specs.Grid.{Group, Grid, Turn, of, release, the_group, the_lane, can, did, turn, turns, all_lanes, all_ended, gone_on, no_group, no_lane}
use Rattle.lanes.specs.Told.{Told, cells, races, missing, stuck, too_long, NoneWrong, Shows}
use Rattle.lanes.proofs.Places.{at-keeps}
use Rattle.lanes.proofs.Turns.{move, turn-did, turn-idle, turns-append, did-lanes, not-both}
use Rattle.store.specs.Ended.{forget_lane, forget_group, forget, EndedFree}
use Rattle.store.proofs.Upto.{upto_is}
use Rattle.store.proofs.Grids.{group_is}
use Rattle.store.proofs.Forgets.{kept-lane, group-forgot, lane-forgot, all-forgot, can-forgot, turns-alike, marked-alike, steps_alike, grid-alike}

-- a lane that has ended stays as it is
all-at : (f : Body → Bool) (xs : List Lane) (l : ℕ) → l < length xs → all_lanes f xs ≡ true → f (get_or xs l no_lane).left ≡ true
unfolding all_lanes
all-at f [] l h e = absurd (not-suc-le-zero h)
all-at f (x ∷ xs) zero h e = (and_parts (f x.left) (all_lanes f xs) e).0
all-at f (x ∷ xs) (suc l) h e = all-at f xs l (omega arith) (and_parts (f x.left) (all_lanes f xs) e).1

module _ (n : ℕ) (d : Grid) (g l : ℕ) (hl : l < length (the_group d g).lanes_of) (e : ended (the_lane d g l).left ≡ true) where
  still-of : (h k : ℕ) → can n d (of h k) ≡ true → g ≡ h → l ≡ k → ⊥
  unfolding can
  still-of h k c a b =
      let s : stepping (the_lane d g l).left ≡ true = rw (a, b) (and_parts _ _ c).1 in
      both_ways (ended (the_lane d g l).left) (or_parts (at_barrier (the_lane d g l).left) (ended (the_lane d g l).left) (not-true _ s)).1 e

  still-release : (h : ℕ) → can n d (release h) ≡ true → h ≡ g → ⊥
  unfolding can the_lane
  still-release h c a =
      let w : all_lanes at_barrier (the_group d g).lanes_of ≡ true = rw (sym a) (and_parts _ _ c).1 in
      not-both (get_or (the_group d g).lanes_of l no_lane).left (all-at at_barrier (the_group d g).lanes_of l hl w) e

  ended-did : (t : Turn) → can n d t ≡ true → the_lane (did n d t) g l ≡ the_lane d g l
  unfolding the_lane the_group did
  ended-did (of h k) c =
      at-keeps no_group (λ (q : Group). get_or q.lanes_of l no_lane) d.groups_of h g (move k _) (λ a q. get_or-set_other q.lanes_of k l _ no_lane (λ b. still-of h k c (sym a) b))
  ended-did (release h) c = at-keeps no_group (λ (q : Group). get_or q.lanes_of l no_lane) d.groups_of h g gone_on (λ a q. absurd (still-release h c a))

  ended-turn : (t : Turn) → (the_lane (turn n d t) g l ≡ the_lane d g l) × (length (the_group (turn n d t) g).lanes_of ≡ length (the_group d g).lanes_of)
  ended-turn t = by (cases_Bool (can n d t))
    where
      by : (can n d t ≡ true) ⊎ (can n d t ≡ false) → (the_lane (turn n d t) g l ≡ the_lane d g l) × (length (the_group (turn n d t) g).lanes_of ≡ length (the_group d g).lanes_of)
      by (inl c) = rw (turn-did n d t c) (ended-did t c, did-lanes n d t g)
      by (inr c) = rw (turn-idle n d t c) (refl, refl)

ended-turns : (n : ℕ) (us : List Turn) (d : Grid) (g l : ℕ) → l < length (the_group d g).lanes_of → ended (the_lane d g l).left ≡ true → the_lane (turns n d us) g l ≡ the_lane d g l
unfolding turns
ended-turns n [] d g l h e = refl
ended-turns n (t ∷ us) d g l h e =
    let p = ended-turn n d g l h e t in
    let h' : l < length (the_group (turn n d t) g).lanes_of = let q = p.1 in omega arith in
    ended-turns n us (turn n d t) g l h' (rw p.0 e) ∙ p.0

-- a group that is the same but for what is forgotten, after turns, is the same
module _ (n : ℕ) (a : Grid) (us : List Turn) (g : ℕ) (same : forget_group (the_group (turns n a us) g) ≡ forget_group (the_group a g)) where
  lanes-long : length (the_group (turns n a us) g).lanes_of ≡ length (the_group a g).lanes_of
  lanes-long =
      sym (length-map (the_group (turns n a us) g).lanes_of forget_lane) ∙ (ap (λ (q : Group). length q.lanes_of) same ∙ length-map (the_group a g).lanes_of forget_lane)

  lane-of-group : (l : ℕ) → the_lane (forget (turns n a us)) g l ≡ the_lane (forget a) g l
  unfolding the_lane
  lane-of-group l = ap (λ (q : Group). get_or q.lanes_of l no_lane) (group-forgot (turns n a us) g ∙ (same ∙ sym (group-forgot a g)))

  lane-left : (l : ℕ) → forget_lane (the_lane (turns n a us) g l) ≡ forget_lane (the_lane a g l)
  lane-left l = sym (lane-forgot (turns n a us) g l) ∙ (lane-of-group l ∙ lane-forgot a g l)

  lane-stays : (l : ℕ) → l < length (the_group a g).lanes_of → the_lane (turns n a us) g l ≡ the_lane a g l
  lane-stays l h = by (cases_Bool (ended (the_lane a g l).left))
    where
      by : (ended (the_lane a g l).left ≡ true) ⊎ (ended (the_lane a g l).left ≡ false) → the_lane (turns n a us) g l ≡ the_lane a g l
      by (inl e) = ended-turns n us a g l h e
      by (inr e) =
          let f : ended (the_lane (turns n a us) g l).left ≡ false = ap (λ (x : Lane). ended x.left) (lane-left l) ∙ e in
          sym (kept-lane (the_lane (turns n a us) g l) f) ∙ (lane-left l ∙ kept-lane (the_lane a g l) e)

  lanes-stay : (l : ℕ) → l < length (the_group a g).lanes_of → get_or (the_group (turns n a us) g).lanes_of l no_lane ≡ get_or (the_group a g).lanes_of l no_lane
  unfolding the_lane
  lanes-stay l h = lane-stays l h

  pub group-stays : the_group (turns n a us) g ≡ the_group a g
  group-stays =
      group_is _ _ _ _
      (upto_is no_lane (λ l. get_or (the_group a g).lanes_of l no_lane) (length (the_group a g).lanes_of) (the_group (turns n a us) g).lanes_of lanes-long lanes-stay
      ∙ sym (upto_is no_lane (λ l. get_or (the_group a g).lanes_of l no_lane) (length (the_group a g).lanes_of) (the_group a g).lanes_of refl (λ _ _. refl)))
      (ap (λ (q : Group). q.phase) same)

-- what is forgotten says nothing of ends, wrong lanes, waiting and memory
all_ended-forgot : (gs : List Group) → all_ended (map forget_group gs) ≡ all_ended gs
unfolding all_ended
all_ended-forgot [] = refl
all_ended-forgot (q ∷ gs) = rw (all-forgot ended q.lanes_of, all_ended-forgot gs)

module _ (a b : Grid) (e : forget a ≡ forget b) where
  ended_same : all_ended a.groups_of ≡ all_ended b.groups_of
  ended_same = sym (all_ended-forgot a.groups_of) ∙ (ap (λ (x : Grid). all_ended x.groups_of) e ∙ all_ended-forgot b.groups_of)

  group-same : (g : ℕ) → forget_group (the_group a g) ≡ forget_group (the_group b g)
  group-same g = sym (group-forgot a g) ∙ (ap (λ (x : Grid). the_group x g) e ∙ group-forgot b g)

  lane-same : (g l : ℕ) → forget_lane (the_lane a g l) ≡ forget_lane (the_lane b g l)
  lane-same g l = sym (lane-forgot a g l) ∙ (ap (λ (x : Grid). the_lane x g l) e ∙ lane-forgot b g l)

  wrong-same : (g l : ℕ) → (the_lane a g l).wrong ≡ (the_lane b g l).wrong
  wrong-same g l = ap (λ (x : Lane). x.wrong) (lane-same g l)

  left-same : (g l : ℕ) → (the_lane a g l).left ≡ (the_lane b g l).left
  left-same g l = ap (λ (x : Lane). x.left) (lane-same g l)

  long_same : length a.groups_of ≡ length b.groups_of
  long_same = sym (length-map a.groups_of forget_group) ∙ (ap (λ (x : Grid). length x.groups_of) e ∙ length-map b.groups_of forget_group)

  can-same : (n : ℕ) (t : Turn) → can n a t ≡ can n b t
  can-same n t = sym (can-forgot n a t) ∙ (ap (λ (x : Grid). can n x t) e ∙ can-forgot n b t)

-- so what is shown of one is shown of the other
module _ (most n : ℕ) (d e : Grid) (ts : List Turn) (same : forget e ≡ forget d) where
  after : forget (turns n e ts) ≡ forget (turns n d ts)
  after = turns-alike n ts e d same

  stays-too : (g : ℕ) → ((us : List Turn) → the_group (turns n d (ts ++ us)) g ≡ the_group (turns n d ts) g) → (us : List Turn) → the_group (turns n e (ts ++ us)) g ≡ the_group (turns n e ts) g
  stays-too g stays us =
      rw (turns-append n e ts us)
      (group-stays n (turns n e ts) us g
      (group-same (turns n (turns n e ts) us) (turns n (turns n d ts) us) (turns-alike n us (turns n e ts) (turns n d ts) after) g
      ∙ (ap forget_group (ap (λ (x : Grid). the_group x g) (sym (turns-append n d ts us)) ∙ stays us) ∙ sym (group-same (turns n e ts) (turns n d ts) after g))))

  pub shows-too : (told : Told) → Shows most n d ts told → Shows most n e ts told
  unfolding Shows NoneWrong
  shows-too (cells cs) (end, right, calm, few, is) =
      let m = marked-alike n ts e d same in (
        ended_same (turns n e ts) (turns n d ts) after ∙ end,
        (λ g l. wrong-same (turns n e ts) (turns n d ts) after g l ∙ right g l),
        rw m calm,
        rw (steps_alike n ts e d same) few,
        ap (λ (x : Grid). x.memory.all) after ∙ is,
      )
  shows-too (races x y) s = rw (marked-alike n ts e d same) s
  shows-too (missing g l) s = wrong-same (turns n e ts) (turns n d ts) after g l ∙ s
  shows-too (stuck g) (there, stays, (l, hl, waits)) =
      (rw (long_same e d same) there, stays-too g stays, (l, hl, ap at_barrier (left-same (turns n e ts) (turns n d ts) after g l) ∙ waits))
  shows-too too_long s = rw (steps_alike n ts e d same) s

pub ended-free : EndedFree
unfolding EndedFree
ended-free z at ls ls' cs ts alike =
    let e = grid-alike z at ls ls' alike cs in
    record {
      marks = marked-alike z.lanes ts _ _ e;
      steps = steps_alike z.lanes ts _ _ e;
      grid = turns-alike z.lanes ts _ _ e;
      can = can-same _ _ (turns-alike z.lanes ts _ _ e) z.lanes;
      shows = λ most told s. shows-too most z.lanes _ _ ts e told s;
    }
