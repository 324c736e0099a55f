-- What lies in the memory of lanes that have ended does not matter.
use Rattle.std.proofs.Common.{◌≡◌, ℕ, ◌+◌, ◌<◌, Bool, true, false, cond, ◌&&◌, ◌||◌, ltb, ◌⊎◌, List, [], ◌∷◌, map, length, get_or, set, sym, refl, ap, ◌∙◌, inl, inr}
use lib.ListN.{get_or-map, length-map}
use lib.Seq.{map-set}
use Rattle.std.proofs.lemmas.Bool.{cases_Bool, cond-false, and_parts, not-true, or_parts, false≢true, both_ways}
use Rattle.lanes.specs.Syntax.{Body, ended, at_barrier, end, put, read_shared, write_shared, read_all, write_all, barrier, when, while}
use Rattle.lanes.specs.Step.{Lane, Memory, lane_of, stepping}
use Rattle.lanes.specs.Grid.{Group, Grid, Turn, of, release, the_group, the_lane, the_act, can, did, turn, turns, marks_at, marked, steps, all_lanes, with_lane, gone_on, no_group, no_lane}
use Rattle.store.specs.declared.Sizes.{Sizes}
use Rattle.store.specs.Lent.{slot_of, line_at, own_of, lane_at, group_at, grid_of, upto}
use Rattle.store.specs.Ended.{forget_lane, forget_group, forget, Alike}
use Rattle.store.proofs.Upto.{upto-same, map-upto}
use Rattle.store.proofs.Grids.{group_is}

lane-as : (o o' : List ℕ) (x : Lane) → o ≡ o' → ◌≡◌ {A = Lane} (record { own = o; left = x.left; wrong = x.wrong }) (record { own = o'; left = x.left; wrong = x.wrong })
lane-as o o' x e = rw e

-- a lane that goes on is not changed, and what is forgotten is forgotten once
pub kept-lane : (x : Lane) → ended x.left ≡ false → forget_lane x ≡ x
kept-lane x e = lane-as (cond (ended x.left) [] x.own) x.own x (cond-false (ended x.left) [] x.own e)

cond-twice : (b : Bool) (xs : List ℕ) → cond b [] (cond b [] xs) ≡ cond b [] xs
cond-twice true xs = refl
cond-twice false xs = refl

lane-twice : (x : Lane) → forget_lane (forget_lane x) ≡ forget_lane x
lane-twice x = lane-as _ _ x (cond-twice (ended x.left) x.own)

lanes-twice : (xs : List Lane) → map forget_lane (map forget_lane xs) ≡ map forget_lane xs
lanes-twice [] = refl
lanes-twice (x ∷ xs) = rw (lane-twice x, lanes-twice xs)

group-twice : (q : Group) → forget_group (forget_group q) ≡ forget_group q
group-twice q = group_is _ _ _ _ (lanes-twice q.lanes_of) refl

groups-twice : (qs : List Group) → map forget_group (map forget_group qs) ≡ map forget_group qs
groups-twice [] = refl
groups-twice (q ∷ qs) = rw (group-twice q, groups-twice qs)

-- groups and lanes of what is left
pub group-forgot : (d : Grid) (g : ℕ) → the_group (forget d) g ≡ forget_group (the_group d g)
unfolding the_group
group-forgot d g = get_or-map forget_group d.groups_of g no_group

pub lane-forgot : (d : Grid) (g l : ℕ) → the_lane (forget d) g l ≡ forget_lane (the_lane d g l)
unfolding the_lane ended
lane-forgot d g l = ap (λ (q : Group). get_or q.lanes_of l no_lane) (group-forgot d g) ∙ get_or-map forget_lane (the_group d g).lanes_of l no_lane

pub all-forgot : (f : Body → Bool) (xs : List Lane) → all_lanes f (map forget_lane xs) ≡ all_lanes f xs
unfolding all_lanes
all-forgot f [] = refl
all-forgot f (x ∷ xs) = ap (λ b. f x.left && b) (all-forgot f xs)

pub can-forgot : (n : ℕ) (d : Grid) (t : Turn) → can n (forget d) t ≡ can n d t
unfolding can
can-forgot n d (of g l) = rw (length-map d.groups_of forget_group, lane-forgot d g l)
can-forgot n d (release g) = rw (length-map d.groups_of forget_group, group-forgot d g, all-forgot at_barrier (the_group d g).lanes_of)

stepping-on : (b : Body) → stepping b ≡ true → ended b ≡ false
stepping-on b e = (or_parts (at_barrier b) (ended b) (not-true (at_barrier b || ended b) e)).1

-- the act of a lane that can step is the same
act-forgot : (n : ℕ) (d : Grid) (g l : ℕ) → can n d (of g l) ≡ true → the_act n (forget d) g l ≡ the_act n d g l
unfolding the_act can
act-forgot n d g l e =
    let on = stepping-on (the_lane d g l).left (and_parts _ _ e).1 in
    rw (lane-forgot d g l, kept-lane (the_lane d g l) on) refl

waiting-on : (b : Body) → at_barrier b ≡ true → ended b ≡ false
unfolding at_barrier ended
waiting-on end e = absurd (false≢true e)
waiting-on (put k x b) e = refl
waiting-on (read_shared k x b) e = refl
waiting-on (write_shared x f b) e = refl
waiting-on (read_all k x b) e = refl
waiting-on (write_all x f b) e = refl
waiting-on (barrier b) e = refl
waiting-on (when x c d b) e = refl
waiting-on (while x c b) e = refl

lanes-waiting : (xs : List Lane) → all_lanes at_barrier xs ≡ true → map forget_lane xs ≡ xs
unfolding all_lanes
lanes-waiting [] e = refl
lanes-waiting (x ∷ xs) e = let p = and_parts (at_barrier x.left) (all_lanes at_barrier xs) e in rw (kept-lane x (waiting-on x.left p.0), lanes-waiting xs p.1)

grid-parts : (a b : List Group) (x y : Memory) → a ≡ b → x ≡ y → ◌≡◌ {A = Grid} (record { groups_of = a; memory = x }) (record { groups_of = b; memory = y })
grid-parts a b x y p q = rw (p, q)

release-waits : (n : ℕ) (d : Grid) (g : ℕ) → can n d (release g) ≡ true → all_lanes at_barrier (the_group d g).lanes_of ≡ true
unfolding can
release-waits n d g e = (and_parts (ltb g (length d.groups_of)) (all_lanes at_barrier (the_group d g).lanes_of) e).1

-- one turn
did-forgot : (n : ℕ) (d : Grid) (t : Turn) → can n d t ≡ true → forget (did n (forget d) t) ≡ forget (did n d t)
unfolding did
did-forgot n d (of g l) e =
    let a = act-forgot n d g l e in
    grid-parts _ _ _ _
    (rw (a, group-forgot d g) (map-set forget_group (map forget_group d.groups_of) g _
    ∙ rw (groups-twice d.groups_of, map-set forget_group d.groups_of g (with_lane (the_group d g) l (lane_of (the_act n d g l) d.memory)))
    (ap (λ (q : Group). set (map forget_group d.groups_of) g q)
    (group_is _ _ _ _ (map-set forget_lane (map forget_lane (the_group d g).lanes_of) l _ ∙ rw (lanes-twice (the_group d g).lanes_of) (sym (map-set forget_lane (the_group d g).lanes_of l _))) refl))))
    (rw a refl)
did-forgot n d (release g) e =
    let same : the_group (forget d) g ≡ the_group d g = group-forgot d g ∙ group_is _ _ _ _ (lanes-waiting (the_group d g).lanes_of (release-waits n d g e)) refl in
    grid-parts _ _ _ _
    (map-set forget_group (map forget_group d.groups_of) g _ ∙ rw (groups-twice d.groups_of, same) (sym (map-set forget_group d.groups_of g (gone_on (the_group d g))))) refl

turn-forgot : (n : ℕ) (d : Grid) (t : Turn) → forget (turn n (forget d) t) ≡ forget (turn n d t)
unfolding turn
turn-forgot n d t = rw (can-forgot n d t) (by (cases_Bool (can n d t)))
  where
    by : (can n d t ≡ true) ⊎ (can n d t ≡ false) → forget (cond (can n d t) (did n (forget d) t) (forget d)) ≡ forget (cond (can n d t) (did n d t) d)
    by (inl e) = rw e (did-forgot n d t e)
    by (inr e) = rw e (grid-parts _ _ _ _ (groups-twice d.groups_of) refl)

-- grids of which as much is left do the same
turn-alike : (n : ℕ) (d e : Grid) (t : Turn) → forget d ≡ forget e → forget (turn n d t) ≡ forget (turn n e t)
turn-alike n d e t h = sym (turn-forgot n d t) ∙ ap (λ x. forget (turn n x t)) h ∙ turn-forgot n e t

pub turns-alike : (n : ℕ) (ts : List Turn) (d e : Grid) → forget d ≡ forget e → forget (turns n d ts) ≡ forget (turns n e ts)
unfolding turns
turns-alike n [] d e h = h
turns-alike n (t ∷ ts) d e h = turns-alike n ts (turn n d t) (turn n e t) (turn-alike n d e t h)

marks-forgot : (n : ℕ) (d : Grid) (t : Turn) → can n d t ≡ true → marks_at n (forget d) t ≡ marks_at n d t
unfolding marks_at
marks-forgot n d (of g l) e = rw (act-forgot n d g l e, group-forgot d g)
marks-forgot n d (release g) e = refl

front-forgot : (n : ℕ) (d : Grid) (t : Turn) → cond (can n (forget d) t) (marks_at n (forget d) t) [] ≡ cond (can n d t) (marks_at n d t) []
front-forgot n d t = rw (can-forgot n d t) (by (cases_Bool (can n d t)))
  where
    by : (can n d t ≡ true) ⊎ (can n d t ≡ false) → cond (can n d t) (marks_at n (forget d) t) [] ≡ cond (can n d t) (marks_at n d t) []
    by (inl e) = rw e (marks-forgot n d t e)
    by (inr e) = rw e refl

pub marked-alike : (n : ℕ) (ts : List Turn) (d e : Grid) → forget d ≡ forget e → marked n d ts ≡ marked n e ts
unfolding marked
marked-alike n [] d e h = refl
marked-alike n (t ∷ ts) d e h =
    let f = sym (front-forgot n d t) ∙ ap (λ x. cond (can n x t) (marks_at n x t) []) h ∙ front-forgot n e t in
    rw (f, marked-alike n ts (turn n d t) (turn n e t) (turn-alike n d e t h))

pub steps_alike : (n : ℕ) (ts : List Turn) (d e : Grid) → forget d ≡ forget e → steps n d ts ≡ steps n e ts
unfolding steps
steps_alike n [] d e h = refl
steps_alike n (t ∷ ts) d e h =
    let f : can n d t ≡ can n e t = sym (can-forgot n d t) ∙ ap (λ x. can n x t) h ∙ can-forgot n e t in
    rw (f, steps_alike n ts (turn n d t) (turn n e t) (turn-alike n d e t h))

-- alike slices stand for such grids
module _ (z : Sizes) (at : ℕ → Body) (ls ls' : List ℕ) (alike : Alike z at ls ls') where
  own-alike : (g l : ℕ) → g < z.groups → l < z.lanes → cond (ended (at (line_at z ls g l))) [] (own_of z ls' g l) ≡ cond (ended (at (line_at z ls g l))) [] (own_of z ls g l)
  unfolding own_of
  own-alike g l hg hl = by (cases_Bool (ended (at (line_at z ls g l))))
    where
      by : (ended (at (line_at z ls g l)) ≡ true) ⊎ (ended (at (line_at z ls g l)) ≡ false) →
          cond (ended (at (line_at z ls g l))) [] (upto (λ k. slot_of z ls' g (128 + k) l) z.owns) ≡ cond (ended (at (line_at z ls g l))) [] (upto (λ k. slot_of z ls g (128 + k) l) z.owns)
      by (inl e) = rw e refl
      by (inr e) = rw e (upto-same 0 _ _ z.owns (λ k h. alike.owns g k l hg h hl (λ t. both_ways _ e t)))

  lane-alike : (g l : ℕ) → g < z.groups → l < z.lanes → forget_lane (lane_at z at ls' g l) ≡ forget_lane (lane_at z at ls g l)
  unfolding lane_at
  lane-alike g l hg hl = rw (alike.lines g l hg hl, alike.wrongs g l hg hl, own-alike g l hg hl)

  group-alike : (g : ℕ) → g < z.groups → forget_group (group_at z at ls' g) ≡ forget_group (group_at z at ls g)
  unfolding group_at
  group-alike g hg =
      group_is _ _ _ _
      (map-upto no_lane forget_lane (lane_at z at ls' g) z.lanes ∙ upto-same no_lane _ _ z.lanes (λ l hl. lane-alike g l hg hl) ∙ sym (map-upto no_lane forget_lane (lane_at z at ls g) z.lanes))
      (alike.phases g hg)

  pub grid-alike : (cs : List ℕ) → forget (grid_of z at ls' cs) ≡ forget (grid_of z at ls cs)
  unfolding grid_of
  grid-alike cs =
      grid-parts _ _ _ _
      (map-upto no_group forget_group (group_at z at ls') z.groups ∙ upto-same no_group _ _ z.groups group-alike ∙ sym (map-upto no_group forget_group (group_at z at ls) z.groups)) refl
