-- A lane that has gone wrong has ended, and stays wrong, whatever turns follow.
use Rattle.std.proofs.Common.{◌≡◌, ℕ, zero, suc, true, false, List, [], ◌∷◌, length, get_or, replicate, refl, ◌∙◌, inl, inr, arith}
use Rattle.std.proofs.lemmas.Bool.{cases_Bool, both_ways}
use Rattle.std.proofs.lemmas.Bool.Decides.{nat_tests}
use Rattle.lanes.specs.Syntax.{Program, Body, ended, past_barrier}
use Rattle.lanes.specs.Step.{Lane, Memory, cells, act, lane_of}
use Rattle.lanes.specs.Grid.{Group, Grid, Turn, of, release, no_lane, no_group, gone_on, the_group, the_lane, the_act, can, did, all_past, turn, turns, begin}
use Rattle.lanes.specs.There.{WrongEnded}
use Rattle.lanes.proofs.Places.{at-holds}
use Rattle.lanes.proofs.Turns.{move, turn-did, turn-idle}

act-wrong : (n l g f s : ℕ) (x : Lane) (m : Memory) → x.wrong ≡ true → (lane_of (act n l g f s x) m).wrong ≡ true
unfolding act lane_of
act-wrong n l g f s x m e = grind (arith, nat_tests)

past-wrong : (xs : List Lane) (l : ℕ) → (get_or (all_past xs) l no_lane).wrong ≡ (get_or xs l no_lane).wrong
unfolding all_past
past-wrong [] l = refl
past-wrong (x ∷ xs) zero = refl
past-wrong (x ∷ xs) (suc l) = past-wrong xs l

-- lane l of a group is wrong
abbrev Wrong : ℕ → Group → Type 0
Wrong l q = (get_or q.lanes_of l no_lane).wrong ≡ true

move-wrong : (q : Group) (k l : ℕ) (y : Lane) → (k ≡ l → y.wrong ≡ true) → Wrong l q → Wrong l (move k y q)
move-wrong q k l y h e = at-holds no_lane (λ (x : Lane). x.wrong ≡ true) q.lanes_of k l (λ _. y) (λ s _. h s) e

did-wrong : (n : ℕ) (d : Grid) (t : Turn) (g l : ℕ) → (the_lane d g l).wrong ≡ true → (the_lane (did n d t) g l).wrong ≡ true
unfolding the_lane the_group did the_act
did-wrong n d (of h k) g l e =
    at-holds no_group (Wrong l) d.groups_of h g (move k _)
    (λ q s. move-wrong (get_or d.groups_of g no_group) k l _ (λ r. act-wrong n k h _ _ _ d.memory (rw (q, r) e)) s) e
did-wrong n d (release h) g l e = at-holds no_group (Wrong l) d.groups_of h g gone_on (λ q s. past-wrong (get_or d.groups_of g no_group).lanes_of l ∙ s) e

turn-wrong : (n : ℕ) (d : Grid) (t : Turn) (g l : ℕ) → (the_lane d g l).wrong ≡ true → (the_lane (turn n d t) g l).wrong ≡ true
turn-wrong n d t g l e = elim (cases_Bool (can n d t)) [ inl f ↦ rw (turn-did n d t f) (did-wrong n d t g l e) | inr f ↦ rw (turn-idle n d t f) e ]

pub turns-wrong : (n : ℕ) (d : Grid) (ts : List Turn) (g l : ℕ) → (the_lane d g l).wrong ≡ true → (the_lane (turns n d ts) g l).wrong ≡ true
unfolding turns
turns-wrong n d [] g l e = e
turns-wrong n d (t ∷ ts) g l e = turns-wrong n (turn n d t) ts g l (turn-wrong n d t g l e)

-- if a lane is wrong, it has ended
abbrev Ends : Lane → Type 0
Ends x = x.wrong ≡ true → ended x.left ≡ true

act-ends : (n l g f s : ℕ) (x : Lane) (m : Memory) → Ends x → Ends (lane_of (act n l g f s x) m)
unfolding act lane_of ended
act-ends n l g f s x m h e = grind (arith, nat_tests)

past-ended : (b : Body) → ended b ≡ true → ended (past_barrier b) ≡ true
unfolding ended past_barrier
past-ended b e = grind arith

past-ends : (xs : List Lane) (l : ℕ) → Ends (get_or xs l no_lane) → Ends (get_or (all_past xs) l no_lane)
unfolding all_past
past-ends [] l h = h
past-ends (x ∷ xs) zero h = λ e. past-ended x.left (h e)
past-ends (x ∷ xs) (suc l) h = past-ends xs l h

-- in every group
abbrev pub AllEnd : Grid → Type 0
AllEnd d = (g l : ℕ) → Ends (the_lane d g l)

move-ends : (q : Group) (k l : ℕ) (y : Lane) → Ends y → Ends (get_or q.lanes_of l no_lane) → Ends (get_or (move k y q).lanes_of l no_lane)
move-ends q k l y h e = at-holds no_lane Ends q.lanes_of k l (λ _. y) (λ _ _. h) e

act-of-ends : (n : ℕ) (d : Grid) (h k : ℕ) → Ends (the_lane d h k) → Ends (lane_of (the_act n d h k) d.memory)
unfolding the_act
act-of-ends n d h k s = act-ends n k h (length (cells d.memory 0)) (length (cells d.memory (suc h))) (the_lane d h k) d.memory s

did-ends : (n : ℕ) (d : Grid) (t : Turn) → AllEnd d → AllEnd (did n d t)
unfolding the_lane the_group did
did-ends n d (of h k) s g l =
    let y : Lane = lane_of (the_act n d h k) d.memory in
    at-holds no_group (λ (q : Group). Ends (get_or q.lanes_of l no_lane)) d.groups_of h g (move k y)
    (λ _ z. move-ends (get_or d.groups_of g no_group) k l y (act-of-ends n d h k (s h k)) z) (s g l)
did-ends n d (release h) s g l =
    at-holds no_group (λ (q : Group). Ends (get_or q.lanes_of l no_lane)) d.groups_of h g gone_on
    (λ _ z. past-ends (get_or d.groups_of g no_group).lanes_of l z) (s g l)

pub turns-end : (n : ℕ) (d : Grid) (ts : List Turn) → AllEnd d → AllEnd (turns n d ts)
unfolding turns
turns-end n d [] s = s
turns-end n d (t ∷ ts) s =
    turns-end n (turn n d t) ts (elim (cases_Bool (can n d t)) [ inl e ↦ rw (turn-did n d t e) (did-ends n d t s) | inr e ↦ rw (turn-idle n d t e) s ])

-- at the beginning no lane is wrong
all_alike : {A B : Type 0} (k : A → B) (b : B) (n i : ℕ) (a z : A) → k a ≡ b → k z ≡ b → k (get_or (replicate n a) i z) ≡ b
all_alike k b zero i a z p q = q
all_alike k b (suc n) zero a z p q = p
all_alike k b (suc n) (suc i) a z p q = all_alike k b n i a z p q

pub begin-right : (p : Program) (groups n : ℕ) (all : List ℕ) (g l : ℕ) → (the_lane (begin p groups n all) g l).wrong ≡ false
unfolding begin the_lane the_group
begin-right p groups n all g l =
    all_alike (λ (q : Group). (get_or q.lanes_of l no_lane).wrong) false groups g _ no_group (all_alike (λ (x : Lane). x.wrong) false n l _ no_lane refl refl) refl

pub wrong-ended : WrongEnded
unfolding WrongEnded
wrong-ended p groups n all ts g l e = (
  turns-end n (begin p groups n all) ts (λ h k f. absurd (both_ways _ (begin-right p groups n all h k) f)) g l e,
  λ us. turns-wrong n (turns n (begin p groups n all) ts) us g l e,
)
