-- A test that computes whether a row of turns shows what is told; where it comes out true, the row shows it.
use Rattle.std.proofs.Common.{◌≡◌, ℕ, zero, suc, ◌<◌, ◌≤◌, Bool, true, false, cond, not, ◌&&◌, ◌||◌, eqb, ltb, leb, ◌≢◌, List, [], ◌∷◌, length, get_or, sym, refl, ap, ◌∙◌, subst, inl, inr, suc-le-suc, zero-le, le_of_suc-le-suc, not-suc-le-zero, arith}
use Rattle.std.proofs.lemmas.List.{get_or_default}
use Rattle.std.proofs.lemmas.Bool.{cases_Bool, and_parts, both_ways}
use Rattle.std.proofs.lemmas.Bool.Decides.{nat_tests}
use Rattle.lanes.specs.Syntax.{at_barrier, ended}
use Rattle.lanes.specs.Step.{Lane, Touch, stepping}
use Rattle.lanes.specs.Grid.{Group, Grid, Mark, Turn, no_lane, no_group, the_group, the_lane, all_lanes, turns, marked, steps, all_ended}
use Rattle.lanes.specs.Race.{race, Races}
use Rattle.lanes.specs.Told.{Told, cells, races, missing, stuck, too_long, told_first, NoneWrong, Shows}
use Rattle.lanes.proofs.Orders.{Among, race-self}
use Rattle.lanes.proofs.Stuck.{shows-stuck}

-- two lists of numbers, two marks
abbrev same_numbers : List ℕ → List ℕ → Bool
same_numbers [] [] = true
same_numbers [] (y ∷ ys) = false
same_numbers (x ∷ xs) [] = false
same_numbers (x ∷ xs) (y ∷ ys) = eqb x y && same_numbers xs ys

numbers-equal : (xs ys : List ℕ) → same_numbers xs ys ≡ true → xs ≡ ys
numbers-equal [] [] e = refl
numbers-equal [] (y ∷ ys) e = absurd (both_ways _ refl e)
numbers-equal (x ∷ xs) [] e = absurd (both_ways _ refl e)
numbers-equal (x ∷ xs) (y ∷ ys) e =
    let q = and_parts (eqb x y) (same_numbers xs ys) e in
    let t = numbers-equal xs ys q.1 in
    let h : x ≡ y = grind (arith, nat_tests) in
    rw (h, t)

abbrev same_bool : Bool → Bool → Bool
same_bool true b = b
same_bool false b = not b

abbrev same_touch : Touch → Touch → Bool
same_touch s t = (eqb s.where_is t.where_is && eqb s.cell t.cell) && same_bool s.wrote t.wrote

abbrev same_mark : Mark → Mark → Bool
same_mark a b = ((eqb a.by_group b.by_group && eqb a.by_lane b.by_lane) && eqb a.phase b.phase) && same_touch a.touch b.touch

numbers-meet : (x y : ℕ) → eqb x y ≡ true → x ≡ y
numbers-meet x y e = grind (arith, nat_tests)

bools-meet : (a b : Bool) → same_bool a b ≡ true → a ≡ b
bools-meet true true e = refl
bools-meet true false e = absurd (both_ways _ refl e)
bools-meet false true e = absurd (both_ways _ refl e)
bools-meet false false e = refl

touches-meet : (s t : Touch) → same_touch s t ≡ true → s ≡ t
touches-meet s t e =
    let q = and_parts (eqb s.where_is t.where_is && eqb s.cell t.cell) (same_bool s.wrote t.wrote) e in
    let r = and_parts (eqb s.where_is t.where_is) (eqb s.cell t.cell) q.0 in
    λ i. record { where_is = numbers-meet s.where_is t.where_is r.0 i; cell = numbers-meet s.cell t.cell r.1 i; wrote = bools-meet s.wrote t.wrote q.1 i }

marks-meet : (a b : Mark) → same_mark a b ≡ true → a ≡ b
marks-meet a b e =
    let q = and_parts ((eqb a.by_group b.by_group && eqb a.by_lane b.by_lane) && eqb a.phase b.phase) (same_touch a.touch b.touch) e in
    let r = and_parts (eqb a.by_group b.by_group && eqb a.by_lane b.by_lane) (eqb a.phase b.phase) q.0 in
    let s = and_parts (eqb a.by_group b.by_group) (eqb a.by_lane b.by_lane) r.0 in
    λ i. record {
      by_group = numbers-meet a.by_group b.by_group s.0 i;
      by_lane = numbers-meet a.by_lane b.by_lane s.1 i;
      phase = numbers-meet a.phase b.phase r.1 i;
      touch = touches-meet a.touch b.touch q.1 i;
    }

-- a mark stands among some marks
abbrev is_among : Mark → List Mark → Bool
is_among a [] = false
is_among a (b ∷ ms) = same_mark b a || is_among a ms

among : (a : Mark) (ms : List Mark) → is_among a ms ≡ true → Among ms a
among a [] e = absurd (both_ways _ refl e)
among a (b ∷ ms) e =
    elim (cases_Bool (same_mark b a)) [
      | inl h ↦ (0, suc-le-suc zero-le, marks-meet b a h)
      | inr h ↦ let z = among a ms (rw h at e) in (suc z.0, suc-le-suc z.1, z.2)
    ]

-- no two of some marks race
abbrev calm_with : Mark → List Mark → Bool
calm_with a [] = true
calm_with a (b ∷ ms) = not (race a b) && calm_with a ms

abbrev all_calm : List Mark → Bool
all_calm [] = true
all_calm (a ∷ ms) = calm_with a ms && all_calm ms

not-true : (b : Bool) → not b ≡ true → b ≡ false
not-true true e = absurd (both_ways _ refl e)
not-true false e = refl

calm-at : (a : Mark) (ms : List Mark) (k : ℕ) (b : Mark) → calm_with a ms ≡ true → k < length ms → get_or ms k b ≡ b → race a b ≡ false
calm-at a [] k b e h q = absurd (not-suc-le-zero h)
calm-at a (c ∷ ms) zero b e h q = subst (λ x. race a x ≡ false) q (not-true (race a c) (and_parts (not (race a c)) (calm_with a ms) e).0)
calm-at a (c ∷ ms) (suc k) b e h q = calm-at a ms k b (and_parts (not (race a c)) (calm_with a ms) e).1 (le_of_suc-le-suc h) q

no-races : (ms : List Mark) → all_calm ms ≡ true → Races ms → ⊥
unfolding Races
no-races [] e (j, k, a, b, h, i, p, q, r) = not-suc-le-zero i
no-races (c ∷ ms) e (zero, zero, a, b, h, i, p, q, r) = not-suc-le-zero h
no-races (c ∷ ms) e (zero, suc k, a, b, h, i, p, q, r) =
    both_ways _ (calm-at c ms k b (and_parts (calm_with c ms) (all_calm ms) e).0 (le_of_suc-le-suc i) q) (subst (λ x. race x b ≡ true) (sym p) r)
no-races (c ∷ ms) e (suc j, zero, a, b, h, i, p, q, r) = not-suc-le-zero h
no-races (c ∷ ms) e (suc j, suc k, a, b, h, i, p, q, r) =
    no-races ms (and_parts (calm_with c ms) (all_calm ms) e).1 (j, k, a, b, le_of_suc-le-suc h, le_of_suc-le-suc i, p, q, r)

-- no lane is wrong
abbrev lanes_right : List Lane → Bool
lanes_right [] = true
lanes_right (x ∷ xs) = not x.wrong && lanes_right xs

abbrev groups_right : List Group → Bool
groups_right [] = true
groups_right (q ∷ gs) = lanes_right q.lanes_of && groups_right gs

right_lane : (xs : List Lane) (l : ℕ) → lanes_right xs ≡ true → (get_or xs l no_lane).wrong ≡ false
right_lane [] l e = refl
right_lane (x ∷ xs) zero e = not-true x.wrong (and_parts (not x.wrong) (lanes_right xs) e).0
right_lane (x ∷ xs) (suc l) e = right_lane xs l (and_parts (not x.wrong) (lanes_right xs) e).1

right-group : (gs : List Group) (g l : ℕ) → groups_right gs ≡ true → (get_or (get_or gs g no_group).lanes_of l no_lane).wrong ≡ false
right-group [] g l e = refl
right-group (q ∷ gs) zero l e = right_lane q.lanes_of l (and_parts (lanes_right q.lanes_of) (groups_right gs) e).0
right-group (q ∷ gs) (suc g) l e = right-group gs g l (and_parts (lanes_right q.lanes_of) (groups_right gs) e).1

none_wrong : (d : Grid) → groups_right d.groups_of ≡ true → NoneWrong d
unfolding NoneWrong the_lane the_group
none_wrong d e g l = right-group d.groups_of g l e

-- no lane of a group can step; the first lane of a group that waits
abbrev none_steps : List Lane → Bool
none_steps [] = true
none_steps (x ∷ xs) = not (stepping x.left) && none_steps xs

no_step : (xs : List Lane) (l : ℕ) → none_steps xs ≡ true → stepping (get_or xs l no_lane).left ≡ false
unfolding at_barrier ended
no_step [] l e = refl
no_step (x ∷ xs) zero e = not-true (stepping x.left) (and_parts (not (stepping x.left)) (none_steps xs) e).0
no_step (x ∷ xs) (suc l) e = no_step xs l (and_parts (not (stepping x.left)) (none_steps xs) e).1

abbrev first_waiting : List Lane → ℕ
first_waiting [] = 0
first_waiting (x ∷ xs) = cond (at_barrier x.left) 0 (suc (first_waiting xs))

abbrev stuck_test : ℕ → Group → Bool
stuck_test n q =
    (none_steps q.lanes_of && not (all_lanes at_barrier q.lanes_of))
    && (ltb (first_waiting q.lanes_of) n && at_barrier (get_or q.lanes_of (first_waiting q.lanes_of) no_lane).left)

below : (x y : ℕ) → ltb x y ≡ true → x < y
below x y e = grind (arith, nat_tests)

at_most : (x y : ℕ) → leb x y ≡ true → x ≤ y
at_most x y e = grind (arith, nat_tests)

-- the test
abbrev pub shows_test : ℕ → ℕ → Grid → List Turn → Told → Bool
shows_test most n d ts (cells cs) =
    all_ended (turns n d ts).groups_of
    && (groups_right (turns n d ts).groups_of && (all_calm (marked n d ts) && (leb (steps n d ts) most && same_numbers (turns n d ts).memory.all cs)))
shows_test most n d ts (races a b) = is_among a (marked n d ts) && (is_among b (marked n d ts) && (race a b && told_first a b))
shows_test most n d ts (missing g l) = (the_lane (turns n d ts) g l).wrong
shows_test most n d ts (stuck g) = ltb g (length d.groups_of) && stuck_test n (the_group (turns n d ts) g)
shows_test most n d ts too_long = ltb most (steps n d ts)

shows-cells : (most n : ℕ) (d : Grid) (ts : List Turn) (cs : List ℕ) → shows_test most n d ts (cells cs) ≡ true → Shows most n d ts (cells cs)
unfolding Shows
shows-cells most n d ts cs e =
    let p = and_parts (all_ended (turns n d ts).groups_of) _ e in
    let q = and_parts (groups_right (turns n d ts).groups_of) _ p.1 in
    let r = and_parts (all_calm (marked n d ts)) _ q.1 in
    let s = and_parts (leb (steps n d ts) most) _ r.1 in
    (p.0, none_wrong (turns n d ts) q.0, no-races (marked n d ts) r.0, at_most (steps n d ts) most s.0, numbers-equal (turns n d ts).memory.all cs s.1)

shows-races : (most n : ℕ) (d : Grid) (ts : List Turn) (a b : Mark) → shows_test most n d ts (races a b) ≡ true → Shows most n d ts (races a b)
unfolding Shows
shows-races most n d ts a b e =
    let p = and_parts (is_among a (marked n d ts)) _ e in
    let q = and_parts (is_among b (marked n d ts)) _ p.1 in
    let r = and_parts (race a b) (told_first a b) q.1 in
    let x = among a (marked n d ts) p.0 in
    let y = among b (marked n d ts) q.0 in
    let ne : x.0 ≢ y.0 = λ s.
    (let same : a ≡ b = sym x.2 ∙ (get_or_default (marked n d ts) x.0 a b x.1 ∙ (ap (λ (i : ℕ). get_or (marked n d ts) i b) s ∙ y.2)) in
    both_ways _ (race-self a) (subst (λ z. race a z ≡ true) (sym same) r.0)) in
    (x.0, y.0, ne, x.1, y.1, x.2, y.2, r.0, r.1)

shows-stuck_test : (most n : ℕ) (d : Grid) (ts : List Turn) (g : ℕ) → shows_test most n d ts (stuck g) ≡ true → Shows most n d ts (stuck g)
unfolding the_lane
shows-stuck_test most n d ts g e =
    let xs : List Lane = (the_group (turns n d ts) g).lanes_of in
    let p = and_parts (ltb g (length d.groups_of)) _ e in
    let q = and_parts (none_steps xs && not (all_lanes at_barrier xs)) _ p.1 in
    let r = and_parts (none_steps xs) _ q.0 in
    let s = and_parts (ltb (first_waiting xs) n) _ q.1 in
    shows-stuck most n d ts g (first_waiting xs) (below _ _ p.0)
    (record { no_step = λ l. no_step xs l r.0; not_all_wait = not-true (all_lanes at_barrier xs) r.1 })
    (below _ _ s.0) s.1

pub tested : (most n : ℕ) (d : Grid) (ts : List Turn) (told : Told) → shows_test most n d ts told ≡ true → Shows most n d ts told
unfolding Shows
tested most n d ts (cells cs) e = shows-cells most n d ts cs e
tested most n d ts (races a b) e = shows-races most n d ts a b e
tested most n d ts (missing g l) e = e
tested most n d ts (stuck g) e = shows-stuck_test most n d ts g e
tested most n d ts too_long e = below most (steps n d ts) e
