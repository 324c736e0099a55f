-- A row of turns, turn by turn: what a turn does that can be done; any other leaves all as it is. What holds of a row in two parts.
use Rattle.std.proofs.Common.{◌≡◌, ℕ, zero, suc, ◌+◌, ◌<◌, ◌≤◌, Bool, true, false, cond, List, [], ◌∷◌, ◌++◌, length, get_or, sym, refl, ap, ◌∙◌, inl, inr, append_assoc, not-suc-le-zero, add_assoc, zero-add, arith, length-set}
use lib.ListN.{length-replicate, get_or-replicate}
use Rattle.std.proofs.lemmas.Bool.{cases_Bool, and_parts, both_ways}
use Rattle.std.proofs.lemmas.Bool.Decides.{nat_tests}
use Rattle.lanes.specs.Syntax.{Program, Body, at_barrier, ended}
use Rattle.lanes.specs.Step.{Lane, stepping}
use Rattle.lanes.specs.Grid.{Group, Grid, Mark, Turn, of, release, no_lane, no_group, with_lane, gone_on, the_group, the_lane, can, did, marks_at, weight, all_lanes, all_past, turn, turns, marked, steps, all_ended, begin}
use Rattle.lanes.specs.Promise.{Still}
use Rattle.lanes.proofs.Places.{at-keeps}

-- a group with another lane l
abbrev pub move : ℕ → Lane → Group → Group
move l y q = with_lane q l y

pub turn-did : (n : ℕ) (d : Grid) (t : Turn) → can n d t ≡ true → turn n d t ≡ did n d t
unfolding turn
turn-did n d t e = rw e

pub turn-idle : (n : ℕ) (d : Grid) (t : Turn) → can n d t ≡ false → turn n d t ≡ d
unfolding turn
turn-idle n d t e = rw e

pub turns-did : (n : ℕ) (d : Grid) (t : Turn) (ts : List Turn) → can n d t ≡ true → turns n d (t ∷ ts) ≡ turns n (did n d t) ts
unfolding turns
turns-did n d t ts e = rw (turn-did n d t e)

pub turns-idle : (n : ℕ) (d : Grid) (t : Turn) (ts : List Turn) → can n d t ≡ false → turns n d (t ∷ ts) ≡ turns n d ts
unfolding turns
turns-idle n d t ts e = rw (turn-idle n d t e)

pub marked-did : (n : ℕ) (d : Grid) (t : Turn) (ts : List Turn) → can n d t ≡ true → marked n d (t ∷ ts) ≡ marks_at n d t ++ marked n (did n d t) ts
unfolding marked
marked-did n d t ts e = rw (turn-did n d t e, e)

pub marked-idle : (n : ℕ) (d : Grid) (t : Turn) (ts : List Turn) → can n d t ≡ false → marked n d (t ∷ ts) ≡ marked n d ts
unfolding marked
marked-idle n d t ts e = rw (turn-idle n d t e, e)

pub steps-did : (n : ℕ) (d : Grid) (t : Turn) (ts : List Turn) → can n d t ≡ true → steps n d (t ∷ ts) ≡ weight t + steps n (did n d t) ts
unfolding steps
steps-did n d t ts e = rw (turn-did n d t e, e)

pub steps-idle : (n : ℕ) (d : Grid) (t : Turn) (ts : List Turn) → can n d t ≡ false → steps n d (t ∷ ts) ≡ steps n d ts
unfolding steps
steps-idle n d t ts e = rw (turn-idle n d t e, e) (zero-add (steps n d ts))

-- a row in two parts
pub turns-append : (n : ℕ) (d : Grid) (us vs : List Turn) → turns n d (us ++ vs) ≡ turns n (turns n d us) vs
unfolding turns
turns-append n d [] vs = refl
turns-append n d (u ∷ us) vs = turns-append n (turn n d u) us vs

pub marked_append : (n : ℕ) (d : Grid) (us vs : List Turn) → marked n d (us ++ vs) ≡ marked n d us ++ marked n (turns n d us) vs
unfolding turns marked
marked_append n d [] vs = refl
marked_append n d (u ∷ us) vs =
    let here : List Mark = cond (can n d u) (marks_at n d u) [] in
    ap (λ (ms : List Mark). here ++ ms) (marked_append n (turn n d u) us vs) ∙ sym (append_assoc here (marked n (turn n d u) us) (marked n (turns n (turn n d u) us) vs))

pub steps-append : (n : ℕ) (d : Grid) (us vs : List Turn) → steps n d (us ++ vs) ≡ steps n d us + steps n (turns n d us) vs
unfolding turns steps
steps-append n d [] vs = sym (zero-add (steps n d vs))
steps-append n d (u ∷ us) vs =
    let here : ℕ = cond (can n d u) (weight u) 0 in
    ap (λ (k : ℕ). here + k) (steps-append n (turn n d u) us vs) ∙ sym (add_assoc here (steps n (turn n d u) us) (steps n (turns n (turn n d u) us) vs))

-- the sizes stay
pub length-past : (xs : List Lane) → length (all_past xs) ≡ length xs
unfolding all_past
length-past [] = refl
length-past (x ∷ xs) = ap suc (length-past xs)

pub did-lanes : (n : ℕ) (d : Grid) (t : Turn) (h : ℕ) → length (the_group (did n d t) h).lanes_of ≡ length (the_group d h).lanes_of
unfolding the_group did
did-lanes n d (of g l) h = at-keeps no_group (λ q. length q.lanes_of) d.groups_of g h (move l _) (λ _ q. length-set q.lanes_of l _)
did-lanes n d (release g) h = at-keeps no_group (λ q. length q.lanes_of) d.groups_of g h gone_on (λ _ q. length-past q.lanes_of)

pub did-length : (n : ℕ) (d : Grid) (t : Turn) → length (did n d t).groups_of ≡ length d.groups_of
unfolding did
did-length n d (of g l) = length-set d.groups_of g _
did-length n d (release g) = length-set d.groups_of g _

pub turn-length : (n : ℕ) (d : Grid) (t : Turn) → length (turn n d t).groups_of ≡ length d.groups_of
turn-length n d t = elim (cases_Bool (can n d t)) [ inl e ↦ rw (turn-did n d t e) (did-length n d t) | inr e ↦ rw (turn-idle n d t e) ]

pub turns-length : (n : ℕ) (d : Grid) (ts : List Turn) → length (turns n d ts).groups_of ≡ length d.groups_of
unfolding turns
turns-length n d [] = refl
turns-length n d (t ∷ ts) = turns-length n (turn n d t) ts ∙ turn-length n d t

-- each group has a lane
unfoldable pub Full : Grid → Type 0
Full d = (g : ℕ) → g < length d.groups_of → 0 < length (the_group d g).lanes_of

pub full-turns : (n : ℕ) (d : Grid) (ts : List Turn) → Full d → Full (turns n d ts)
unfolding turns Full
full-turns n d [] f = f
full-turns n d (t ∷ ts) f =
    full-turns n (turn n d t) ts (elim (cases_Bool (can n d t)) [
      | inl e ↦ rw (turn-did n d t e) (λ g h. rw (did-lanes n d t g) (f g (rw (did-length n d t) at h)))
      | inr e ↦ rw (turn-idle n d t e) f
    ])

pub full-begin : (p : Program) (groups n : ℕ) (all : List ℕ) → 1 ≤ n → Full (begin p groups n all)
unfolding Full begin the_group
full-begin p groups n all h g k = rw (get_or-replicate groups g _ no_group (rw (length-replicate groups _) at k), length-replicate n _) h

-- no lane of a group can step, where each is at a barrier or each at its end
lanes-idle : (f : Body → Bool) → ((b : Body) → f b ≡ true → stepping b ≡ false) → (xs : List Lane) (l : ℕ) → all_lanes f xs ≡ true → stepping (get_or xs l no_lane).left ≡ false
unfolding all_lanes at_barrier ended
lanes-idle f h [] l e = refl
lanes-idle f h (x ∷ xs) zero e = h x.left (and_parts (f x.left) (all_lanes f xs) e).0
lanes-idle f h (x ∷ xs) (suc l) e = lanes-idle f h xs l (and_parts (f x.left) (all_lanes f xs) e).1

pub barred-idle : (xs : List Lane) (l : ℕ) → all_lanes at_barrier xs ≡ true → stepping (get_or xs l no_lane).left ≡ false
barred-idle xs l e = lanes-idle at_barrier (λ b f. rw f refl) xs l e

pub ended-idle : (xs : List Lane) (l : ℕ) → all_lanes ended xs ≡ true → stepping (get_or xs l no_lane).left ≡ false
ended-idle xs l e = lanes-idle ended (λ b f. rw f (grind arith)) xs l e

pub ended-group : (gs : List Group) (g : ℕ) → all_ended gs ≡ true → all_lanes ended (get_or gs g no_group).lanes_of ≡ true
unfolding all_ended all_lanes
ended-group [] g e = refl
ended-group (q ∷ gs) zero e = (and_parts (all_lanes ended q.lanes_of) (all_ended gs) e).0
ended-group (q ∷ gs) (suc g) e = ended-group gs g (and_parts (all_lanes ended q.lanes_of) (all_ended gs) e).1

pub not-both : (b : Body) → at_barrier b ≡ true → ended b ≡ true → ⊥
unfolding at_barrier ended
not-both b e f = grind arith

-- a lane of a group that has ended doesn't wait
pub ended-waits : (xs : List Lane) (l : ℕ) → all_lanes ended xs ≡ true → at_barrier (get_or xs l no_lane).left ≡ true → ⊥
unfolding all_lanes at_barrier
ended-waits [] l e w = both_ways _ refl w
ended-waits (x ∷ xs) zero e w = not-both x.left w (and_parts (ended x.left) (all_lanes ended xs) e).0
ended-waits (x ∷ xs) (suc l) e w = ended-waits xs l (and_parts (ended x.left) (all_lanes ended xs) e).1 w

pub not-barred : (xs : List Lane) → 0 < length xs → all_lanes ended xs ≡ true → all_lanes at_barrier xs ≡ false
unfolding all_lanes
not-barred [] h e = absurd (not-suc-le-zero h)
not-barred (x ∷ xs) h e = grind (arith, not-both)

-- where all has ended, nothing can go on
pub ended-still : (n : ℕ) (d : Grid) → all_ended d.groups_of ≡ true → Full d → Still n d
unfolding the_lane the_group Full Still can
ended-still n d e f (of g l) = rw (ended-idle (get_or d.groups_of g no_group).lanes_of l (ended-group d.groups_of g e)) (grind arith)
ended-still n d e f (release g) =
    let h = ended-group d.groups_of g e in
    let k = not-barred (get_or d.groups_of g no_group).lanes_of in
    let i = f g in
    grind (arith, nat_tests)

pub still-idle : (n : ℕ) (d : Grid) → Still n d → (t : Turn) → can n d t ≡ true → ⊥
unfolding Still
still-idle n d s t h = both_ways _ (s t) h
