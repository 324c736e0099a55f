-- A cell of a group is touched by that group alone.
use Rattle.std.proofs.Common.{◌≡◌, ℕ, suc, Bool, true, false, cond, ◌&&◌, ◌||◌, eqb, ◌⊎◌, List, [], ◌∷◌, inl, inr, arith}
use Rattle.std.proofs.lemmas.Bool.{cases_eq}
use Rattle.std.proofs.lemmas.Bool.Decides.{nat_tests}
use Rattle.lanes.specs.Step.{Touch, Lane, act, touched}
use Rattle.lanes.specs.Grid.{Grid, Turn, of, release, Mark, can, turn, marks, marks_at, marked, the_act, the_group}
use Rattle.lanes.specs.Told.{Shows, races}
use Rattle.lanes.proofs.Crossing.{All}
use Rattle.lanes.proofs.Runs.{all_append, all-at}

-- of the field, or of the group that touches
abbrev pub Own : Mark → Type 0
Own m = (m.touch.where_is ≡ 0) ⊎ (m.touch.where_is ≡ suc m.by_group)

abbrev own_all : ℕ → List Touch → Bool
own_all g [] = true
own_all g (t ∷ ts) = (eqb t.where_is 0 || eqb t.where_is (suc g)) && own_all g ts

act-own : (n l g f s : ℕ) (x : Lane) → own_all g (touched (act n l g f s x)) ≡ true
unfolding act touched
act-own n l g f s x = grind (arith, nat_tests)

own-one : (w g : ℕ) (b : Bool) → ((eqb w 0 || eqb w (suc g)) && b) ≡ true → (w ≡ 0) ⊎ (w ≡ suc g)
own-one w g b e = elim (cases_eq w 0) [ inl q ↦ inl q | inr q ↦ inr (grind (arith, nat_tests)) ]

own-rest : (w g : ℕ) (b : Bool) → ((eqb w 0 || eqb w (suc g)) && b) ≡ true → b ≡ true
own-rest w g b e = grind (arith, nat_tests)

marks-own : (g l p : ℕ) (ts : List Touch) → own_all g ts ≡ true → All Own (marks g l p ts)
unfolding marks
marks-own g l p [] e = tt
marks-own g l p (t ∷ ts) e = (own-one t.where_is g (own_all g ts) e, marks-own g l p ts (own-rest t.where_is g (own_all g ts) e))

at_own : (n : ℕ) (d : Grid) (t : Turn) → All Own (marks_at n d t)
unfolding marks_at the_act
at_own n d (of g l) = marks-own g l (the_group d g).phase (touched (the_act n d g l)) (act-own n l g _ _ _)
at_own n d (release g) = tt

pub marked-own : (n : ℕ) (d : Grid) (ts : List Turn) → All Own (marked n d ts)
unfolding marked
marked-own n d [] = tt
marked-own n d (t ∷ ts) = all_append Own (cond (can n d t) (marks_at n d t) []) (marked n (turn n d t) ts) (by (can n d t)) (marked-own n (turn n d t) ts)
  where
    by : (b : Bool) → All Own (cond b (marks_at n d t) [])
    by true = at_own n d t
    by false = tt

-- both touches of a race that is shown
pub races-own : (most n : ℕ) (d : Grid) (ts : List Turn) (a b : Mark) → Shows most n d ts (races a b) → Own a × Own b
unfolding Shows
races-own most n d ts a b (j, k, ne, hj, hk, ej, ek, r, first) =
    (all-at Own (marked n d ts) j a (marked-own n d ts) hj ej, all-at Own (marked n d ts) k b (marked-own n d ts) hk ek)
