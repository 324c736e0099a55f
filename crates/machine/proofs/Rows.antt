-- A row of turns with one more turn that can be done.
use Rattle.std.proofs.Common.{◌≡◌, ℕ, zero, suc, ◌+◌, true, false, ◌⊎◌, List, [], ◌∷◌, ◌++◌, get_or, sym, refl, ap, ◌∙◌, subst, inl, inr, append-nil, add-zero, get_or-set_other}
use Rattle.std.proofs.lemmas.Bool.{cases_eq}
use Rattle.lanes.specs.Step.{Lane}
use Rattle.lanes.specs.Grid.{Group, Grid, Turn, of, release, Mark, can, did, turn, turns, marked, marks_at, steps, weight, the_group, the_lane, no_group, no_lane, all_past, gone_on}
use Rattle.lanes.specs.Told.{NoneWrong}
use Rattle.lanes.proofs.Places.{at-keeps}
use Rattle.lanes.proofs.Turns.{move, turn-did, turns-append, marked_append, steps-append, marked-did, steps-did}

module _ (n : ℕ) (d : Grid) (ts : List Turn) (t : Turn) where
  pub grid-more : turns n d (ts ++ (t ∷ [])) ≡ turn n (turns n d ts) t
  unfolding turns
  grid-more = turns-append n d ts (t ∷ [])

  pub marked_more : can n (turns n d ts) t ≡ true → marked n d (ts ++ (t ∷ [])) ≡ marked n d ts ++ marks_at n (turns n d ts) t
  unfolding marked
  marked_more could =
      marked_append n d ts (t ∷ []) ∙ ap (λ (ms : List Mark). marked n d ts ++ ms) (marked-did n (turns n d ts) t [] could ∙ append-nil (marks_at n (turns n d ts) t))

  pub steps-more : can n (turns n d ts) t ≡ true → steps n d (ts ++ (t ∷ [])) ≡ steps n d ts + weight t
  unfolding steps
  steps-more could =
      steps-append n d ts (t ∷ []) ∙ ap (λ (k : ℕ). steps n d ts + k) (steps-did n (turns n d ts) t [] could ∙ add-zero (weight t))

past-wrong : (xs : List Lane) (l : ℕ) → (get_or (all_past xs) l no_lane).wrong ≡ (get_or xs l no_lane).wrong
unfolding all_past
past-wrong [] l = refl
past-wrong (x ∷ xs) zero = refl
past-wrong (x ∷ xs) (suc l) = past-wrong xs l

-- a lane's step leaves the others as they are, and that a group goes on leaves no lane wrong that wasn't
lane-other : (n : ℕ) (d : Grid) (g l h k : ℕ) → (g ≡ h → l ≡ k → ⊥) → the_lane (did n d (of g l)) h k ≡ the_lane d h k
unfolding the_lane the_group did
lane-other n d g l h k ne =
    at-keeps no_group (λ (q : Group). get_or q.lanes_of k no_lane) d.groups_of g h (move l _) (λ e q. get_or-set_other q.lanes_of l k _ no_lane (λ f. ne e (sym f)))

released-wrong : (n : ℕ) (d : Grid) (g h k : ℕ) → (the_lane (did n d (release g)) h k).wrong ≡ (the_lane d h k).wrong
unfolding the_lane the_group did
released-wrong n d g h k = at-keeps no_group (λ (q : Group). (get_or q.lanes_of k no_lane).wrong) d.groups_of g h gone_on (λ _ q. past-wrong q.lanes_of k)

pub right_of : (n : ℕ) (d : Grid) (g l : ℕ) → can n d (of g l) ≡ true → (the_lane (turn n d (of g l)) g l).wrong ≡ false → NoneWrong d → NoneWrong (turn n d (of g l))
unfolding NoneWrong
right_of n d g l could e right = rw (turn-did n d (of g l) could) (λ h k. by h k (cases_eq g h) (cases_eq l k))
  where
    here : (the_lane (did n d (of g l)) g l).wrong ≡ false
    here = subst (λ (x : Grid). (the_lane x g l).wrong ≡ false) (turn-did n d (of g l) could) e

    other : (h k : ℕ) → (g ≡ h → l ≡ k → ⊥) → (the_lane (did n d (of g l)) h k).wrong ≡ false
    other h k ne = ap (λ (x : Lane). x.wrong) (lane-other n d g l h k ne) ∙ right h k

    by : (h k : ℕ) → (g ≡ h) ⊎ (g ≡ h → ⊥) → (l ≡ k) ⊎ (l ≡ k → ⊥) → (the_lane (did n d (of g l)) h k).wrong ≡ false
    by h k (inl p) (inl q) = rw (sym p, sym q) here
    by h k (inl p) (inr q) = other h k (λ _ r. q r)
    by h k (inr p) q = other h k (λ r _. p r)

pub right-released : (n : ℕ) (d : Grid) (g : ℕ) → can n d (release g) ≡ true → NoneWrong d → NoneWrong (turn n d (release g))
unfolding NoneWrong
right-released n d g could right = rw (turn-did n d (release g) could) (λ h k. released-wrong n d g h k ∙ right h k)
