-- Two turns of different lanes may be exchanged, if their touches don't race.
use Rattle.std.proofs.Common.{◌≡◌, ℕ, true, cond, List, [], ◌∷◌, ◌++◌, sym, ap, ◌∙◌, subst, inl, inr, append-nil, arith}
use Rattle.std.proofs.lemmas.Bool.{cases_Bool}
use Rattle.lanes.specs.Grid.{Grid, Mark, Turn, can, did, marks_at, turn, turns, marked, steps}
use Rattle.lanes.specs.Race.{Races}
use Rattle.lanes.specs.Promise.{Apart, Exchange}
use Rattle.lanes.proofs.Turns.{turn-did, turn-idle}
use Rattle.lanes.proofs.Crossing.{All, apart-sym, same-can, same-marks, cross}
use Rattle.lanes.proofs.Runs.{all_left, all_right, all_from}
use Rattle.lanes.proofs.Orders.{Among, calm-from}

pub turn-can : (n : ℕ) (d : Grid) (x u : Turn) → Apart x u → can n (turn n d x) u ≡ can n d u
turn-can n d x u a = elim (cases_Bool (can n d x)) [ inl e ↦ rw (turn-did n d x e) (same-can n d x u a) | inr e ↦ rw (turn-idle n d x e) ]

pub turn-marks : (n : ℕ) (d : Grid) (x u : Turn) → Apart x u → marks_at n (turn n d x) u ≡ marks_at n d u
turn-marks n d x u a = elim (cases_Bool (can n d x)) [ inl e ↦ rw (turn-did n d x e) (same-marks n d x u a) | inr e ↦ rw (turn-idle n d x e) ]

both-marked : (n : ℕ) (d : Grid) (x u : Turn) → Apart x u → marked n d (x ∷ u ∷ []) ≡ marked n d (x ∷ []) ++ marked n d (u ∷ [])
unfolding marked
both-marked n d x u a = rw (turn-can n d x u a, turn-marks n d x u a, append-nil (cond (can n d x) (marks_at n d x) []))

both-steps : (n : ℕ) (d : Grid) (x u : Turn) → Apart x u → steps n d (x ∷ u ∷ []) ≡ steps n d (u ∷ x ∷ [])
unfolding steps
both-steps n d x u a = rw (turn-can n d x u a, turn-can n d u x (apart-sym x u a)) (omega arith)

-- both can be done
both-did : (n : ℕ) (d : Grid) (x u : Turn) → Apart x u → (Races (marked n d (x ∷ u ∷ [])) → ⊥) → can n d x ≡ true → can n d u ≡ true → did n (did n d x) u ≡ did n (did n d u) x
unfolding marked
both-did n d x u a no_Race e f =
    let ms : List Mark = marked n d (x ∷ u ∷ []) in
    let s : All (Among ms) ms = all_from (Among ms) ms (λ j b h q. (j, h, q)) in
    let split : ms ≡ marks_at n d x ++ (marks_at n d u ++ []) = rw (e, turn-can n d x u a, f, turn-marks n d x u a) in
    let s' : All (Among ms) (marks_at n d x ++ (marks_at n d u ++ [])) = subst (λ (ks : List Mark). All (Among ms) ks) split s in
    cross (Among ms) (calm-from ms no_Race) n d x u a (all_left (Among ms) (marks_at n d x) (marks_at n d u ++ []) s')
    (all_left (Among ms) (marks_at n d u) [] (all_right (Among ms) (marks_at n d x) (marks_at n d u ++ []) s'))

both-turn : (n : ℕ) (d : Grid) (x u : Turn) → Apart x u → (Races (marked n d (x ∷ u ∷ [])) → ⊥) → turn n (turn n d x) u ≡ turn n (turn n d u) x
both-turn n d x u a no_Race =
    let there = turn-can n d x u a in
    let here = turn-can n d u x (apart-sym x u a) in
    elim (cases_Bool (can n d x)) [
      | inr e ↦ ap (λ (z : Grid). turn n z u) (turn-idle n d x e) ∙ sym (turn-idle n (turn n d u) x (here ∙ e))
      | inl e ↦ elim (cases_Bool (can n d u)) [
        | inr f ↦ turn-idle n (turn n d x) u (there ∙ f) ∙ ap (λ (z : Grid). turn n z x) (sym (turn-idle n d u f))
        | inl f ↦
            turn-did n (turn n d x) u (there ∙ f) ∙ ap (λ (z : Grid). did n z u) (turn-did n d x e)
            ∙ both-did n d x u a no_Race e f
            ∙ sym (turn-did n (turn n d u) x (here ∙ e) ∙ ap (λ (z : Grid). did n z x) (turn-did n d u f))
      ]
    ]

pub exchange : Exchange
unfolding Exchange turns
exchange n d x u a no_Race =
    record {
      same_grid = λ ts. ap (λ (z : Grid). turns n z ts) (both-turn n d x u a no_Race);
      touches = both-marked n d x u a;
      touches_exchanged = both-marked n d u x (apart-sym x u a);
      same_steps = both-steps n d x u a;
    }
