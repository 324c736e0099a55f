-- The row of turns of a mask has as many steps as the mask has lanes.
use Rattle.std.proofs.Common.{◌≡◌, ℕ, zero, suc, ◌+◌, ◌<◌, ◌≤◌, Bool, true, false, cond, [], ◌∷◌, length, sym, refl, ap, ◌∙◌, inl, inr, append-nil, add-zero, add-one, arith, length-append}
use Rattle.lanes.specs.Grid.{Grid, of, can, turns, steps}
use Rattle.lanes.specs.Promise.{Apart}
use Rattle.lanes.proofs.Turns.{turns-append, steps-append, steps-did}
use Rattle.std.proofs.lemmas.Bool.{cases_Bool}
use Rattle.masks.specs.Masks.{on, lanes_in}
use Rattle.machine.specs.Line.{row_turns}
use Rattle.machine.proofs.Passing.{turn-can}

-- as many turns as lanes
pub row-length : (g start mask i : ℕ) → length (row_turns g start mask i) ≡ lanes_in mask i
unfolding row_turns lanes_in
row-length g start mask zero = refl
row-length g start mask (suc i) = length-append (row_turns g start mask i) _ ∙ (ap (λ (k : ℕ). k + length (cond (on mask i) (of g (start + i) ∷ []) [])) (row-length g start mask i) ∙ ap (λ (k : ℕ). lanes_in mask i + k) (by (on mask i)))
  where
    by : (b : Bool) → length (cond b (of g (start + i) ∷ []) []) ≡ cond b 1 0
    by true = refl
    by false = refl

apart_of : (g start i k : ℕ) → suc i ≤ k → Apart (of g (start + i)) (of g (start + k))
unfolding Apart
apart_of g start i k h = λ _ e. omega arith

-- a lane behind those of the row can do its turn after them if it could before
module _ (n : ℕ) (d : Grid) (g start mask : ℕ) where
  can-behind : (i k : ℕ) → i ≤ k → can n (turns n d (row_turns g start mask i)) (of g (start + k)) ≡ can n d (of g (start + k))
  unfolding row_turns turns
  can-behind zero k h = refl
  can-behind (suc i) k h = elim (cases_Bool (on mask i)) [
    | inl e ↦ rw (e, turns-append n d (row_turns g start mask i) (of g (start + i) ∷ [])) (turn-can n (turns n d (row_turns g start mask i)) (of g (start + i)) (of g (start + k)) (apart_of g start i k h) ∙ can-behind i k (omega arith))
    | inr e ↦ rw (e, append-nil (row_turns g start mask i)) (can-behind i k (omega arith))
  ]

  pub row-steps : (i : ℕ) → ((j : ℕ) → j < i → on mask j ≡ true → can n d (of g (start + j)) ≡ true) → steps n d (row_turns g start mask i) ≡ lanes_in mask i
  unfolding row_turns lanes_in steps
  row-steps zero all = refl
  row-steps (suc i) all = elim (cases_Bool (on mask i)) [
    | inl e ↦ rw (e, steps-append n d (row_turns g start mask i) (of g (start + i) ∷ []), row-steps i (λ j h. all j (omega arith)))
        (ap (λ (k : ℕ). lanes_in mask i + k) (steps-did n (turns n d (row_turns g start mask i)) (of g (start + i)) [] (can-behind i i (omega arith) ∙ all i (omega arith) e) ∙ add-zero 1))
    | inr e ↦ rw (e, append-nil (row_turns g start mask i), row-steps i (λ j h. all j (omega arith))) (sym (add-zero (lanes_in mask i)))
  ]
