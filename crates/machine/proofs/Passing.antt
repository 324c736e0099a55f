-- Nothing before a lane can be done: one more lane, one more group, all; and still so after what is named.
use Rattle.std.proofs.Common.{◌≡◌, ℕ, ◌+◌, ◌<◌, ◌≤◌, false, List, ◌∙◌, inl, inr, arith}
use Rattle.std.proofs.lemmas.Bool.{cases_Bool, cases_eq, cases_lt}
use Rattle.lanes.specs.Syntax.{Body}
use Rattle.lanes.specs.Grid.{Grid, Turn, of, release, can, turn}
use Rattle.lanes.specs.Promise.{Still, Apart}
use Rattle.lanes.proofs.Turns.{turn-did, turn-idle}
use Rattle.lanes.proofs.Crossing.{same-can}
use Rattle.store.specs.declared.Sizes.{Sizes}
use Rattle.store.specs.Lent.{grid_of}
use Rattle.machine.specs.Schedule.{Passed}
use Rattle.machine.proofs.Stances.{can-outside, cannot-outside}

pub passed_none : (n : ℕ) (d : Grid) → Passed n d 0 0
unfolding Passed
passed_none n d (of h k) (inl b) = absurd (omega arith)
passed_none n d (of h k) (inr b) = let q = b.1 in absurd (omega arith)
passed_none n d (release h) b = absurd (omega arith)

pub passed-lanes : (n : ℕ) (d : Grid) (g l r : ℕ) → Passed n d g l → ((k : ℕ) → l ≤ k → k < r → can n d (of g k) ≡ false) → Passed n d g r
unfolding Passed
passed-lanes n d g l r p none (of h k) (inl b) = p (of h k) (inl b)
passed-lanes n d g l r p none (of h k) (inr b) = elim (cases_lt k l) [ inl q ↦ p (of h k) (inr (b.0, q)) | inr q ↦ rw b.0 (none k q b.1) ]
passed-lanes n d g l r p none (release h) b = p (release h) b

pub passed_start : (n : ℕ) (d : Grid) (g l : ℕ) → Passed n d g l → Passed n d g 0
unfolding Passed
passed_start n d g l p (of h k) (inl b) = p (of h k) (inl b)
passed_start n d g l p (of h k) (inr b) = let q = b.1 in absurd (omega arith)
passed_start n d g l p (release h) b = p (release h) b

module _ (z : Sizes) (at : ℕ → Body) (ls cs : List ℕ) where
  pub passed-group : (g r : ℕ) → Passed z.lanes (grid_of z at ls cs) g r → z.lanes ≤ r → can z.lanes (grid_of z at ls cs) (release g) ≡ false → Passed z.lanes (grid_of z at ls cs) (g + 1) 0
  unfolding Passed
  passed-group g r p all not-go (of h k) (inl b) =
      elim (cases_eq h g) [
        | inl q ↦ elim (cases_lt k r) [ inl s ↦ p (of h k) (inr (q, s)) | inr s ↦ can-outside z at ls cs h k (inr (omega arith)) ]
        | inr q ↦ p (of h k) (inl (omega arith))
      ]
  passed-group g r p all not-go (of h k) (inr b) = let q = b.1 in absurd (omega arith)
  passed-group g r p all not-go (release h) b = elim (cases_eq h g) [ inl q ↦ rw q not-go | inr q ↦ p (release h) (omega arith) ]

  pub passed-all : (g l : ℕ) → Passed z.lanes (grid_of z at ls cs) g l → z.groups ≤ g → Still z.lanes (grid_of z at ls cs)
  unfolding Passed Still
  passed-all g l p all (of h k) = elim (cases_lt h g) [ inl q ↦ p (of h k) (inl q) | inr q ↦ can-outside z at ls cs h k (inl (omega arith)) ]
  passed-all g l p all (release h) = elim (cases_lt h g) [ inl q ↦ p (release h) q | inr q ↦ cannot-outside z at ls cs h (omega arith) ]

-- what a turn of another lane leaves
pub turn-can : (n : ℕ) (d : Grid) (x u : Turn) → Apart x u → can n (turn n d x) u ≡ can n d u
turn-can n d x u a = elim (cases_Bool (can n d x)) [ inl c ↦ rw (turn-did n d x c) (same-can n d x u a) | inr c ↦ rw (turn-idle n d x c) ]

pub passed-step : (n : ℕ) (d : Grid) (g l : ℕ) → Passed n d g l → Passed n (turn n d (of g l)) g l
unfolding Passed Apart
passed-step n d g l p (of h k) (inl b) = turn-can n d (of g l) (of h k) (λ q _. omega arith) ∙ p (of h k) (inl b)
passed-step n d g l p (of h k) (inr b) = let q = b.1 in turn-can n d (of g l) (of h k) (λ _ r. omega arith) ∙ p (of h k) (inr b)
passed-step n d g l p (release h) b = turn-can n d (of g l) (release h) (λ q. omega arith) ∙ p (release h) b

pub passed-go : (n : ℕ) (d : Grid) (g : ℕ) → Passed n d g 0 → Passed n (turn n d (release g)) g 0
unfolding Passed Apart
passed-go n d g p (of h k) (inl b) = turn-can n d (release g) (of h k) (λ q. omega arith) ∙ p (of h k) (inl b)
passed-go n d g p (of h k) (inr b) = let q = b.1 in absurd (omega arith)
passed-go n d g p (release h) b = turn-can n d (release g) (release h) (λ q. omega arith) ∙ p (release h) b
