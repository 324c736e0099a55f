-- Marks with one more at the end.
use Rattle.std.proofs.Common.{◌≡◌, ℕ, suc, ◌<◌, ◌⊎◌, List, [], ◌∷◌, ◌++◌, length, get_or, sym, refl, inl, inr, arith}
use Rattle.lanes.specs.Grid.{Mark}
use Rattle.touches.specs.Kept.{Among}

abbrev pub more : List Mark → Mark → List Mark
more ms x = ms ++ (x ∷ [])

pub newest : (x : Mark) (ms : List Mark) → Among x (more ms x)
unfolding Among
newest x [] = inl refl
newest x (y ∷ ms) = inr (newest x ms)

pub further : (x m : Mark) (ms : List Mark) → Among m ms → Among m (more ms x)
unfolding Among
further x m [] i = absurd i
further x m (y ∷ ms) (inl e) = inl e
further x m (y ∷ ms) (inr i) = inr (further x m ms i)

pub among-more : (m : Mark) (ms : List Mark) (x : Mark) → Among m (more ms x) → (m ≡ x) ⊎ Among m ms
unfolding Among
among-more m [] x (inl e) = inl e
among-more m [] x (inr i) = absurd i
among-more m (y ∷ ms) x (inl e) = inr (inl e)
among-more m (y ∷ ms) x (inr i) = elim (among-more m ms x i) [ inl e ↦ inl e | inr j ↦ inr (inr j) ]

-- one of the marks stands at some place among them
pub among-place : (m : Mark) (ms : List Mark) → Among m ms → (j : ℕ) × (j < length ms) × (get_or ms j m ≡ m)
unfolding Among
among-place m [] i = absurd i
among-place m (x ∷ ms) (inl e) = (0, omega arith, sym e)
among-place m (x ∷ ms) (inr i) = let p = among-place m ms i in let h = p.1 in (suc p.0, omega arith, p.2)
