-- One more mark: it races with none, or with one that is named.
use Rattle.std.proofs.Common.{◌≡◌, ℕ, zero, suc, ◌<◌, true, false, List, [], ◌∷◌, ◌++◌, length, get_or, sym, refl, ap, ◌∙◌, subst, inl, inr, arith}
use Rattle.std.proofs.lemmas.Bool.{cases_lt, both_ways}
use Rattle.std.proofs.lemmas.Bool.Decides.{nat_tests}
use Rattle.lanes.specs.Grid.{Grid, Turn, Mark, marked}
use Rattle.lanes.specs.Race.{race, unparted, Races}
use Rattle.lanes.specs.Told.{Shows, races, told_first}
use Rattle.lanes.proofs.Crossing.{All}
use Rattle.touches.specs.Kept.{Among}
use Rattle.touches.proofs.Marks.{among-place}

pub among-all : (P : Mark → Type 0) (m : Mark) (ms : List Mark) → All P ms → Among m ms → P m
unfolding Among
among-all P m [] s i = absurd i
among-all P m (x ∷ ms) s (inl e) = subst P (sym e) s.0
among-all P m (x ∷ ms) s (inr i) = among-all P m ms s.1 i

place-among : (m : Mark) (ms : List Mark) (j : ℕ) → j < length ms → get_or ms j m ≡ m → Among m ms
unfolding Among
place-among m [] j h e = absurd (omega arith)
place-among m (x ∷ ms) zero h e = inl (sym e)
place-among m (x ∷ ms) (suc j) h e = inr (place-among m ms j (omega arith) e)

-- the last of one more
last-is : (ms : List Mark) (x d : Mark) → get_or (ms ++ (x ∷ [])) (length ms) d ≡ x
last-is [] x d = refl
last-is (y ∷ ms) x d = last-is ms x d

early-is : (ms : List Mark) (x d : Mark) (j : ℕ) → j < length ms → get_or (ms ++ (x ∷ [])) j d ≡ get_or ms j d
early-is [] x d j h = absurd (omega arith)
early-is (y ∷ ms) x d zero h = refl
early-is (y ∷ ms) x d (suc j) h = early-is ms x d j (omega arith)

longer : (ms : List Mark) (x : Mark) → length (ms ++ (x ∷ [])) ≡ suc (length ms)
longer [] x = refl
longer (y ∷ ms) x = ap suc (longer ms x)

-- none of the earlier marks races with the new one
pub calm_more : (ms : List Mark) (x : Mark) → (Races ms → ⊥) → ((m : Mark) → Among m ms → race m x ≡ false) → Races (ms ++ (x ∷ [])) → ⊥
unfolding Races
calm_more ms x calm none (j, k, a, b, h, hk, ej, ek, r) =
    let long = longer ms x in
    let hj : j < length ms = omega arith in
    let aj : get_or ms j a ≡ a = sym (early-is ms x a j hj) ∙ ej in
    elim (cases_lt k (length ms)) [
      | inl hk' ↦ calm (j, k, a, b, h, hk', aj, sym (early-is ms x b k hk') ∙ ek, r)
      | inr hk' ↦
          let same : k ≡ length ms = omega arith in
          let bx : x ≡ b = sym (last-is ms x b) ∙ (ap (λ (i : ℕ). get_or (ms ++ (x ∷ [])) i b) (sym same) ∙ ek) in
          both_ways _ (none a (place-among a ms j hj aj)) (rw bx r)
    ]

other-first : (a b : Mark) → race a b ≡ true → told_first a b ≡ false → told_first b a ≡ true
unfolding race unparted told_first
other-first a b r e = grind (arith, nat_tests)

race-turned : (a b : Mark) → race a b ≡ true → race b a ≡ true
unfolding race unparted
race-turned a b r = grind (arith, nat_tests)

-- the new mark and one of the earlier ones race: they are shown, the one that is told first as the first
module _ (most n : ℕ) (d : Grid) (us : List Turn) (ms : List Mark) (a x : Mark) (all : marked n d us ≡ ms ++ (x ∷ [])) (among : Among a ms) (r : race a x ≡ true) where
  place : (j : ℕ) × (j < length ms) × (get_or ms j a ≡ a)
  place = among-place a ms among

  pub shows-earlier : told_first a x ≡ true → Shows most n d us (races a x)
  unfolding Shows
  shows-earlier e =
      let p = place in let h = p.1 in let long = longer ms x in
      rw all (p.0, length ms, (λ q. omega arith), omega arith, omega arith, early-is ms x a p.0 h ∙ p.2, last-is ms x x, r, e)

  pub shows_later : told_first a x ≡ false → Shows most n d us (races x a)
  unfolding Shows
  shows_later e =
      let p = place in let h = p.1 in let long = longer ms x in
      rw all (length ms, p.0, (λ q. omega arith), omega arith, omega arith, last-is ms x x, early-is ms x a p.0 h ∙ p.2, race-turned a x r, other-first a x r e)
