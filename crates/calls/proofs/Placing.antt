-- A lane touches the field and the cells of its own group, and no other.
use Rattle.std.proofs.Common.{◌≡◌, ℕ, suc, Bool, true, ◌||◌, eqb, ◌⊎◌, List, [], ◌∷◌, sym, refl, subst, inl, inr, arith}
use Rattle.std.proofs.lemmas.Bool.{cases_Bool, eqb-true}
use Rattle.std.proofs.lemmas.Bool.Decides.{nat_tests}
use Rattle.lanes.specs.Step.{Lane, Act, quiet, reads, writes, act, touched}
use Rattle.lanes.specs.Grid.{Grid, Mark, Turn, of, release, the_group, the_lane, the_act, can, did, marks, marks_at, marked}
use Rattle.lanes.specs.Told.{Shows}
use Rattle.lanes.proofs.Turns.{marked-did, marked-idle}
use Rattle.lanes.proofs.Crossing.{All}
use Rattle.lanes.proofs.Runs.{all_append, all-at}
use Rattle.store.specs.Layout.{numbered}
use Rattle.machine.specs.declared.verdict.Verdict.{Verdict}
use Rattle.machine.specs.declared.verdict.Verdict.TheVariants.{Field, Raced, Wrong, Stuck, TooLong}
use Rattle.machine.specs.Sofar.{first_mark, second_mark}
use Rattle.machine.specs.Verdict.{told_of}
use Rattle.calls.specs.Tell.{OnePlace}

abbrev own : ℕ → ℕ → Bool
own g w = eqb w 0 || eqb w (suc g)

act-reads : (n l g f s : ℕ) (x y : Lane) (w c k : ℕ) → act n l g f s x ≡ reads w c k y → own g w ≡ true
unfolding act
act-reads n l g f s x y w c k e = grind (arith, nat_tests)

act-writes : (n l g f s : ℕ) (x y : Lane) (w c v : ℕ) → act n l g f s x ≡ writes w c v y → own g w ≡ true
unfolding act
act-writes n l g f s x y w c v e = grind (arith, nat_tests)

abbrev Own : Mark → Type 0
Own a = own a.by_group a.touch.where_is ≡ true

marks-own : (g l p : ℕ) (a : Act) → ((w c k : ℕ) (y : Lane) → a ≡ reads w c k y → own g w ≡ true) → ((w c v : ℕ) (y : Lane) → a ≡ writes w c v y → own g w ≡ true) → All Own (marks g l p (touched a))
unfolding touched marks
marks-own g l p (quiet y) f h = tt
marks-own g l p (reads w c k y) f h = (f w c k y refl, tt)
marks-own g l p (writes w c v y) f h = (h w c v y refl, tt)

at_own : (n : ℕ) (d : Grid) (t : Turn) → All Own (marks_at n d t)
unfolding marks_at the_act
at_own n d (of g l) =
    marks-own g l (the_group d g).phase (the_act n d g l) (λ w c k y e. act-reads n l g _ _ (the_lane d g l) y w c k e) (λ w c v y e. act-writes n l g _ _ (the_lane d g l) y w c v e)
at_own n d (release g) = tt

marked-own : (n : ℕ) (d : Grid) (ts : List Turn) → All Own (marked n d ts)
unfolding marked
marked-own n d [] = tt
marked-own n d (t ∷ ts) =
    elim (cases_Bool (can n d t)) [
      | inl e ↦ subst (λ (ms : List Mark). All Own ms) (sym (marked-did n d t ts e)) (all_append Own (marks_at n d t) (marked n (did n d t) ts) (at_own n d t) (marked-own n (did n d t) ts))
      | inr e ↦ subst (λ (ms : List Mark). All Own ms) (sym (marked-idle n d t ts e)) (marked-own n d ts)
    ]

both_own : (a b w : ℕ) → own a w ≡ true → own b w ≡ true → (w ≡ 0) ⊎ ((w ≡ suc a) × (w ≡ suc b))
both_own a b w p q =
    elim (cases_Bool (eqb w 0)) [
      | inl e ↦ inl (eqb-true w 0 e)
      | inr e ↦ inr (eqb-true w (suc a) (rw e at p), eqb-true w (suc b) (rw e at q))
    ]

-- a race that is shown is in one place
pub shown-place : (most n : ℕ) (d : Grid) (ts : List Turn) (v : Verdict) (cs : List ℕ) → Shows most n d ts (told_of v cs) → OnePlace v
unfolding Shows
shown-place most n d ts Field cs s = tt
shown-place most n d ts (Raced r) cs (j, k, ne, hj, hk, ej, ek, ra, fi) =
    both_own r.first.who.group r.second.who.group (numbered r.place)
    (all-at Own (marked n d ts) j (first_mark r) (marked-own n d ts) hj ej) (all-at Own (marked n d ts) k (second_mark r) (marked-own n d ts) hk ek)
shown-place most n d ts (Wrong g l i) cs s = tt
shown-place most n d ts (Stuck g) cs s = tt
shown-place most n d ts TooLong cs s = tt
