-- A mask of one lane.
use Rattle.std.proofs.Common.{◌≡◌, ℕ, zero, suc, ◌/◌, ◌%◌, ◌^◌, ◌<◌, true, eqb, List, [], ◌∷◌, Some, refl, ap, inl, inr, add-zero, arith, false, None, Option, ◌⊎◌, sym, subst}
use native.Mathlib.Nat.{div-eq_of_lt}
use Rattle.std.proofs.lemmas.Nat.{pow_below}
use Rattle.std.proofs.lemmas.Bool.{both_ways, cases_lt, cases_Bool}
use Rattle.machine.proofs.Stances.{can-outside}
use Rattle.lanes.specs.Syntax.{Body}
use Rattle.lanes.specs.Grid.{Grid, of, release, can, turns}
use Rattle.store.specs.declared.Sizes.{Sizes}
use Rattle.store.specs.Lent.{grid_of}
use Rattle.masks.specs.Masks.{on}
use Rattle.machine.specs.Line.{row_turns}
use Rattle.machine.specs.declared.schedule.Choice.{Choice}
use Rattle.machine.specs.declared.schedule.Choice.TheVariants.{Row, GoOn}
use Rattle.machine.specs.declared.inturn.InTurn.{InTurn}
use Rattle.machine.specs.declared.script.Written.{Written}
use Rattle.machine.specs.declared.script.Written.TheVariants.{Of, Release}
use Rattle.machine.specs.Schedule.{RowCan, Passed, Picked, Says, come_to, CanDo, named}
use Rattle.machine.proofs.Passing.{passed-step, passed-go}

pub one_on : (i : ℕ) → on 1 i ≡ true → i ≡ 0
one_on zero e = refl
one_on (suc j) e =
    let h : 1 / 2 ^ suc j ≡ 0 = div-eq_of_lt (pow_below 0 (suc j) (omega arith)) in
    absurd (both_ways _ (ap (λ (k : ℕ). eqb (k % 2) 1) h) e)

pub row_one : (g l : ℕ) → row_turns g l 1 32 ≡ of g l ∷ []
unfolding row_turns
row_one g l = ap (λ (k : ℕ). of g k ∷ []) (add-zero l)

pub one-can : (z : Sizes) (at : ℕ → Body) (ls cs : List ℕ) (g l mask : ℕ) → mask ≡ 1 → g < z.groups → l < z.lanes → can z.lanes (grid_of z at ls cs) (of g l) ≡ true → RowCan z at ls cs g l mask
one-can z at ls cs g l mask one hg hl could = rw one (record {
  group = hg;
  start_there = hl;
  there = λ i _ e. let q = one_on i e in omega arith;
  lowest = 0;
  lowest_few = omega arith;
  lowest_on = refl;
  one_line = λ i _ e. rw (one_on i e);
  can_step = λ i _ e. rw (one_on i e, add-zero l) could;
})

pub one-passed : (n : ℕ) (d : Grid) (g l mask : ℕ) → mask ≡ 1 → Passed n d g l → Passed n (turns n d (row_turns g l mask 32)) g l
unfolding turns
one-passed n d g l mask one p = rw (one, row_one g l) (passed-step n d g l p)

pub go-passed : (n : ℕ) (d : Grid) (g : ℕ) → Passed n d g 0 → Passed n (turns n d (release g ∷ [])) g 0
unfolding turns
go-passed n d g p = passed-go n d g p

-- what is found is named
abbrev pub InTurnKnows : InTurn → ℕ → Grid → Type 0
InTurnKnows s n d = Passed n d s.group s.lane

pub picked-says : (z : Sizes) (at : ℕ → Body) (ls cs : List ℕ) (c : Choice) → Picked z at ls cs (Some c) → Says InTurnKnows (come_to c) z at ls cs (Some c)
picked-says z at ls cs (Row g l mask) q = (one-can z at ls cs g l mask q.0 q.1 q.2 q.3, one-passed z.lanes (grid_of z at ls cs) g l mask q.0 q.4)
picked-says z at ls cs (GoOn g) q = (q.1, go-passed z.lanes (grid_of z at ls cs) g q.2)

-- a lane that can step is there
pub step_in : (z : Sizes) (at : ℕ → Body) (ls cs : List ℕ) (g l : ℕ) → can z.lanes (grid_of z at ls cs) (of g l) ≡ true → (g < z.groups) × (l < z.lanes)
step_in z at ls cs g l e = (
  elim (cases_lt g z.groups) [ inl h ↦ h | inr h ↦ absurd (both_ways _ (can-outside z at ls cs g l (inl h)) e) ],
  elim (cases_lt l z.lanes) [ inl h ↦ h | inr h ↦ absurd (both_ways _ (can-outside z at ls cs g l (inr h)) e) ],
)

-- what a written turn names can be done
pub named-can : (z : Sizes) (at : ℕ → Body) (ls cs : List ℕ) (w : Written) (c : Choice) → Some c ≡ named z.lanes (grid_of z at ls cs) w → CanDo z at ls cs c
named-can z at ls cs (Of g l) c e = by (cases_Bool (can z.lanes (grid_of z at ls cs) (of g l)))
  where
    by : (can z.lanes (grid_of z at ls cs) (of g l) ≡ true) ⊎ (can z.lanes (grid_of z at ls cs) (of g l) ≡ false) → CanDo z at ls cs c
    by (inl t) = let q : c ≡ Row g l 1 = cc (rw t at e) in let there = step_in z at ls cs g l t in rw q (one-can z at ls cs g l 1 refl there.0 there.1 t)
    by (inr f) = let q : ◌≡◌ {A = Option Choice} (Some c) None = rw f at e in cc
named-can z at ls cs (Release g) c e = by (cases_Bool (can z.lanes (grid_of z at ls cs) (release g)))
  where
    by : (can z.lanes (grid_of z at ls cs) (release g) ≡ true) ⊎ (can z.lanes (grid_of z at ls cs) (release g) ≡ false) → CanDo z at ls cs c
    by (inl t) = let q : c ≡ GoOn g = cc (rw t at e) in rw q t
    by (inr f) = let q : ◌≡◌ {A = Option Choice} (Some c) None = rw f at e in cc
