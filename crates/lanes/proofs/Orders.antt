-- One end, any order, and each lane's touches: what follows from one row of turns without a race.
use Rattle.std.proofs.Common.{◌≡◌, ℕ, ◌<◌, ◌≤◌, true, false, List, [], ◌++◌, length, get_or, sym, refl, ap, ◌∙◌, subst, inl, inr, append-nil, arith}
use Rattle.std.proofs.lemmas.List.{get_or_default}
use Rattle.std.proofs.lemmas.Bool.{cases_Bool, cases_order, both_ways}
use Rattle.std.proofs.lemmas.Bool.Decides.{nat_tests}
use Rattle.lanes.specs.Syntax.{Program}
use Rattle.lanes.specs.Grid.{Grid, Mark, Turn, can, turns, marked, steps, all_ended, begin}
use Rattle.lanes.specs.Race.{race, unparted, Races}
use Rattle.lanes.specs.Promise.{Still, SameEnd, OneEnd, SameField, AnyOrder, marks_of, SameTouches, Phases}
use Rattle.lanes.proofs.Turns.{turns-append, full-turns, full-begin, ended-still, still-idle}
use Rattle.lanes.proofs.Runs.{Left, run-from, run-turns, follow, arrived, all-at, all_from}

pub race-comm : (a b : Mark) → race a b ≡ race b a
unfolding race unparted
race-comm a b = grind (arith, nat_tests)

-- no mark races with itself
pub race-self : (a : Mark) → race a a ≡ false
unfolding race unparted
race-self a = grind (arith, nat_tests)

-- the mark a stands in a list
abbrev pub Among : List Mark → Mark → Type 0
Among ms a = (j : ℕ) × (j < length ms) × (get_or ms j a ≡ a)

-- marks of a row without a race don't race, in whichever order
pub calm-from : (ms : List Mark) → (Races ms → ⊥) → (a b : Mark) → Among ms a → Among ms b → race a b ≡ false
unfolding Races
calm-from ms no_race a b (j, hj, ej) (k, hk, ek) =
    elim (cases_Bool (race a b)) [
      | inr f ↦ f
      | inl t ↦ absurd (elim (cases_order j k) [
        | inl q ↦
            let same : a ≡ b = sym ej ∙ (get_or_default ms j a b hj ∙ (ap (λ (i : ℕ). get_or ms i b) q ∙ ek)) in
            both_ways _ (race-self a) (subst (λ x. race a x ≡ true) (sym same) t)
        | inr o ↦ elim o [
          | inl h ↦ no_race (j, k, a, b, h, hk, ej, ek, t)
          | inr h ↦ no_race (k, j, b, a, h, hj, ek, ej, sym (race-comm a b) ∙ t)
        ]
      ])
    ]

module _ (n : ℕ) (d : Grid) (ts us : List Turn) (still : Still n (turns n d ts)) (no_race : Races (marked n d ts) → ⊥) where
  P : Mark → Type 0
  P = Among (marked n d ts)

  calm : (a b : Mark) → P a → P b → race a b ≡ false
  unfolding P
  calm = calm-from (marked n d ts) no_race

  over : (t : Turn) → can n (turns n d ts) t ≡ true → ⊥
  over = still-idle n (turns n d ts) still

  all-P : (j : ℕ) (a : Mark) → j < length (marked n d ts) → get_or (marked n d ts) j a ≡ a → P a
  unfolding P
  all-P j a h q = (j, h, q)

  left : Left n P calm (turns n d ts) over (steps n d us) (steps n d ts) (marked n d us) (marked n d ts) (turns n d us)
  left = follow n P calm (turns n d ts) over us (run-from n P (turns n d ts) ts d (all_from P (marked n d ts) all-P) refl)

  arrives : Still n (turns n d us) → (turns n d us ≡ turns n d ts) × (left.number ≡ 0) × (left.later ≡ [])
  arrives h = arrived n P calm (turns n d ts) over left.run (still-idle n (turns n d us) h)

  no-race-there : Races (marked n d us) → ⊥
  unfolding Races
  no-race-there c =
      both_ways _
      (calm c.2 c.3 (all-at P (marked n d us) c.0 c.2 left.kept (omega arith) c.6) (all-at P (marked n d us) c.1 c.3 left.kept c.5 c.7))
      c.8

  same_end : SameEnd n d ts us
  same_end =
      let vs = run-turns left.run in
      record {
        no_race = no-race-there;
        rest = vs.0;
        goes_on = turns-append n d us vs.0 ∙ vs.1;
        no_more = omega (arith, left.counts);
        arrives = λ h. let z = arrives h in (z.0, omega (arith, left.counts, z.1));
      }

  same-touches : SameTouches n d ts us
  unfolding marks_of
  same-touches =
      record {
        later = left.later;
        begun = left.in_order;
        done = λ h g l.
            sym (left.in_order g l ∙ ap (λ (ms : List Mark). marks_of g l (marked n d us) ++ marks_of g l ms) (arrives h).2 ∙ append-nil (marks_of g l (marked n d us)));
      }

pub one_end : OneEnd
unfolding OneEnd
one_end n d ts us still no_race = same_end n d ts us still no_race

pub phases : Phases
unfolding Phases
phases n d ts us still no_race = same-touches n d ts us still no_race

-- the beginning with a lane in each group, and rows from it
pub ended-stills : (p : Program) (groups n : ℕ) (all : List ℕ) (ts : List Turn) → 1 ≤ n → all_ended (turns n (begin p groups n all) ts).groups_of ≡ true →
    Still n (turns n (begin p groups n all) ts)
ended-stills p groups n all ts some over =
    ended-still n (turns n (begin p groups n all) ts) over (full-turns n (begin p groups n all) ts (full-begin p groups n all some))

pub any-order-from : (p : Program) (groups n : ℕ) (all : List ℕ) (ts us : List Turn) → 1 ≤ n →
    all_ended (turns n (begin p groups n all) ts).groups_of ≡ true → (Races (marked n (begin p groups n all) ts) → ⊥) → SameField n (begin p groups n all) ts us
any-order-from p groups n all ts us some over no_race =
    let r = same_end n (begin p groups n all) ts us (ended-stills p groups n all ts some over) no_race in
    record {
      no_race = r.no_race;
      rest = r.rest;
      goes_on = rw r.goes_on over;
      field = λ h. ap (λ (z : Grid). z.memory.all) (r.arrives (ended-stills p groups n all us some h)).0;
    }

pub any_order : AnyOrder
unfolding AnyOrder
any_order p groups n all ts us fits over no_race = any-order-from p groups n all ts us fits.some_lane over no_race
