-- Where one row of turns shows a field, no row shows anything else.
use Rattle.std.proofs.Common.{◌≡◌, ℕ, ◌≤◌, true, false, List, get_or, sym, ap, ◌∙◌, subst, inl, inr, arith}
use Rattle.std.proofs.lemmas.Bool.{cases_Bool, cases_order, both_ways}
use Rattle.lanes.specs.Syntax.{Program, at_barrier}
use Rattle.lanes.specs.Grid.{Grid, Turn, Mark, no_group, the_group, the_lane, turns, steps, all_ended, begin}
use Rattle.lanes.specs.Race.{Races}
use Rattle.lanes.specs.Told.{Told, cells, races, missing, stuck, too_long, NoneWrong, Shows, Right}
use Rattle.lanes.specs.Promise.{SameEnd, OneEnd, InOrder, NeverAccused, OneVerdict}
use Rattle.lanes.proofs.Turns.{turns-append, ended-group, ended-waits}
use Rattle.lanes.proofs.Wrong.{turns-wrong}
use Rattle.lanes.proofs.Orders.{race-comm, one_end, ended-stills}

-- where all has ended, no lane waits
pub none-waits : (d : Grid) (g l : ℕ) → all_ended d.groups_of ≡ true → at_barrier (the_lane d g l).left ≡ true → ⊥
unfolding the_lane the_group
none-waits d g l e w = ended-waits (get_or d.groups_of g no_group).lanes_of l (ended-group d.groups_of g e) w

module _ (most n : ℕ) (d : Grid) (cs : List ℕ) (ts us : List Turn) (shown : Shows most n d ts (cells cs)) (end : SameEnd n d ts us)
    (last : all_ended (turns n d us).groups_of ≡ true → turns n d us ≡ turns n d ts) where
  over : all_ended (turns n d ts).groups_of ≡ true
  unfolding Shows
  over = shown.0

  right : (g l : ℕ) → (the_lane (turns n d ts) g l).wrong ≡ false
  unfolding Shows NoneWrong
  right = shown.1

  few : steps n d ts ≤ most
  unfolding Shows
  few = shown.3

  gone : turns n (turns n d us) end.rest ≡ turns n d ts
  gone = sym (turns-append n d us end.rest) ∙ end.goes_on

  not-wrong : (g l : ℕ) → (the_lane (turns n d us) g l).wrong ≡ true → ⊥
  not-wrong g l e = both_ways _ (right g l) (subst (λ (z : Grid). (the_lane z g l).wrong ≡ true) gone (turns-wrong n (turns n d us) end.rest g l e))

  none_wrong : NoneWrong (turns n d us)
  unfolding NoneWrong
  none_wrong g l = elim (cases_Bool (the_lane (turns n d us) g l).wrong) [ inl e ↦ absurd (not-wrong g l e) | inr e ↦ e ]

  not-racing : (a b : Mark) → Shows most n d us (races a b) → ⊥
  unfolding Shows Races
  not-racing a b (j, k, ne, hj, hk, ej, ek, r, first) =
      elim (cases_order j k) [
        | inl q ↦ ne q
        | inr o ↦ elim o [ inl h ↦ end.no_race (j, k, a, b, h, hk, ej, ek, r) | inr h ↦ end.no_race (k, j, b, a, h, hj, ek, ej, sym (race-comm a b) ∙ r) ]
      ]

  not_stuck : (g : ℕ) → Shows most n d us (stuck g) → ⊥
  unfolding Shows the_lane
  not_stuck g (h, stays, (l, k, w)) =
      let same : the_group (turns n d ts) g ≡ the_group (turns n d us) g = ap (λ (z : Grid). the_group z g) (sym end.goes_on) ∙ stays end.rest in
      none-waits (turns n d ts) g l over (rw same w)

  not-long : Shows most n d us too_long → ⊥
  unfolding Shows
  not-long h = let a = end.no_more in let b = few in omega arith

  only : (told : Told) → Shows most n d us told → told ≡ cells cs
  unfolding Shows
  only (cells xs) s = ap cells (sym s.4 ∙ ap (λ (z : Grid). z.memory.all) (last s.0) ∙ shown.4)
  only (races a b) s = absurd (not-racing a b s)
  only (missing g l) s = absurd (not-wrong g l s)
  only (stuck g) s = absurd (not_stuck g s)
  only too_long s = absurd (not-long s)

  in_order : InOrder most n d cs ts us
  in_order = record { no_race = end.no_race; none_wrong = none_wrong; no_more = end.no_more; granted = let a = end.no_more in let b = few in omega arith; only_field = only }

-- all that is asked of the program is that a group has a lane
pub never_accused-from : (most : ℕ) (p : Program) (groups n : ℕ) (all cs : List ℕ) (ts us : List Turn) → 1 ≤ n →
    Shows most n (begin p groups n all) ts (cells cs) → InOrder most n (begin p groups n all) cs ts us
unfolding Shows OneEnd
never_accused-from most p groups n all cs ts us some shown =
    let d : Grid = begin p groups n all in
    let end : SameEnd n d ts us = one_end n d ts us (ended-stills p groups n all ts some shown.0) shown.2 in
    in_order most n d cs ts us shown end (λ e. (end.arrives (ended-stills p groups n all us some e)).0)

pub never_accused : NeverAccused
unfolding NeverAccused
never_accused most p groups n all cs ts us fits shown = never_accused-from most p groups n all cs ts us fits.some_lane shown

pub one-verdict : OneVerdict
unfolding OneVerdict Right
one-verdict most p groups n all cs told fits (ts, shown) (us, shows) = (never_accused-from most p groups n all cs ts us fits.some_lane shown).only_field told shows
