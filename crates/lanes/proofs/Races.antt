-- What a race is, from both sides.
use Rattle.std.proofs.Common.{◌≡◌, true, false, ◌||◌, ◌≢◌, refl, inl, inr, arith}
use Rattle.std.proofs.lemmas.Bool.{cases_Bool, cases_eq}
use Rattle.std.proofs.lemmas.Bool.Decides.{nat_tests}
use Rattle.lanes.specs.Grid.{Mark}
use Rattle.lanes.specs.Race.{race, unparted}
use Rattle.lanes.specs.Promise.{Racing, WhatRaces}
use Rattle.lanes.proofs.Orders.{race-comm, race-self}

one_place : (a b : Mark) → race a b ≡ true → a.touch.where_is ≡ b.touch.where_is
unfolding race
one_place a b e = grind (arith, nat_tests)

one_cell : (a b : Mark) → race a b ≡ true → a.touch.cell ≡ b.touch.cell
unfolding race
one_cell a b e = grind (arith, nat_tests)

one_writes : (a b : Mark) → race a b ≡ true → a.touch.wrote ≡ false → b.touch.wrote ≡ true
unfolding race
one_writes a b e f = grind (arith, nat_tests)

one_phase : (a b : Mark) → race a b ≡ true → a.by_group ≡ b.by_group → a.phase ≡ b.phase
unfolding race unparted
one_phase a b e f = grind (arith, nat_tests)

two_lanes : (a b : Mark) → race a b ≡ true → a.by_group ≡ b.by_group → a.by_lane ≢ b.by_lane
unfolding race unparted
two_lanes a b e f q = grind (arith, nat_tests)

pub races-only : (a b : Mark) → race a b ≡ true → Racing a b
races-only a b e =
    record {
      one_place = one_place a b e;
      one_cell = one_cell a b e;
      one_writes = elim (cases_Bool a.touch.wrote) [ inl w ↦ inl w | inr w ↦ inr (one_writes a b e w) ];
      not_parted = elim (cases_eq a.by_group b.by_group) [
        | inl q ↦ inr (record { one_group = q; one_phase = one_phase a b e q; two_lanes = two_lanes a b e q })
        | inr q ↦ inl q
      ];
    }

of-two-groups : (a b : Mark) → a.by_group ≢ b.by_group → unparted a b ≡ true
unfolding unparted
of-two-groups a b q = grind (arith, nat_tests)

of-one_group : (a b : Mark) → a.phase ≡ b.phase → a.by_lane ≢ b.by_lane → unparted a b ≡ true
unfolding unparted
of-one_group a b p q = grind (arith, nat_tests)

raced : (a b : Mark) → a.touch.where_is ≡ b.touch.where_is → a.touch.cell ≡ b.touch.cell → (a.touch.wrote || b.touch.wrote) ≡ true → unparted a b ≡ true → race a b ≡ true
unfolding race
raced a b p c w u = grind (arith, nat_tests)

pub races-then : (a b : Mark) → Racing a b → race a b ≡ true
races-then a b r =
    raced a b r.one_place r.one_cell (elim r.one_writes [ inl w ↦ rw w refl | inr w ↦ rw w (grind arith) ])
    (elim r.not_parted [ inl q ↦ of-two-groups a b q | inr q ↦ of-one_group a b q.one_phase q.two_lanes ])

pub what-races : WhatRaces
unfolding WhatRaces
what-races a b = record { only_then = races-only a b; then_always = races-then a b; either_way = race-comm a b; not_itself = race-self a }
