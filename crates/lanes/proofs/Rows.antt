-- The table: every row is computed by the same test, and what is told of it follows.
use Rattle.std.proofs.Common.{◌≡◌, ℕ, ◌≤◌, Bool, true, ◌&&◌, ltb, List, [], ◌∷◌, refl, ◌∙◌, subst, arith}
use Rattle.std.proofs.lemmas.Bool.{and_parts}
use Rattle.std.proofs.lemmas.Bool.Decides.{nat_tests}
use Rattle.lanes.specs.Syntax.{followed, at_barrier, ended, past_barrier}
use Rattle.lanes.specs.Step.{value, store, act, lane_of, after, touched}
use Rattle.lanes.specs.Grid.{Turn, the_group, the_lane, all_lanes, all_past, can, the_act, did, turn, turns, marks, marks_at, marked, steps, all_ended, begin}
use Rattle.lanes.specs.Race.{race, unparted}
use Rattle.lanes.specs.Told.{Told, cells, told_first, Shows}
use Rattle.lanes.specs.Table.{Row, table, start_of, RowStands, AllStand, TableStands}
use Rattle.lanes.proofs.Tested.{shows_test, tested}
use Rattle.lanes.proofs.Orders.{any-order-from}

-- a row is computed: a lane in each group, and what its order shows
abbrev row_test : Row → Bool
row_test r = ltb 0 r.lanes && shows_test r.granted r.lanes (start_of r) r.order r.told

abbrev all_test : List Row → Bool
all_test [] = true
all_test (r ∷ rs) = row_test r && all_test rs

above : (n : ℕ) → ltb 0 n ≡ true → 1 ≤ n
above n e = grind (arith, nat_tests)

every_order : (r : Row) (cs : List ℕ) (us : List Turn) → 1 ≤ r.lanes → Shows r.granted r.lanes (start_of r) r.order (cells cs) →
    all_ended (turns r.lanes (start_of r) us).groups_of ≡ true → (turns r.lanes (start_of r) us).memory.all ≡ cs
unfolding Shows
every_order r cs us some s over =
    (any-order-from r.program r.groups r.lanes r.field r.order us some s.0 s.2).field over ∙ s.4

row-stands : (r : Row) → row_test r ≡ true → RowStands r
row-stands r e =
    let q = and_parts (ltb 0 r.lanes) _ e in
    let s : Shows r.granted r.lanes (start_of r) r.order r.told = tested r.granted r.lanes (start_of r) r.order r.told q.1 in
    record {
      shows = s;
      every_order = λ cs t us over.
          every_order r cs us (above r.lanes q.0) (subst (λ (z : Told). Shows r.granted r.lanes (start_of r) r.order z) t s) over;
    }

pub all-stand : (rs : List Row) → all_test rs ≡ true → AllStand rs
unfolding AllStand
all-stand [] e = tt
all-stand (r ∷ rs) e = let q = and_parts (row_test r) (all_test rs) e in (row-stands r q.0, all-stand rs q.1)

computed : all_test table ≡ true
unfolding followed at_barrier ended past_barrier value store act lane_of after touched the_group the_lane all_lanes all_past can the_act did turn turns marks marks_at marked steps all_ended begin race unparted told_first
computed = refl

pub table-stands : TableStands
unfolding TableStands
table-stands = all-stand table computed
