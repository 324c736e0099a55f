use Rattle.std.proofs.Common.{get_or, set, refl, ap}
use Rattle.store.proofs.Deeds.{done-put, done-read, done-write, missed-read, missed-write, done-branch, placed_at}
use Rattle.store.proofs.acts.perform.Goals as goal

pub returns-in_default : goal.returns-in_default
returns-in_default c = simp c.in-Read.is (let d = missed-read c.args.z c.args.lanes.now c.args.cells.now c.args.g c.args.l c.args.stop c.requires.lent c.requires.group c.requires.lane c.go_wrong.new.lanes
    c.in-Read.field c.in-Read.own c.in-Read.next c.args.c c.args.v (rw c.owner-place.ensures at c.in_default.ensures) c.go_wrong.ensures in record { did = d.0; sent = d.1 })

pub returns-in_default-spot : goal.returns-in_default-spot
returns-in_default-spot c = simp c.in-Write.is (let d = missed-write c.args.z c.args.lanes.now c.args.cells.now c.args.g c.args.l c.args.stop c.requires.lent c.requires.group c.requires.lane c.go_wrong-in_default-spot.new.lanes
    c.in-Write.field c.in-Write.next c.args.c c.args.v (rw c.owner-place-in-Write.ensures at c.in_default-spot.ensures) c.go_wrong-in_default-spot.ensures in record { did = d.0; sent = d.1 })

pub returns-in-Put : goal.returns-in-Put
returns-in-Put c = simp c.in-Put.is (let d = done-put c.args.z c.args.lanes.now c.args.cells.now c.args.g c.args.l c.args.stop c.requires.lent c.requires.group c.requires.lane c.put_own.new.lanes
    c.in-Put.own c.in-Put.next c.args.c c.args.v (simp c.in-Put.is at c.requires.there) c.put_own.ensures in record { did = d.0; sent = d.1 })

pub returns-in-Some : goal.returns-in-Some
returns-in-Some c = simp c.in-Read.is (let d = done-read c.args.z c.args.lanes.now c.args.cells.now c.args.g c.args.l c.args.stop c.requires.lent c.requires.group c.requires.lane c.put_own-in-Read.new.lanes
    c.in-Read.field c.in-Read.own c.in-Read.next c.args.c c.args.v _ _ (simp c.in-Read.is at c.requires.there) (rw c.owner-place.ensures at c.in-Some.ensures.1)
    (ap (λ i. get_or c.args.cells.now i 0) (rw c.owner-place.ensures at c.in-Some.ensures.0)) c.put_own-in-Read.ensures c.owner-place.ensures refl refl
    (placed_at c.args.z c.in-Read.field c.args.g _ _ _ c.requires.group c.owner-place.ensures (rw c.owner-place.ensures at c.in-Some.ensures.0) c.in-Some.ensures.2 (rw c.owner-place.ensures at c.in-Some.ensures.1)) in record { did = d.0; sent = d.1 })

pub returns-in-Some-spot : goal.returns-in-Some-spot
returns-in-Some-spot c = simp c.in-Write.is (let d = done-write c.args.z c.args.lanes.now c.args.cells.now c.args.g c.args.l c.args.stop c.requires.lent c.requires.group c.requires.lane c.stand.new.lanes _
    c.in-Write.field c.in-Write.next c.args.c c.args.v _ (rw c.owner-place-in-Write.ensures at c.in-Some-spot.ensures.1)
    (ap (λ i. set c.args.cells.now i c.args.v) (rw c.owner-place-in-Write.ensures at c.in-Some-spot.ensures.0)) c.stand.ensures.is c.owner-place-in-Write.ensures refl refl
    (placed_at c.args.z c.in-Write.field c.args.g _ _ _ c.requires.group c.owner-place-in-Write.ensures (rw c.owner-place-in-Write.ensures at c.in-Some-spot.ensures.0) c.in-Some-spot.ensures.2 (rw c.owner-place-in-Write.ensures at c.in-Some-spot.ensures.1)) in record { did = d.0; sent = d.1 })

pub returns-in-Branch : goal.returns-in-Branch
returns-in-Branch c = simp c.in-Branch.is (let d = done-branch c.args.z c.args.lanes.now c.args.cells.now c.args.g c.args.l c.args.stop c.requires.lent c.requires.group c.requires.lane c.stand-in-Branch.new.lanes
    c.in-Branch.yes c.in-Branch.no c.args.c c.args.v c.chosen.result c.chosen.ensures c.stand-in-Branch.ensures.is in record { did = d.0; sent = d.1 })
