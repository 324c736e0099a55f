-- Acts performed on memory: what a store keeps, and two acts in either order.
use Rattle.std.proofs.Common.{◌≡◌, ℕ, zero, suc, List, [], length, get_or, set, sym, refl, ap, arith, length-set, get_or-set_other}
use lib.Seq.{set_comm}
use Rattle.lanes.specs.Step.{Memory, cells, store, Act, quiet, reads, writes, lane_of, after}
use Rattle.lanes.proofs.Places.{at-keeps, at-comm}

-- memory of the same lengths
unfoldable pub Alike : Memory → Memory → Type 0
Alike m m' = (w : ℕ) → length (cells m w) ≡ length (cells m' w)

-- a store keeps the lengths, and any other cell
pub length-store : (m : Memory) (w c v u : ℕ) → length (cells (store m w c v) u) ≡ length (cells m u)
unfolding store
length-store m zero c v zero = length-set m.all c v
length-store m zero c v (suc h) = refl
length-store m (suc g) c v zero = refl
length-store m (suc g) c v (suc h) = at-keeps [] length m.groups g h (λ xs. set xs c v) (λ _ xs. length-set xs c v)

pub cell-store : (m : Memory) (w c v u d : ℕ) → (w ≡ u → c ≡ d → ⊥) → get_or (cells (store m w c v) u) d 0 ≡ get_or (cells m u) d 0
unfolding store
cell-store m zero c v zero d ne = get_or-set_other m.all c d v 0 (λ e. ne refl (sym e))
cell-store m zero c v (suc h) d ne = refl
cell-store m (suc g) c v zero d ne = refl
cell-store m (suc g) c v (suc h) d ne =
    at-keeps [] (λ xs. get_or xs d 0) m.groups g h (λ xs. set xs c v) (λ e xs. get_or-set_other xs c d v 0 (λ e'. ne (ap suc e) (sym e')))

pub store-comm : (m : Memory) (w c v u d z : ℕ) → (w ≡ u → c ≡ d → ⊥) → store (store m w c v) u d z ≡ store (store m u d z) w c v
unfolding store
store-comm m zero c v zero d z ne = ap (λ (xs : List ℕ). record { all = xs; groups = m.groups }) (set_comm m.all c d v z (ne refl))
store-comm m zero c v (suc h) d z ne = refl
store-comm m (suc g) c v zero d z ne = refl
store-comm m (suc g) c v (suc h) d z ne =
    ap (λ (xs : List (List ℕ)). record { all = m.all; groups = xs })
    (at-comm [] m.groups g h (λ xs. set xs c v) (λ xs. set xs d z) (λ e xs. set_comm xs c d v z (ne (ap suc e))))

pub after-alike : (a : Act) (m : Memory) → Alike (after a m) m
unfolding Alike after
after-alike (quiet y) m u = refl
after-alike (reads w c k y) m u = refl
after-alike (writes w c v y) m u = length-store m w c v u

-- neither touches a cell that the other writes
unfoldable pub Clear : Act → Act → Type 0
Clear (quiet y) b = Unit {0}
Clear (reads w c k x) (quiet y) = Unit {0}
Clear (reads w c k x) (reads u d j y) = Unit {0}
Clear (reads w c k x) (writes u d z y) = w ≡ u → c ≡ d → ⊥
Clear (writes w c v x) (quiet y) = Unit {0}
Clear (writes w c v x) (reads u d j y) = w ≡ u → c ≡ d → ⊥
Clear (writes w c v x) (writes u d z y) = w ≡ u → c ≡ d → ⊥

pub after-comm : (a b : Act) (m : Memory) → Clear a b → after b (after a m) ≡ after a (after b m)
unfolding Clear after
after-comm a b m h = grind (arith, store-comm)

pub lane-after : (a b : Act) (m : Memory) → Clear a b → lane_of b (after a m) ≡ lane_of b m
unfolding lane_of Clear after
lane-after a b m h = grind (arith, cell-store)
