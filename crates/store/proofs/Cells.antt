-- Each cell has a place of its own; memory under a write of one cell.
use Rattle.std.proofs.Common.{◌≡◌, ℕ, zero, suc, ◌+◌, ◌-◌, ◌*◌, ◌<◌, ◌≤◌, Bool, true, false, List, [], length, get_or, set, sym, refl, ap, subst, arith, get_or-set_other, get_or-set_same, ltb, leb, Option, MatchOption}
use Rattle.std.specs.Bool.{then_some}
use Rattle.std.proofs.lemmas.Bool.{ltb-true, ltb-false, leb-true, leb-false}
use lib.Arith.{digits_lt}
use Rattle.lanes.specs.Step.{Memory, cells, store}
use Rattle.store.specs.declared.Sizes.{Sizes}
use Rattle.store.specs.Layout.{base, size, cells_room, whose}
use Rattle.store.specs.Lent.{upto, field_of, memory_of}
use Rattle.store.proofs.Upto.{upto-at, upto-length, upto-same, upto-set, digits_same}

pub whose-le : (f : Bool) (g n : ℕ) → g < n → whose f g ≤ n
whose-le true g n h = omega arith
whose-le false g n h = h

-- what a place of memory holds
pub cells-length : (z : Sizes) (cs : List ℕ) (w : ℕ) → w ≤ z.groups → length (cells (memory_of z cs) w) ≡ size z w
unfolding memory_of field_of size
cells-length z cs zero h = upto-length _ z.field
cells-length z cs (suc g) h = rw (upto-at [] (λ g. upto (λ c. get_or cs (base z (suc g) + c) 0) z.shared) z.groups g h) (upto-length _ z.shared)

pub cells_at : (z : Sizes) (cs : List ℕ) (w c : ℕ) → w ≤ z.groups → c < size z w → get_or (cells (memory_of z cs) w) c 0 ≡ get_or cs (base z w + c) 0
unfolding memory_of field_of size
cells_at z cs zero c h k = upto-at 0 _ z.field c k
cells_at z cs (suc g) c h k = rw (upto-at [] (λ g. upto (λ c. get_or cs (base z (suc g) + c) 0) z.shared) z.groups g h) (upto-at 0 _ z.shared c k)

-- a cell has a place of its own
pub spot-lt : (z : Sizes) (w c : ℕ) → w ≤ z.groups → c < size z w → base z w + c < cells_room z
unfolding base size
spot-lt z zero c h k = omega arith
spot-lt z (suc g) c h k = let p : g * z.shared + c < z.groups * z.shared = digits_lt h k in omega arith

-- the place of a cell, or of several, where a test says that they are there
pub found : (z : Sizes) (w c m i : ℕ) (r : Option ℕ) → w ≤ z.groups → m ≡ size z w → i ≡ base z w + c → r ≡ then_some (ltb c m) i →
    MatchOption r (size z w ≤ c) (λ j. (j ≡ base z w + c) × (c < size z w) × (j < cells_room z))
found z w c m i r hw hm hi e =
    subst (λ (x : Option ℕ). MatchOption x (size z w ≤ c) (λ j. (j ≡ base z w + c) × (c < size z w) × (j < cells_room z))) (sym e) (by (ltb c m) refl)
  where
    by : (b : Bool) → ltb c m ≡ b → MatchOption (then_some b i) (size z w ≤ c) (λ j. (j ≡ base z w + c) × (c < size z w) × (j < cells_room z))
    by true t = let h : c < size z w = rw (← hm) (ltb-true c m t) in let p = spot-lt z w c hw h in (hi, h, omega arith)
    by false t = rw (← hm) (ltb-false c m t)

pub found-row : (z : Sizes) (w c n m i : ℕ) (r : Option ℕ) → w ≤ z.groups → 0 < n → m ≡ size z w → i ≡ base z w + c → r ≡ then_some (leb (c + n) m) i →
    MatchOption r (size z w < c + n) (λ j. (j ≡ base z w + c) × (c + n ≤ size z w) × (j + n ≤ cells_room z))
found-row z w c n m i r hw some hm hi e =
    subst (λ (x : Option ℕ). MatchOption x (size z w < c + n) (λ j. (j ≡ base z w + c) × (c + n ≤ size z w) × (j + n ≤ cells_room z))) (sym e) (by (leb (c + n) m) refl)
  where
    by : (b : Bool) → leb (c + n) m ≡ b → MatchOption (then_some b i) (size z w < c + n) (λ j. (j ≡ base z w + c) × (c + n ≤ size z w) × (j + n ≤ cells_room z))
    by true t = let h : c + n ≤ size z w = rw (← hm) (leb-true (c + n) m t) in let p = spot-lt z w (c + (n - 1)) hw (omega arith) in (hi, h, omega arith)
    by false t = rw (← hm) (leb-false (c + n) m t)

pub spot-same : (z : Sizes) (w c w' c' : ℕ) → w ≤ z.groups → w' ≤ z.groups → c < size z w → c' < size z w' → base z w + c ≡ base z w' + c' → (w ≡ w') × (c ≡ c')
unfolding base size
spot-same z zero c zero c' h h' k k' e = (refl, omega arith)
spot-same z zero c (suc g') c' h h' k k' e = let p : g' * z.shared + c' < z.groups * z.shared = digits_lt h' k' in absurd (let q : ◌<◌ 0 0 = omega arith in omega arith)
spot-same z (suc g) c zero c' h h' k k' e = let p : g * z.shared + c < z.groups * z.shared = digits_lt h k in absurd (let q : ◌<◌ 0 0 = omega arith in omega arith)
spot-same z (suc g) c (suc g') c' h h' k k' e = let p = digits_same z.shared g g' c c' k k' e in (ap suc p.0, p.1)

module _ (z : Sizes) (cs : List ℕ) (w c v : ℕ) (hw : w ≤ z.groups) (hc : c < size z w) where
  spot-other : (w' c' : ℕ) → w' ≤ z.groups → c' < size z w' → (w' ≡ w → c' ≡ c → ⊥) → get_or (set cs (base z w + c) v) (base z w' + c') 0 ≡ get_or cs (base z w' + c') 0
  spot-other w' c' hw' hc' ne =
      get_or-set_other cs (base z w + c) (base z w' + c') v 0 (λ e. let p = spot-same z w' c' w c hw' hw hc' hc e in ne p.0 p.1)

  spot-here : cells_room z ≤ length cs → get_or (set cs (base z w + c) v) (base z w + c) 0 ≡ v
  spot-here fit = let p = spot-lt z w c hw hc in let q : base z w + c < length cs = omega arith in get_or-set_same cs (base z w + c) v 0 q

memory-is : (a b : List ℕ) (x y : List (List ℕ)) → a ≡ b → x ≡ y → ◌≡◌ {A = Memory} (record { all = a; groups = x }) (record { all = b; groups = y })
memory-is a b x y p q = rw (p, q)

-- a write of one cell is the store
pub memory-store : (z : Sizes) (cs : List ℕ) (w c v : ℕ) → w ≤ z.groups → c < size z w → cells_room z ≤ length cs →
    memory_of z (set cs (base z w + c) v) ≡ store (memory_of z cs) w c v
unfolding memory_of field_of store size
memory-store z cs zero c v hw hc fit =
    memory-is _ _ _ _
    (upto-set 0 _ _ z.field c v (spot-here z cs 0 c v hw hc fit) (λ j h ne. spot-other z cs 0 c v hw hc 0 j hw h (λ _ e. ne e)))
    (upto-same [] _ _ z.groups (λ g h. upto-same 0 _ _ z.shared (λ j k. spot-other z cs 0 c v hw hc (suc g) j h k (λ e _. omega arith))))
memory-store z cs (suc g) c v hw hc fit =
    memory-is _ _ _ _
    (upto-same 0 _ _ z.field (λ j k. spot-other z cs (suc g) c v hw hc 0 j (omega arith) k (λ e _. omega arith)))
    (upto-set [] _ _ z.groups g _
    (rw (upto-at [] (λ g. upto (λ c. get_or cs (base z (suc g) + c) 0) z.shared) z.groups g hw)
    (upto-set 0 _ _ z.shared c v (spot-here z cs (suc g) c v hw hc fit) (λ j h ne. spot-other z cs (suc g) c v hw hc (suc g) j hw h (λ _ e. ne e))))
    (λ i h ne. upto-same 0 _ _ z.shared (λ j k. spot-other z cs (suc g) c v hw hc (suc i) j h k (λ e _. ne (omega arith)))))
