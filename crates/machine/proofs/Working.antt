-- The numbers that a line works with, for each lane of a row.
use Rattle.std.proofs.Common.{◌≡◌, ℕ, ◌+◌, ◌*◌, ◌<◌, ◌≤◌, List, ◌++◌, length, get_or, ◌∙◌, arith}
use lib.ListN.{get_or-append}
use Rattle.lanes.specs.Step.{value}
use Rattle.store.specs.declared.Sizes.{Sizes}
use Rattle.store.specs.Layout.{room, place_of}
use Rattle.store.specs.Lent.{own_of}
use Rattle.store.proofs.Slots.{own_at, own_range}
use Rattle.values.specs.declared.row.Row.{Row}
use Rattle.values.specs.Rows.{Values, Evaluated}
use Rattle.machine.specs.Plans.{Worked}

-- where the row lies
pub record RowAt (z : Sizes) (ls : List ℕ) (g start : ℕ) (r : Row) : Type 0 where
  pub group : r.group ≡ g
  pub lanes : r.lanes ≡ z.lanes
  pub first : r.first ≡ start
  pub own : r.own.now ≡ ls
  pub base : r.base ≡ place_of z g 128 start
  pub stride : r.stride ≡ z.lanes
  pub owns : r.owns ≡ z.owns

pub row-within : (z : Sizes) (ls : List ℕ) (g start width base : ℕ) (hg : g < z.groups) (hs : start < z.lanes) (within : start + width ≤ z.lanes) (fit : room z ≤ length ls) → base ≡ place_of z g 128 start →
    (j : ℕ) → j < z.owns → base + j * z.lanes + width ≤ length ls
row-within z ls g start width base hg hs within fit e j h = let p = own_range z g j start width hg h hs within in omega arith

pub worked : (z : Sizes) (ls : List ℕ) (g start : ℕ) (r : Row) (text : List ℕ) (x j : ℕ) (out rest : List ℕ) → RowAt z ls g start r → ((i : ℕ) → i < 32 → start + i < z.lanes → i < length out) →
    Evaluated text x r out j → Worked z ls g start text x (out ++ rest)
unfolding Worked Values
worked z ls g start r text x j out rest a wide ev ns names distinct few e stands i hi hl =
    let p : i < length out = wide i hi hl in
    let v = own_of z ls g (start + i) in
    let h : get_or out i 0 ≡ value v (r.first + i) r.group r.lanes e =
    ev.each ns names distinct (omega (arith, a.owns)) e stands i p v (λ k l. rw (a.own, a.base, a.stride) (own_at z ls g start i k (omega (arith, a.owns)))) in
    let same : value v (r.first + i) r.group r.lanes e ≡ value v (start + i) g z.lanes e = rw (a.first, a.group, a.lanes) in
    get_or-append out rest 0 i p ∙ h ∙ same
