-- All that is owed of what a lane did.
use Rattle.std.proofs.Common.{◌≡◌, ℕ, ◌+◌, ◌<◌, ◌≤◌, Bool, true, false, cond, eqb, ◌⊎◌, List, length, get_or, set, refl, ◌∙◌, inl, inr, arith, length-set}
use Rattle.store.specs.declared.Sizes.{Sizes}
use Rattle.store.specs.declared.Deed.TheVariants.{Quiet, Touched, Wrong}
use Rattle.store.specs.declared.Todo.{Todo}
use Rattle.store.specs.declared.Todo.TheVariants.{Put, Read, Write, Branch}
use Rattle.store.specs.declared.Seen.{Seen}
use Rattle.store.specs.Layout.{place_of, room, base, size, whose, numbered, cells_room}
use Rattle.store.specs.Lent.{Lent, Only, slot_of, line_at}
use Rattle.store.specs.Acts.{Did, Placed, SentTo}
use Rattle.store.proofs.Slots.{only-slot, lined-twice, lined-line, slot_same, slot-other}
use Rattle.store.proofs.Cells.{whose-le}
use Rattle.store.proofs.Turns.{only-twice, turned-put, turned-read, turned-write, turned-branch, wrong-read, wrong-write}

chosen-lt : (m : ℕ) (t : Bool) (a b : ℕ) → a < m → b < m → cond t a b < m
chosen-lt m true a b h k = h
chosen-lt m false a b h k = k

one_of : (t : Bool) (n y i : ℕ) → i ≡ cond t n y → (i ≡ y) ⊎ (i ≡ n)
one_of true n y i e = inr e
one_of false n y i e = inl e

-- the place that a touch tells
pub placed_at : (z : Sizes) (f : Bool) (g w c i : ℕ) → g < z.groups → w ≡ whose f g → i ≡ base z (whose f g) + c → i < cells_room z → c < size z (whose f g) →
    (w ≤ z.groups) × (i ≡ base z w + c) × (i < cells_room z) × (c < size z w)
placed_at z f g w c i hg e ei hi hc = (rw e (whose-le f g _ hg), rw e ei, hi, rw e hc)

module _ (z : Sizes) (ls cs : List ℕ) (g l stop : ℕ) (lent : Lent z ls cs) (hg : g < z.groups) (hl : l < z.lanes) (ls' : List ℕ) where
  line-only : (i : ℕ) → ls' ≡ set ls (place_of z g 0 l) i → Only z g l ls ls'
  line-only i e = only-slot z g 0 l ls ls' i (omega arith) (inl (omega arith)) hl e

  line-now : (xs : List ℕ) (i : ℕ) → room z ≤ length xs → ls' ≡ set xs (place_of z g 0 l) i → line_at z ls' g l ≡ i
  unfolding line_at
  line-now xs i fit e = rw e (slot_same z g 0 l (omega arith) hl xs i hg fit)

  line-twice : (s v i : ℕ) → ls' ≡ set (set ls (place_of z g s l) v) (place_of z g 0 l) i → line_at z ls' g l ≡ i
  line-twice s v i e = line-now (set ls (place_of z g s l) v) i (rw length-set lent.lanes_fit) e

  wrong-now : ls' ≡ set (set ls (place_of z g 1 l) 1) (place_of z g 0 l) stop → slot_of z ls' g 1 l ≡ 1
  wrong-now e = rw e (slot-other z g 0 l (omega arith) hl (set ls (place_of z g 1 l) 1) stop g 1 l (omega arith) hl (λ _ a _. omega arith) ∙ slot_same z g 1 l (omega arith) hl ls 1 hg lent.lanes_fit)

  -- where the lane stands then
  abbrev pub Sent : Todo → Type 0
  Sent todo = SentTo todo (line_at z ls' g l) ⊎ (slot_of z ls' g 1 l ≡ 1)

  pub done-put : (k i c v : ℕ) → k < z.owns → ls' ≡ set (set ls (place_of z g (128 + k) l) c) (place_of z g 0 l) i → Did z ls cs ls' cs g l stop (Put k i) c v Quiet × Sent (Put k i)
  done-put k i c v hk el = (
    record {
      lined = λ lines hs goes h. lined-twice z g l lines hl ls ls' (128 + k) c i lent.lanes_fit (omega arith) (λ e. omega arith) goes el h;
      only = only-twice z ls cs g l lent hg hl ls' (128 + k) c i (omega arith) (inr (omega arith)) el;
      placed = tt;
      turned = λ at ends ready. turned-put z at ls cs g l lent hg hl ls' k i c v hk ready el;
    },
    inl (line-twice (128 + k) c i el),
  )

  pub done-read : (f : Bool) (k i c v x : ℕ) (s : Seen) → k < z.owns → c < size z (whose f g) → x ≡ get_or cs (base z (whose f g) + c) 0 →
      ls' ≡ set (set ls (place_of z g (128 + k) l) x) (place_of z g 0 l) i → numbered s.place ≡ whose f g → s.cell ≡ c → s.wrote ≡ false → Placed z (Touched s) →
      Did z ls cs ls' cs g l stop (Read f k i) c v (Touched s) × Sent (Read f k i)
  done-read f k i c v x s hk hc ex el ep es ew placed = (
    record {
      lined = λ lines hs goes h. lined-twice z g l lines hl ls ls' (128 + k) x i lent.lanes_fit (omega arith) (λ e. omega arith) goes el h;
      only = only-twice z ls cs g l lent hg hl ls' (128 + k) x i (omega arith) (inr (omega arith)) el;
      placed = placed;
      turned = λ at ends ready. turned-read z at ls cs g l lent hg hl ls' f k i c v x (Touched s) hk hc ex el (rw (ep, es, ew)) refl ready;
    },
    inl (line-twice (128 + k) x i el),
  )

  pub done-write : (cs' : List ℕ) (f : Bool) (i c v : ℕ) (s : Seen) → c < size z (whose f g) → cs' ≡ set cs (base z (whose f g) + c) v →
      ls' ≡ set ls (place_of z g 0 l) i → numbered s.place ≡ whose f g → s.cell ≡ c → s.wrote ≡ true → Placed z (Touched s) → Did z ls cs ls' cs' g l stop (Write f i) c v (Touched s) × Sent (Write f i)
  done-write cs' f i c v s hc em el ep es ew placed = (
    record {
      lined = λ lines hs goes h. rw el (lined-line z g l lines hl ls i lent.lanes_fit goes h);
      only = line-only i el;
      placed = placed;
      turned = λ at ends ready. turned-write z at ls cs g l lent hg hl ls' cs' f i c v (Touched s) hc em el (rw (ep, es, ew)) refl ready;
    },
    inl (line-now ls i lent.lanes_fit el),
  )

  pub done-branch : (y n c v i : ℕ) → i ≡ cond (eqb c 0) n y → ls' ≡ set ls (place_of z g 0 l) i → Did z ls cs ls' cs g l stop (Branch y n) c v Quiet × Sent (Branch y n)
  done-branch y n c v i ei el = (
    record {
      lined = λ lines hs goes h. rw el (lined-line z g l lines hl ls i lent.lanes_fit (rw ei (chosen-lt lines (eqb c 0) n y goes.1 goes.0)) h);
      only = line-only i el;
      placed = tt;
      turned = λ at ends ready. turned-branch z at ls cs g l lent hg hl ls' y n c v i ei el ready;
    },
    inl (one_of (eqb c 0) n y (line_at z ls' g l) (line-now ls i lent.lanes_fit el ∙ ei)),
  )

  pub missed-read : (f : Bool) (k i c v : ℕ) → size z (whose f g) ≤ c → ls' ≡ set (set ls (place_of z g 1 l) 1) (place_of z g 0 l) stop → Did z ls cs ls' cs g l stop (Read f k i) c v Wrong × Sent (Read f k i)
  missed-read f k i c v hc el = (
    record {
      lined = λ lines hs goes h. lined-twice z g l lines hl ls ls' 1 1 stop lent.lanes_fit (omega arith) (λ e. omega arith) hs el h;
      only = only-twice z ls cs g l lent hg hl ls' 1 1 stop (omega arith) (inl (omega arith)) el;
      placed = tt;
      turned = λ at ends ready. wrong-read z at ls cs g l lent hg hl ls' f k i stop c v hc ends el ready;
    },
    inr (wrong-now el),
  )

  pub missed-write : (f : Bool) (i c v : ℕ) → size z (whose f g) ≤ c → ls' ≡ set (set ls (place_of z g 1 l) 1) (place_of z g 0 l) stop → Did z ls cs ls' cs g l stop (Write f i) c v Wrong × Sent (Write f i)
  missed-write f i c v hc el = (
    record {
      lined = λ lines hs goes h. lined-twice z g l lines hl ls ls' 1 1 stop lent.lanes_fit (omega arith) (λ e. omega arith) hs el h;
      only = only-twice z ls cs g l lent hg hl ls' 1 1 stop (omega arith) (inl (omega arith)) el;
      placed = tt;
      turned = λ at ends ready. wrong-write z at ls cs g l lent hg hl ls' f i stop c v hc ends el ready;
    },
    inr (wrong-now el),
  )
