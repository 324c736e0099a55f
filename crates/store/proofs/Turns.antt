-- Each thing that a lane does is a turn.
use Rattle.std.proofs.Common.{◌≡◌, ℕ, suc, ◌+◌, ◌<◌, ◌≤◌, Bool, true, false, cond, eqb, ◌⊎◌, List, [], ◌∷◌, length, get_or, set, refl, ap, ◌∙◌, inl, inr, arith, length-set}
use Rattle.std.proofs.lemmas.Bool.{lt-ltb, le-ltb, false≢true, true≢false, both_ways}
use Rattle.lanes.specs.Syntax.{Body, Expr, followed, at_barrier, ended, end, put, read_shared, write_shared, read_all, write_all, when, while}
use Rattle.lanes.specs.Step.{Lane, value, with_own, goes_to, gone_wrong, if_there, Act, quiet, reads, writes, act, lane_of, after, touched, stepping}
use Rattle.store.specs.declared.Sizes.{Sizes}
use Rattle.store.specs.declared.Deed.{Deed}
use Rattle.store.specs.declared.Deed.TheVariants.{Quiet, Wrong}
use Rattle.store.specs.declared.Todo.TheVariants.{Put, Read, Write, Branch}
use Rattle.store.specs.Layout.{slots, place_of, room, base, size, whose}
use Rattle.store.specs.Lent.{Lent, Only, line_at, own_of, lane_at, memory_of}
use Rattle.store.specs.Acts.{Ready, touches_of, went_wrong, Turned}
use Rattle.store.proofs.Slots.{only-slot, only-both, lane-line, lane-own, lane-wrong}
use Rattle.store.proofs.Cells.{whose-le, cells_at, memory-store}
use Rattle.store.proofs.Grids.{turn_is, marks-are, can_step_spec}

-- the act of a lane whose next line is known
module _ (n l g f s : ℕ) (x : Lane) where
  act-as : (b : Body) → x.left ≡ b → act n l g f s x ≡ act n l g f s (goes_to x b)
  act-as b e = ap (λ c. act n l g f s (goes_to x c)) e

  abbrev val : Expr → ℕ
  val e = value x.own l g n e

  pub act-put : (k : ℕ) (e : Expr) (b : Body) → x.left ≡ put k e b → act n l g f s x ≡ quiet (with_own (goes_to x b) k (val e))
  unfolding act
  act-put k e b p = act-as (put k e b) p

  pub act-read-all : (k : ℕ) (e : Expr) (b : Body) → x.left ≡ read_all k e b → act n l g f s x ≡ if_there (val e) f x (reads 0 (val e) k (goes_to x b))
  unfolding act
  act-read-all k e b p = act-as (read_all k e b) p

  pub act-read-shared : (k : ℕ) (e : Expr) (b : Body) → x.left ≡ read_shared k e b → act n l g f s x ≡ if_there (val e) s x (reads (suc g) (val e) k (goes_to x b))
  unfolding act
  act-read-shared k e b p = act-as (read_shared k e b) p

  pub act-write-all : (e v : Expr) (b : Body) → x.left ≡ write_all e v b → act n l g f s x ≡ if_there (val e) f x (writes 0 (val e) (val v) (goes_to x b))
  unfolding act
  act-write-all e v b p = act-as (write_all e v b) p

  pub act-write-shared : (e v : Expr) (b : Body) → x.left ≡ write_shared e v b → act n l g f s x ≡ if_there (val e) s x (writes (suc g) (val e) (val v) (goes_to x b))
  unfolding act
  act-write-shared e v b p = act-as (write_shared e v b) p

  pub act-when : (e : Expr) (c d b : Body) → x.left ≡ when e c d b → act n l g f s x ≡ quiet (goes_to x (cond (eqb (val e) 0) (followed d b) (followed c b)))
  unfolding act
  act-when e c d b p = act-as (when e c d b) p

  pub act-while : (e : Expr) (c b : Body) → x.left ≡ while e c b → act n l g f s x ≡ quiet (goes_to x (cond (eqb (val e) 0) b (followed c (while e c b))))
  unfolding act
  act-while e c b p = act-as (while e c b) p

-- two slots of the lane are written, the second the line
pub only-twice : (z : Sizes) (ls cs : List ℕ) (g l : ℕ) (lent : Lent z ls cs) (hg : g < z.groups) (hl : l < z.lanes)
    (ls' : List ℕ) (s v i : ℕ) → s < slots z → (s < 2) ⊎ (128 ≤ s) → ls' ≡ set (set ls (place_of z g s l) v) (place_of z g 0 l) i → Only z g l ls ls'
only-twice z ls cs g l lent hg hl ls' s v i hs own e =
    only-both z g l ls (set ls (place_of z g s l) v) ls' (only-slot z g s l ls _ v hs own hl refl) (only-slot z g 0 l (set ls (place_of z g s l) v) ls' i (omega arith) (inl (omega arith)) hl e)

module _ (z : Sizes) (at : ℕ → Body) (ls cs : List ℕ) (g l : ℕ) (lent : Lent z ls cs) (hg : g < z.groups) (hl : l < z.lanes) where
  abbrev it : Lane
  it = lane_at z at ls g l

  abbrev here : Body
  here = at (line_at z ls g l)

  abbrev the : Expr → ℕ
  the = value (own_of z ls g l) l g z.lanes

  abbrev its : Act
  its = act z.lanes l g z.field z.shared it

  -- the act is done, and told
  turned : (ls' cs' : List ℕ) (r : Deed) (a : Act) → stepping here ≡ true → its ≡ a → Only z g l ls ls' →
      lane_at z at ls' g l ≡ lane_of a (memory_of z cs) → memory_of z cs' ≡ after a (memory_of z cs) → touches_of r ≡ touched a →
      (went_wrong r ≡ true → (lane_of a (memory_of z cs)).wrong ≡ true) → (went_wrong r ≡ false → (lane_of a (memory_of z cs)).wrong ≡ it.wrong) →
      Turned z at ls cs ls' cs' g l r
  unfolding lane_at
  turned ls' cs' r a steps did only this mem told wrong right =
      record {
        could = can_step_spec z at ls cs g l hg hl steps;
        grid = turn_is z at ls cs ls' cs' g l hg hl only a steps did this mem;
        touch = rw told (marks-are z at ls cs ls' cs' g l hg hl only a steps did);
        wrong = λ e. ap (λ (x : Lane). x.wrong) this ∙ wrong e;
        right = λ e. ap (λ (x : Lane). x.wrong) this ∙ right e;
      }

  only-line : (ls' : List ℕ) (i : ℕ) → ls' ≡ set ls (place_of z g 0 l) i → Only z g l ls ls'
  only-line ls' i e = only-slot z g 0 l ls ls' i (omega arith) (inl (omega arith)) hl e

  put_lane : (ls' : List ℕ) (k v i : ℕ) → k < z.owns → ls' ≡ set (set ls (place_of z g (128 + k) l) v) (place_of z g 0 l) i → lane_at z at ls' g l ≡ with_own (goes_to it (at i)) k v
  put_lane ls' k v i hk e =
      let fit : room z ≤ length (set ls (place_of z g (128 + k) l) v) = rw length-set lent.lanes_fit in
      rw e (lane-line z at g l hg hl (set ls (place_of z g (128 + k) l) v) fit i ∙ ap (λ x. goes_to x (at i)) (lane-own z at g l hg hl ls lent.lanes_fit k v hk))

  line-lane : (ls' : List ℕ) (i : ℕ) → ls' ≡ set ls (place_of z g 0 l) i → lane_at z at ls' g l ≡ goes_to it (at i)
  line-lane ls' i e = rw e (lane-line z at g l hg hl ls lent.lanes_fit i)

  wrong-lane : (ls' : List ℕ) (i : ℕ) → at i ≡ end → ls' ≡ set (set ls (place_of z g 1 l) 1) (place_of z g 0 l) i → lane_at z at ls' g l ≡ gone_wrong it
  wrong-lane ls' i stop e =
      let fit : room z ≤ length (set ls (place_of z g 1 l) 1) = rw length-set lent.lanes_fit in
      rw e (lane-line z at g l hg hl (set ls (place_of z g 1 l) 1) fit i ∙ ap (λ x. goes_to x (at i)) (lane-wrong z at g l hg hl ls lent.lanes_fit) ∙ rw stop refl)

  cond-at : (t : Bool) (n y : ℕ) → at (cond t n y) ≡ cond t (at n) (at y)
  cond-at true n y = refl
  cond-at false n y = refl

  -- an own number is put
  pub turned-put : (ls' : List ℕ) (k i c v : ℕ) → k < z.owns → Ready z at ls g l (Put k i) c v →
      ls' ≡ set (set ls (place_of z g (128 + k) l) c) (place_of z g 0 l) i → Turned z at ls cs ls' cs g l Quiet
  unfolding Ready lane_of touched after lane_at at_barrier ended
  turned-put ls' k i c v hk (e, does, ec) el =
      let steps : stepping here ≡ true = rw does refl in
      turned ls' cs Quiet (quiet (with_own (goes_to it (at i)) k c)) steps (act-put z.lanes l g z.field z.shared it k e (at i) does ∙ rw ec refl)
      (only-twice z ls cs g l lent hg hl ls' (128 + k) c i (omega arith) (inr (omega arith)) el) (put_lane ls' k c i hk el) refl refl (λ x. absurd (false≢true x)) (λ _. refl)

  -- a cell that is there, and one that isn't
  there : (f : Bool) (c : ℕ) (a : Act) → c < size z (whose f g) → if_there c (size z (whose f g)) it a ≡ a
  there f c a h = rw (lt-ltb c _ h)

  absent : (f : Bool) (c : ℕ) (a : Act) → size z (whose f g) ≤ c → if_there c (size z (whose f g)) it a ≡ quiet (gone_wrong it)
  absent f c a h = rw (le-ltb c _ h)

  -- what a lane that reads or writes does
  read-does : (f : Bool) (k i c v : ℕ) → Ready z at ls g l (Read f k i) c v →
      (stepping here ≡ true) × (its ≡ if_there c (size z (whose f g)) it (reads (whose f g) c k (goes_to it (at i))))
  unfolding Ready lane_at at_barrier ended size
  read-does true k i c v (e, does, ec) = (rw does refl, rw ec (act-read-all z.lanes l g z.field z.shared it k e (at i) does))
  read-does false k i c v (e, does, ec) = (rw does refl, rw ec (act-read-shared z.lanes l g z.field z.shared it k e (at i) does))

  write-does : (f : Bool) (i c v : ℕ) → Ready z at ls g l (Write f i) c v →
      (stepping here ≡ true) × (its ≡ if_there c (size z (whose f g)) it (writes (whose f g) c v (goes_to it (at i))))
  unfolding Ready lane_at at_barrier ended size
  write-does true i c v (e, u, does, ec, ev) = (rw does refl, rw (ec, ev) (act-write-all z.lanes l g z.field z.shared it e u (at i) does))
  write-does false i c v (e, u, does, ec, ev) = (rw does refl, rw (ec, ev) (act-write-shared z.lanes l g z.field z.shared it e u (at i) does))

  branch-does : (y n c v : ℕ) → Ready z at ls g l (Branch y n) c v → (stepping here ≡ true) × (its ≡ quiet (goes_to it (at (cond (eqb c 0) n y))))
  unfolding Ready lane_at at_barrier ended
  branch-does y n c v (e, inl h, ec) = (rw h.is refl, rw (ec, cond-at (eqb (the e) 0) n y, h.if_so, h.if_not) (act-when z.lanes l g z.field z.shared it e h.first h.second h.behind h.is))
  branch-does y n c v (e, inr h, ec) = (rw h.is refl, rw (ec, cond-at (eqb (the e) 0) n y, h.if_so, h.if_not) (act-while z.lanes l g z.field z.shared it e h.inner h.behind h.is))

  pub turned-read : (ls' : List ℕ) (f : Bool) (k i c v x : ℕ) (r : Deed) → k < z.owns → c < size z (whose f g) → x ≡ get_or cs (base z (whose f g) + c) 0 →
      ls' ≡ set (set ls (place_of z g (128 + k) l) x) (place_of z g 0 l) i →
      touches_of r ≡ record { where_is = whose f g; cell = c; wrote = false } ∷ [] → went_wrong r ≡ false → Ready z at ls g l (Read f k i) c v → Turned z at ls cs ls' cs g l r
  unfolding lane_of touched after lane_at
  turned-read ls' f k i c v x r hk hc ex el told well ready =
      let d = read-does f k i c v ready in
      turned ls' cs r (reads (whose f g) c k (goes_to it (at i))) d.0 (d.1 ∙ there f c _ hc)
      (only-twice z ls cs g l lent hg hl ls' (128 + k) x i (omega arith) (inr (omega arith)) el) (rw (cells_at z cs (whose f g) c (whose-le f g _ hg) hc, ← ex) (put_lane ls' k x i hk el)) refl told
      (λ e. absurd (both_ways _ well e)) (λ _. refl)

  pub turned-write : (ls' cs' : List ℕ) (f : Bool) (i c v : ℕ) (r : Deed) → c < size z (whose f g) → cs' ≡ set cs (base z (whose f g) + c) v → ls' ≡ set ls (place_of z g 0 l) i →
      touches_of r ≡ record { where_is = whose f g; cell = c; wrote = true } ∷ [] → went_wrong r ≡ false → Ready z at ls g l (Write f i) c v → Turned z at ls cs ls' cs' g l r
  unfolding lane_of touched after lane_at
  turned-write ls' cs' f i c v r hc em el told well ready =
      let d = write-does f i c v ready in
      turned ls' cs' r (writes (whose f g) c v (goes_to it (at i))) d.0 (d.1 ∙ there f c _ hc) (only-line ls' i el) (line-lane ls' i el)
      (rw em (memory-store z cs (whose f g) c v (whose-le f g _ hg) hc lent.cells_fit)) told (λ e. absurd (both_ways _ well e)) (λ _. refl)

  pub turned-branch : (ls' : List ℕ) (y n c v i : ℕ) → i ≡ cond (eqb c 0) n y → ls' ≡ set ls (place_of z g 0 l) i → Ready z at ls g l (Branch y n) c v → Turned z at ls cs ls' cs g l Quiet
  unfolding lane_of touched after lane_at
  turned-branch ls' y n c v i ei el ready =
      let d = branch-does y n c v ready in
      turned ls' cs Quiet (quiet (goes_to it (at i))) d.0 (rw ei d.1) (only-line ls' i el) (line-lane ls' i el) refl refl (λ x. absurd (false≢true x)) (λ _. refl)

  missing : (ls' : List ℕ) (i : ℕ) → stepping here ≡ true → its ≡ quiet (gone_wrong it) → at i ≡ end → ls' ≡ set (set ls (place_of z g 1 l) 1) (place_of z g 0 l) i → Turned z at ls cs ls' cs g l Wrong
  unfolding lane_of touched after lane_at
  missing ls' i steps did stop el =
      turned ls' cs Wrong (quiet (gone_wrong it)) steps did (only-twice z ls cs g l lent hg hl ls' 1 1 i (omega arith) (inl (omega arith)) el) (wrong-lane ls' i stop el) refl refl (λ _. refl) (λ x. absurd (true≢false x))

  pub wrong-read : (ls' : List ℕ) (f : Bool) (k i j c v : ℕ) → size z (whose f g) ≤ c → at j ≡ end → ls' ≡ set (set ls (place_of z g 1 l) 1) (place_of z g 0 l) j →
      Ready z at ls g l (Read f k i) c v → Turned z at ls cs ls' cs g l Wrong
  wrong-read ls' f k i j c v hc stop el ready = let d = read-does f k i c v ready in missing ls' j d.0 (d.1 ∙ absent f c _ hc) stop el

  pub wrong-write : (ls' : List ℕ) (f : Bool) (i j c v : ℕ) → size z (whose f g) ≤ c → at j ≡ end → ls' ≡ set (set ls (place_of z g 1 l) 1) (place_of z g 0 l) j →
      Ready z at ls g l (Write f i) c v → Turned z at ls cs ls' cs g l Wrong
  wrong-write ls' f i j c v hc stop el ready = let d = write-does f i c v ready in missing ls' j d.0 (d.1 ∙ absent f c _ hc) stop el
