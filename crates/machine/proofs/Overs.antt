-- What is told where nothing can be done, and that the machine comes there.
use Rattle.std.proofs.Common.{◌≡◌, ℕ, zero, suc, ◌+◌, ◌*◌, ◌<◌, ◌≤◌, ◌≢◌, true, false, ◌⊎◌, List, [], ◌∷◌, length, get_or, sym, refl, ap, ◌∙◌, subst, inl, inr, add-mul, arith}
use Rattle.std.proofs.lemmas.Nat.{mul-le}
use Rattle.std.proofs.lemmas.Bool.{cases_eq}
use Rattle.std.proofs.lemmas.Bool.Decides.{nat_tests}
use Rattle.lanes.specs.Syntax.{Body, at_barrier, ended}
use Rattle.lanes.specs.Step.{Lane, stepping}
use Rattle.lanes.specs.Grid.{Group, Grid, Turn, turns, all_lanes, all_ended, the_group, the_lane, no_group}
use Rattle.lanes.specs.Promise.{Still}
use Rattle.lanes.specs.Told.{Shows}
use Rattle.lanes.proofs.Turns.{turn-idle, turns-append, turns-length}
use Rattle.store.specs.declared.Sizes.{Sizes}
use Rattle.store.specs.Lent.{grid_of, memory_of, lane_at, line_at, phase_of_spec, field_of}
use Rattle.store.proofs.Grids.{the-lane-is, groups-long}
use Rattle.machine.specs.declared.verdict.Verdict.{Verdict}
use Rattle.machine.specs.declared.verdict.Verdict.TheVariants.{Field, Raced, Wrong, Stuck, TooLong}
use Rattle.machine.specs.declared.look.Stance.{Stance}
use Rattle.machine.specs.declared.look.Stance.TheVariants as stance
use Rattle.machine.specs.Choices.{StanceIs}
use Rattle.machine.specs.Verdict.{told_of, highest, StandsAt, Stepped, Gone, Over, sum_upto, left_over}
use Rattle.machine.proofs.Stances.{all_of, lanes-long, lane-left}

pub stance-ended : (b : Body) → stepping b ≡ false → at_barrier b ≡ false → ended b ≡ true
stance-ended b s w = grind (arith, nat_tests)

pub stance-waits : (b : Body) → stepping b ≡ false → ended b ≡ false → at_barrier b ≡ true
stance-waits b s w = grind (arith, nat_tests)

pub stance-on : (b : Body) (s : Stance) → StanceIs b s → s ≢ stance.Ended → ended b ≡ false
unfolding at_barrier ended
stance-on b stance.Steps h n = let s = h.0 in grind (arith, nat_tests)
stance-on b stance.Waits h n = let w = h.1 in grind (arith, nat_tests)
stance-on b stance.Ended h n = absurd (n refl)

all_ended-from : (gs : List Group) → ((g : ℕ) → g < length gs → all_lanes ended (get_or gs g no_group).lanes_of ≡ true) → all_ended gs ≡ true
unfolding all_ended
all_ended-from [] h = refl
all_ended-from (q ∷ gs) h = rw (h 0 (omega arith)) (all_ended-from gs (λ g k. h (suc g) (omega arith)))

still-turns : (n : ℕ) (d : Grid) (us : List Turn) → Still n d → turns n d us ≡ d
unfolding turns Still
still-turns n d [] s = refl
still-turns n d (u ∷ us) s = rw (turn-idle n d u (s u)) (still-turns n d us s)

barred-lane : (z : Sizes) (at : ℕ → Body) (ls : List ℕ) (g l : ℕ) → at_barrier (at (line_at z ls g l)) ≡ true → at_barrier (lane_at z at ls g l).left ≡ true
unfolding lane_at
barred-lane z at ls g l w = w

module _ (z : Sizes) (at : ℕ → Body) (lines : ℕ) (d : Grid) (ts : List Turn) (ls cs ks : List ℕ) (done granted : ℕ) (st : StandsAt z at lines d ts ls cs ks done) (few : done ≤ granted)
    (still : Still z.lanes (grid_of z at ls cs)) where
  ended-now : Over z at ls Field → all_ended (grid_of z at ls cs).groups_of ≡ true
  unfolding the_group
  ended-now all = all_ended-from (grid_of z at ls cs).groups_of (λ g h.
      let hg : g < z.groups = rw (groups-long z at ls cs) at h in
      all_of ended (the_group (grid_of z at ls cs) g).lanes_of (λ l k. let hl : l < z.lanes = rw (lanes-long z at ls cs g hg) at k in rw (lane-left z at ls cs g l hg hl) (all g l hg hl)))

  field-now : (grid_of z at ls cs).memory.all ≡ field_of z cs
  unfolding grid_of memory_of
  field-now = refl

  pub shows-over : (r : Verdict) → Over z at ls r → Shows granted z.lanes d ts (told_of r (field_of z cs))
  unfolding Shows
  shows-over Field all = (
    ap (λ (e : Grid). all_ended e.groups_of) (sym st.sofar.grid) ∙ ended-now all,
    st.sofar.none_wrong,
    st.sofar.no_race,
    (let q = st.has_steps in omega arith),
    ap (λ (e : Grid). e.memory.all) (sym st.sofar.grid) ∙ field-now,
  )
  shows-over (Stuck g) (hg, (l, hl, waits)) =
      let e : grid_of z at ls cs ≡ turns z.lanes d ts = st.sofar.grid in
      let long : length d.groups_of ≡ z.groups = sym (turns-length z.lanes d ts) ∙ (ap (λ (x : Grid). length x.groups_of) (sym e) ∙ groups-long z at ls cs) in (
        omega arith,
        (λ us. ap (λ (x : Grid). the_group x g) (turns-append z.lanes d ts us ∙ still-turns z.lanes (turns z.lanes d ts) us (subst (Still z.lanes) e still))),
        (l, hl, ap (λ (x : Grid). at_barrier (the_lane x g l).left) (sym e) ∙ (ap (λ (x : Lane). at_barrier x.left) (the-lane-is z at ls cs g l hg hl) ∙ barred-lane z at ls g l waits)),
      )
  shows-over (Raced r) b = absurd b
  shows-over (Wrong g l i) b = absurd b
  shows-over TooLong b = absurd b

-- what is left falls
sum_same : (f h : ℕ → ℕ) (n : ℕ) → ((k : ℕ) → h k ≡ f k) → sum_upto h n ≡ sum_upto f n
unfolding sum_upto
sum_same f h zero e = refl
sum_same f h (suc n) e = let p = sum_same f h n e in let q = e n in omega arith

sum_below : (f h : ℕ → ℕ) (n g : ℕ) → n ≤ g → ((k : ℕ) → (k ≡ g → ⊥) → h k ≡ f k) → sum_upto h n ≡ sum_upto f n
unfolding sum_upto
sum_below f h zero g k e = refl
sum_below f h (suc n) g k e = let p = sum_below f h n g (omega arith) e in let q = e n (λ r. omega arith) in omega arith

sum_one : (f h : ℕ → ℕ) (n g : ℕ) → g < n → h g ≡ f g + 1 → ((k : ℕ) → (k ≡ g → ⊥) → h k ≡ f k) → sum_upto h n ≡ sum_upto f n + 1
unfolding sum_upto
sum_one f h zero g k one e = absurd (omega arith)
sum_one f h (suc n) g k one e = elim (cases_eq n g) [
  | inl q ↦ let p = sum_below f h n g (omega arith) e in let o : h n ≡ f n + 1 = subst (λ (i : ℕ). h i ≡ f i + 1) (sym q) one in omega arith
  | inr q ↦ let p = sum_one f h n g (omega arith) one e in let o = e n q in omega arith
]

sum-le : (f : ℕ → ℕ) (n b : ℕ) → ((k : ℕ) → k < n → f k ≤ b) → sum_upto f n ≤ n * b
unfolding sum_upto
sum-le f zero b e = omega arith
sum-le f (suc n) b e =
    let p = sum-le f n b (λ k h. e k (omega arith)) in let q = e n (omega arith) in
    let s : suc n ≡ n + 1 = omega arith in let m = add-mul n 1 b in rw s (omega (arith, m))

highest-up : (a b lines : ℕ) → a ≤ b → highest a lines ≤ highest b lines
unfolding highest
highest-up a b lines h = mul-le (a + 1) lines (b + 1) lines (omega arith) (omega arith)

pub falls : (z : Sizes) (lines granted done k : ℕ) (ls ls' : List ℕ) → k ≤ granted → ((g : ℕ) → g < z.groups → phase_of_spec z ls' g ≤ highest k lines) →
    Stepped z ls ls' done k ⊎ Gone z ls ls' done k → left_over z lines granted k ls' < left_over z lines granted done ls
unfolding left_over
falls z lines granted done k ls ls' h low (inl m) =
    let e = sum_same (phase_of_spec z ls) (phase_of_spec z ls') z.groups m.phases in let q = m.more in omega arith
falls z lines granted done k ls ls' h low (inr m) =
    let e = sum_one (phase_of_spec z ls) (phase_of_spec z ls') z.groups m.group m.there m.phase m.phases in
    let b = sum-le (phase_of_spec z ls') z.groups (highest granted lines) (λ g hg. let p = low g hg in let u = highest-up k granted lines h in omega arith) in
    let q = m.as_many in omega arith
