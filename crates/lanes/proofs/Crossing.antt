-- Two turns of different lanes: each finds the same before and after the other. If their marks don't race, either order comes to the same.
use Rattle.std.proofs.Common.{◌≡◌, ℕ, suc, true, false, ◌||◌, ltb, ◌⊎◌, List, [], ◌∷◌, length, get_or, sym, refl, ap, inl, inr, arith, get_or-set_other}
use lib.Seq.{set_comm}
use Rattle.std.proofs.lemmas.Bool.{cases_eq, both_ways, and_parts}
use Rattle.std.proofs.lemmas.Bool.Decides.{nat_tests}
use Rattle.lanes.specs.Step.{Lane, Act, quiet, reads, writes, lane_of, after, touched}
use Rattle.lanes.specs.Grid.{Group, Grid, Mark, Turn, of, release, no_lane, no_group, gone_on, marks, the_group, the_lane, the_act, can, did, marks_at}
use Rattle.lanes.specs.Race.{race, unparted}
use Rattle.lanes.specs.Promise.{Apart}
use Rattle.lanes.proofs.Places.{at-keeps, at-comm}
use Rattle.lanes.proofs.Acts.{Alike, after-alike, Clear, after-comm, lane-after}
use Rattle.lanes.proofs.Turns.{move, did-length, barred-idle}

abbrev pub All : {A : Type 0} → (A → Type 0) → List A → Type 0
All P [] = Unit {0}
All P (x ∷ xs) = P x × All P xs

pub apart-sym : (x u : Turn) → Apart x u → Apart u x
unfolding Apart
apart-sym (of g l) (of h k) a = λ e f. a (sym e) (sym f)
apart-sym (of g l) (release h) a = λ e. a (sym e)
apart-sym (release g) (of h k) a = λ e. a (sym e)
apart-sym (release g) (release h) a = λ e. a (sym e)

-- a group all of whose lanes wait has none that can step
barred : (n : ℕ) (d : Grid) (g l h : ℕ) → can n d (of g l) ≡ true → can n d (release h) ≡ true → g ≡ h → ⊥
unfolding the_lane can
barred n d g l h e f q = let i = barred-idle (the_group d g).lanes_of l (rw q (and_parts (ltb h (length d.groups_of)) _ f).1) in grind arith

pub apart : (n : ℕ) (d : Grid) (x u : Turn) → can n d x ≡ true → can n d u ≡ true → (x ≡ u) ⊎ Apart x u
unfolding Apart
apart n d (of g l) (of h k) e f =
    elim (cases_eq g h) [ inl q ↦ elim (cases_eq l k) [ inl r ↦ inl (rw (q, r)) | inr r ↦ inr (λ _. r) ] | inr q ↦ inr (λ s _. q s) ]
apart n d (of g l) (release h) e f = inr (barred n d g l h e f)
apart n d (release g) (of h k) e f = inr (λ q. barred n d h k g f e (sym q))
apart n d (release g) (release h) e f = elim (cases_eq g h) [ inl q ↦ inl (rw q) | inr q ↦ inr q ]

-- the turn finds the same in the grids d and e
abbrev Sees : Grid → Grid → Turn → Type 0
Sees d e (of g l) = (the_lane e g l ≡ the_lane d g l) × ((the_group e g).phase ≡ (the_group d g).phase) × Alike e.memory d.memory
Sees d e (release g) = the_group e g ≡ the_group d g

did-sees : (n : ℕ) (d : Grid) (x u : Turn) → Apart x u → Sees d (did n d x) u
unfolding the_lane the_group Alike Apart did
did-sees n d (of g l) (of h k) a = (
  at-keeps no_group (λ q. get_or q.lanes_of k no_lane) d.groups_of g h (move l _) (λ e q. get_or-set_other q.lanes_of l k _ no_lane (λ f. a e (sym f))),
  at-keeps no_group (λ q. q.phase) d.groups_of g h (move l _) (λ _ q. refl),
  after-alike (the_act n d g l) d.memory,
)
did-sees n d (of g l) (release h) a = at-keeps no_group (λ q. q) d.groups_of g h (move l _) (λ e q. absurd (a e))
did-sees n d (release g) (of h k) a = (
  at-keeps no_group (λ q. get_or q.lanes_of k no_lane) d.groups_of g h gone_on (λ e q. absurd (a e)),
  at-keeps no_group (λ q. q.phase) d.groups_of g h gone_on (λ e q. absurd (a e)),
  λ w. refl,
)
did-sees n d (release g) (release h) a = at-keeps no_group (λ q. q) d.groups_of g h gone_on (λ e q. absurd (a e))

sees-act : (n : ℕ) (d e : Grid) (g l : ℕ) → Sees d e (of g l) → the_act n e g l ≡ the_act n d g l
unfolding the_act Alike
sees-act n d e g l s = rw (s.0, s.2 0, s.2 (suc g))

-- whether it can be done, and its marks, are the same before and after the other
pub same-can : (n : ℕ) (d : Grid) (x u : Turn) → Apart x u → can n (did n d x) u ≡ can n d u
unfolding can
same-can n d x (of h k) a = rw (did-length n d x, (did-sees n d x (of h k) a).0)
same-can n d x (release h) a = rw (did-length n d x, did-sees n d x (release h) a)

pub same-marks : (n : ℕ) (d : Grid) (x u : Turn) → Apart x u → marks_at n (did n d x) u ≡ marks_at n d u
unfolding marks_at
same-marks n d x (of h k) a = let s = did-sees n d x (of h k) a in rw (s.1, sees-act n d (did n d x) h k s)
same-marks n d x (release h) a = refl

-- marks of different lanes that touch one cell race, if one of them writes
hits : (a b : Mark) → a.touch.where_is ≡ b.touch.where_is → a.touch.cell ≡ b.touch.cell → (a.touch.wrote || b.touch.wrote) ≡ true →
    (a.by_group ≡ b.by_group → (a.phase ≡ b.phase) × (a.by_lane ≡ b.by_lane → ⊥)) → race a b ≡ true
unfolding race unparted
hits a b w c o f = grind (arith, nat_tests)

-- what two turns do where a lane of each steps, or a group goes on
cross-release : (n : ℕ) (d : Grid) (g l h : ℕ) → (g ≡ h → ⊥) → did n (did n d (of g l)) (release h) ≡ did n (did n d (release h)) (of g l)
unfolding did the_group Apart
cross-release n d g l h a =
    rw (sees-act n d (did n d (release h)) g l (did-sees n d (release h) (of g l) (λ e. a (sym e))))
    (ap (λ (gs : List Group). record { groups_of = gs; memory = after (the_act n d g l) d.memory })
    (at-comm no_group d.groups_of g h (move l _) gone_on (λ e. absurd (a e))))

cross-of : (n : ℕ) (d : Grid) (g l h k : ℕ) → Apart (of g l) (of h k) → Clear (the_act n d g l) (the_act n d h k) → Clear (the_act n d h k) (the_act n d g l) →
    did n (did n d (of g l)) (of h k) ≡ did n (did n d (of h k)) (of g l)
unfolding did the_group Apart
cross-of n d g l h k a c c' =
    let A : Act = the_act n d g l in
    let B : Act = the_act n d h k in
    rw (
      sees-act n d (did n d (of g l)) h k (did-sees n d (of g l) (of h k) a),
      sees-act n d (did n d (of h k)) g l (did-sees n d (of h k) (of g l) (λ e f. a (sym e) (sym f))),
      lane-after A B d.memory c,
      lane-after B A d.memory c',
    )
    (λ i. record {
      groups_of = at-comm no_group d.groups_of g h (move l (lane_of A d.memory)) (move k (lane_of B d.memory))
          (λ e q. ap (λ (xs : List Lane). record { lanes_of = xs; phase = q.phase }) (set_comm q.lanes_of l k _ _ (a e))) i;
      memory = after-comm A B d.memory c i;
    })

both-go-on : (n : ℕ) (d : Grid) (g h : ℕ) → (g ≡ h → ⊥) → did n (did n d (release g)) (release h) ≡ did n (did n d (release h)) (release g)
unfolding did the_group
both-go-on n d g h a =
    ap (λ (gs : List Group). record { groups_of = gs; memory = d.memory }) (at-comm no_group d.groups_of g h gone_on gone_on (λ e. absurd (a e)))

module _ (P : Mark → Type 0) (calm : (a b : Mark) → P a → P b → race a b ≡ false) where
  clear : (a b : Act) (g l p h k q : ℕ) → (g ≡ h → (p ≡ q) × (l ≡ k → ⊥)) → All P (marks g l p (touched a)) → All P (marks h k q (touched b)) → Clear a b
  unfolding touched marks Clear
  clear (quiet y) b g l p h k q f s t = tt
  clear (reads w c i x) (quiet y) g l p h k q f s t = tt
  clear (reads w c i x) (reads u d j y) g l p h k q f s t = tt
  clear (reads w c i x) (writes u d z y) g l p h k q f s t = λ e r. both_ways _ (calm _ _ s.0 t.0) (hits _ _ e r refl f)
  clear (writes w c v x) (quiet y) g l p h k q f s t = tt
  clear (writes w c v x) (reads u d j y) g l p h k q f s t = λ e r. both_ways _ (calm _ _ s.0 t.0) (hits _ _ e r refl f)
  clear (writes w c v x) (writes u d z y) g l p h k q f s t = λ e r. both_ways _ (calm _ _ s.0 t.0) (hits _ _ e r refl f)

  pub cross : (n : ℕ) (d : Grid) (x u : Turn) → Apart x u → All P (marks_at n d x) → All P (marks_at n d u) → did n (did n d x) u ≡ did n (did n d u) x
  unfolding Apart marks_at
  cross n d (of g l) (of h k) a s t =
      cross-of n d g l h k a
      (clear (the_act n d g l) (the_act n d h k) g l _ h k _ (λ e. (ap (λ (q : ℕ). (the_group d q).phase) e, a e)) s t)
      (clear (the_act n d h k) (the_act n d g l) h k _ g l _ (λ e. (ap (λ (q : ℕ). (the_group d q).phase) e, λ f. a (sym e) (sym f))) t s)
  cross n d (of g l) (release h) a s t = cross-release n d g l h a
  cross n d (release g) (of h k) a s t = sym (cross-release n d h k g (λ e. a (sym e)))
  cross n d (release g) (release h) a s t = both-go-on n d g h a
