-- How often a lane goes on from a join.
use Rattle.std.proofs.Common.{◌≡◌, ℕ, ◌+◌, ◌≤◌, Bool, true, false, cond, ◌&&◌, eqb, List, [], ◌∷◌, sym, refl, ap, ◌∙◌, subst, inl, inr, arith}
use Rattle.std.proofs.lemmas.Bool.{cases_Bool, cases_eq, cond-true, cond-false, eq-eqb, ne_eqb, and_left, and_right, and_from}
use Rattle.masks.specs.Masks.{on}
use Rattle.code.specs.declared.step.Step.{Step}
use Rattle.code.specs.Joins.{is_branch, Regions}
use Rattle.joins.specs.Story.{did, parted, went, passed, Story, partings, Open, leave, open_joins, still_in, HasCome, FairWent, Happened, parted_with, leaves_by, goes_on, Falls}
use Rattle.joins.proofs.Opens.{still-below, still-apart, still-here}
use Rattle.joins.proofs.Leaves.{not-still, top-still, apart-still, off-still, on-still}
use Rattle.joins.proofs.Keeps.{inv-kept}

-- 1 for true and 0 for false.
abbrev pub bit : Bool → ℕ
bit b = cond b 1 0

-- A join that was not opened has no lanes.
parted-few : (h : Story) (n i : ℕ) → partings h ≤ n → parted_with h n i ≡ false
unfolding partings parted_with
parted-few [] n i le = refl
parted-few (did m l to ∷ h) n i le = parted-few h n i le
parted-few (parted m l to ∷ h) n i le =
    cond-false (eqb (partings h) n) (on m i) (parted_with h n i) (ne_eqb (partings h) n (λ e. omega arith)) ∙ parted-few h n i (omega arith)
parted-few (went k m ∷ h) n i le = parted-few h n i le
parted-few (passed to ∷ h) n i le = parted-few h n i le

-- The join that has just been opened has the lanes of the mask.
pub still-new : (o : Open) (os : List Open) (i : ℕ) → Falls o.number os → still_in (o ∷ os) o.number i ≡ on o.lanes i
still-new o os i f =
    elim (cases_Bool (on o.lanes i)) [
      | inl q ↦ still-here o os o.number i refl q ∙ sym q
      | inr q ↦ still-below o os o.number i q ∙ (not-still o.number o.number i os f (omega arith) ∙ sym q)
    ]

pub come-still : (code : ℕ → Step) (h : Story) (n i : ℕ) → HasCome code h n i → still_in (open_joins h) n i ≡ true
come-still code h n i c = subst (λ (k : ℕ). still_in (open_joins h) k i ≡ true) c.its_number (top-still (open_joins h) i c.join c.top)

-- What the tally says of a lane and a join.
Tally : Story → ℕ → ℕ → Type 0
Tally h n i = goes_on h n i + bit (still_in (open_joins h) n i) ≡ bit (parted_with h n i)

tally-parted : (h : Story) (m l : ℕ) (to : ℕ → ℕ) (n i : ℕ) → Falls (partings h) (open_joins h) → Tally h n i → Tally (parted m l to ∷ h) n i
unfolding Tally goes_on leaves_by open_joins parted_with
tally-parted h m l to n i f t =
    let o : Open = record { number = partings h; branch = l; lanes = m } in
    elim (cases_eq (partings h) n) [
      | inl e ↦
          let new : bit (still_in (o ∷ open_joins h) n i) ≡ bit (on m i) = ap bit (subst (λ (k : ℕ). still_in (o ∷ open_joins h) k i ≡ on m i) e (still-new o (open_joins h) i f)) in
          let with : bit (cond (eqb (partings h) n) (on m i) (parted_with h n i)) ≡ bit (on m i) = ap bit (cond-true (eqb (partings h) n) (on m i) (parted_with h n i) (eq-eqb (partings h) n e)) in
          let old : bit (still_in (open_joins h) n i) ≡ 0 = ap bit (not-still (partings h) n i (open_joins h) f (omega arith)) in
          let none : bit (parted_with h n i) ≡ 0 = ap bit (parted-few h n i (omega arith)) in
          omega arith
      | inr e ↦
          let same : bit (still_in (o ∷ open_joins h) n i) ≡ bit (still_in (open_joins h) n i) = ap bit (still-apart o (open_joins h) n i e) in
          let with : bit (cond (eqb (partings h) n) (on m i) (parted_with h n i)) ≡ bit (parted_with h n i) = ap bit (cond-false (eqb (partings h) n) (on m i) (parted_with h n i) (ne_eqb (partings h) n e)) in
          omega arith
    ]

-- A lane that does not go on from the join.
tally-apart : (h : Story) (k m n i : ℕ) → (eqb k n && on m i) ≡ false → still_in (leave k m (open_joins h)) n i ≡ still_in (open_joins h) n i → Tally h n i → Tally (went k m ∷ h) n i
unfolding Tally goes_on leaves_by open_joins parted_with
tally-apart h k m n i a b t =
    let x : bit (eqb k n && on m i) ≡ 0 = ap bit a in
    let y : bit (still_in (leave k m (open_joins h)) n i) ≡ bit (still_in (open_joins h) n i) = ap bit b in
    omega arith

tally-leaves : (h : Story) (k m n i : ℕ) → (eqb k n && on m i) ≡ true → still_in (leave k m (open_joins h)) n i ≡ false → still_in (open_joins h) n i ≡ true → Tally h n i → Tally (went k m ∷ h) n i
unfolding Tally goes_on leaves_by open_joins parted_with
tally-leaves h k m n i a b c t =
    let x : bit (eqb k n && on m i) ≡ 1 = ap bit a in
    let y : bit (still_in (leave k m (open_joins h)) n i) ≡ 0 = ap bit b in
    let z : bit (still_in (open_joins h) n i) ≡ 1 = ap bit c in
    omega arith

tally-went : (code : ℕ → Step) (w : ℕ) (h : Story) (k m n i : ℕ) → Falls (partings h) (open_joins h) → FairWent code w h k m → Tally h n i → Tally (went k m ∷ h) n i
tally-went code w h k m n i f r t =
    elim (cases_Bool (on m i)) [
      | inl q ↦ elim (cases_eq k n) [
        | inl e ↦
            tally-leaves h k m n i (and_from (eqb k n) (on m i) (eq-eqb k n e) q)
            (subst (λ (v : ℕ). still_in (leave k m (open_joins h)) v i ≡ false) e (on-still (partings h) k m i (open_joins h) f q))
            (subst (λ (v : ℕ). still_in (open_joins h) v i ≡ true) e (come-still code h k i (r.come i q))) t
        | inr e ↦ tally-apart h k m n i (and_left (eqb k n) (on m i) (ne_eqb k n e)) (apart-still k m n i (open_joins h) e) t
      ]
      | inr q ↦ tally-apart h k m n i (and_right (eqb k n) (on m i) q) (off-still k m n i (open_joins h) q) t
    ]

module _ (code : ℕ → Step) (lines w : ℕ) (g : Regions code lines) (near : (b : ℕ) → is_branch (code b) ≡ true → b ≤ lines) where
  tallied : (h : Story) (n i : ℕ) → Happened code w h → Tally h n i
  unfolding Happened Tally goes_on leaves_by open_joins parted_with still_in
  tallied [] n i x = refl
  tallied (did m l to ∷ h) n i x = let t = tallied h n i x.0 in omega arith
  tallied (parted m l to ∷ h) n i x = tally-parted h m l to n i (inv-kept code lines w g near h x.0).falls (tallied h n i x.0)
  tallied (went k m ∷ h) n i x = tally-went code w h k m n i (inv-kept code lines w g near h x.0).falls x.1 (tallied h n i x.0)
  tallied (passed to ∷ h) n i x = let t = tallied h n i x.0 in omega arith

  pub tally-kept : (h : Story) → Happened code w h → (n i : ℕ) → goes_on h n i + cond (still_in (open_joins h) n i) 1 0 ≡ cond (parted_with h n i) 1 0
  unfolding Tally
  tally-kept h x n i = tallied h n i x
