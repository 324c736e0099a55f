-- Open joins have lanes of the row; so there are few of them.
use Rattle.std.proofs.Common.{◌≡◌, ℕ, zero, suc, ◌+◌, ◌*◌, ◌^◌, ◌<◌, ◌≤◌, Bool, true, false, cond, not, ◌⊎◌, List, [], ◌∷◌, length, Some, sym, refl, ap, ◌∙◌, subst, inl, inr, pow-suc, arith}
use Rattle.std.specs.List.{AllByRecursion as All}
use Rattle.std.proofs.lemmas.Bool.{cases_Bool, cases_eq, and_parts}
use Rattle.masks.specs.Masks.{on, lacking, lanes_in}
use Rattle.masks.proofs.Bits.{on-lacking, no_bits}
use Rattle.code.specs.declared.step.Step.{Step}
use Rattle.joins.specs.Story.{Open, less, thinned, leave, topmost, branches_of, Sound}
use Rattle.joins.proofs.Opens.{top-here, top_below, branches-here, branches-below, thin-cases, leave-here, leave-further, leave_none}
use Rattle.joins.proofs.Leaves.{one-top, no_top, none-branches}

-- A mask that is not 0 has a lane.
below_power : (m : ℕ) → m < 2 ^ m
below_power zero = omega arith
below_power (suc m) = let e : 2 ^ suc m ≡ 2 ^ m * 2 = pow-suc 2 m in let p = below_power m in omega arith

looked : (m k : ℕ) → ((i : ℕ) × (on m i ≡ true)) ⊎ ((i : ℕ) → i < k → on m i ≡ false)
looked m zero = inr (λ i h. let z : ⊥ = omega arith in absurd z)
looked m (suc k) =
    elim (cases_Bool (on m k)) [
      | inl p ↦ inl (k, p)
      | inr p ↦ elim (looked m k) [
        | inl q ↦ inl q
        | inr q ↦ inr (λ i h. elim (cases_eq i k) [
          | inl e ↦ subst (λ (v : ℕ). on m v ≡ false) (sym e) p
          | inr e ↦ q i (omega arith)
        ])
      ]
    ]

pub some-on : (m : ℕ) → (m ≡ 0 → ⊥) → (i : ℕ) × (on m i ≡ true)
some-on m h = elim (looked m m) [ inl p ↦ p | inr p ↦ absurd (h (no_bits m m (below_power m) p)) ]

module _ (code : ℕ → Step) (w : ℕ) where
  sound-less : (o : Open) (m : ℕ) → (lacking o.lanes m ≡ 0 → ⊥) → Sound code w o → Sound code w (less o m)
  sound-less o m h s =
      record {
        some = some-on (lacking o.lanes m) h;
        within = λ i q. s.within i (and_parts (on o.lanes i) (not (on m i)) (sym (on-lacking o.lanes m i) ∙ q)).0;
        branch = s.branch;
      }

  sound-thinned : (m : ℕ) (o : Open) (os : List Open) → Sound code w o → All (Sound code w) os → All (Sound code w) (thinned o m os)
  sound-thinned m o os s a =
      elim (thin-cases o m os) [
        | inl q ↦ subst (λ (v : List Open). All (Sound code w) v) (sym q.1) a
        | inr q ↦ subst (λ (v : List Open). All (Sound code w) v) (sym q.1) (sound-less o m q.0 s, a)
      ]

  pub sound-leave : (n m : ℕ) (os : List Open) → All (Sound code w) os → All (Sound code w) (leave n m os)
  sound-leave n m [] a = subst (λ (v : List Open). All (Sound code w) v) (sym (leave_none n m)) a
  sound-leave n m (o ∷ os) a =
      elim (cases_eq o.number n) [
        | inl e ↦ subst (λ (v : List Open). All (Sound code w) v) (sym (leave-here n m o os e)) (sound-thinned m o os a.0 a.1)
        | inr e ↦ subst (λ (v : List Open). All (Sound code w) v) (sym (leave-further n m o os e)) (a.0, sound-leave n m os a.1)
      ]

  pub sound-top : (os : List Open) (i : ℕ) (o : Open) → All (Sound code w) os → topmost os i ≡ Some o → Sound code w o
  sound-top [] i o a t = no_top i o t
  sound-top (v ∷ os) i o a t =
      elim (cases_Bool (on v.lanes i)) [
        | inl q ↦ subst (λ (u : Open). Sound code w u) (one-top (v ∷ os) i v o (top-here v os i q) t) a.0
        | inr q ↦ sound-top os i o a.1 (sym (top_below v os i q) ∙ t)
      ]

  -- A number that is no lane of the row is in no join.
  pub outside : (os : List Open) (i : ℕ) → All (Sound code w) os → w ≤ i → branches_of os i ≡ []
  outside [] i a h = none-branches i
  outside (o ∷ os) i a h =
      elim (cases_Bool (on o.lanes i)) [
        | inl q ↦ let r = a.0.within i q in let z : ⊥ = omega arith in absurd z
        | inr q ↦ branches-below o os i q ∙ outside os i a.1 h
      ]

  -- If no lane of the row is in a join there is none.
  pub none_open : (os : List Open) → All (Sound code w) os → ((i : ℕ) → i < w → branches_of os i ≡ []) → os ≡ []
  none_open [] a h = refl
  none_open (o ∷ os) a h =
      let s = a.0.some in
      let here = branches-here o os s.0 s.1 in
      let gone = h s.0 (a.0.within s.0 s.1) in
      let z : ◌≡◌ {A = ℕ} 0 1 = cc in
      let y : ⊥ = omega arith in
      absurd y

  -- In how many joins the first k lanes are, together.
  total : List Open → ℕ → ℕ
  total os zero = 0
  total os (suc k) = total os k + length (branches_of os k)

  length-branches : (o : Open) (os : List Open) (i : ℕ) → length (branches_of (o ∷ os) i) ≡ cond (on o.lanes i) 1 0 + length (branches_of os i)
  unfolding branches_of
  length-branches o os i = elim (on o.lanes i) as (λ (b : Bool). length (cond b (o.branch ∷ branches_of os i) (branches_of os i)) ≡ cond b 1 0 + length (branches_of os i)) [ true ↦ omega arith | false ↦ omega arith ]

  total-more : (o : Open) (os : List Open) (k : ℕ) → total (o ∷ os) k ≡ lanes_in o.lanes k + total os k
  unfolding total lanes_in
  total-more o os zero = refl
  total-more o os (suc k) = let p = total-more o os k in let q = length-branches o os k in omega arith

  one_lane : (m i k : ℕ) → on m i ≡ true → i < k → 1 ≤ lanes_in m k
  unfolding lanes_in
  one_lane m i zero q h = absurd (omega arith)
  one_lane m i (suc k) q h =
      elim (cases_eq i k) [
        | inl e ↦ let p : ◌≡◌ {A = ℕ} (cond (on m k) 1 0) 1 = ap (λ (b : Bool). cond {A = ℕ} b 1 0) (subst (λ (v : ℕ). on m v ≡ true) e q) in omega arith
        | inr e ↦ let p = one_lane m i k q (omega arith) in omega arith
      ]

  each_counts : (os : List Open) → All (Sound code w) os → length os ≤ total os w
  each_counts [] a = omega arith
  each_counts (o ∷ os) a =
      let s = a.0.some in
      let p = one_lane o.lanes s.0 w s.1 (a.0.within s.0 s.1) in
      let q = total-more o os w in
      let r = each_counts os a.1 in
      omega arith

  total-few : (os : List Open) (k : ℕ) → ((i : ℕ) → length (branches_of os i) ≤ 16) → total os k ≤ 16 * k
  unfolding total
  total-few os zero h = omega arith
  total-few os (suc k) h = let p = total-few os k h in let q = h k in omega arith

  pub room_for : (os : List Open) → All (Sound code w) os → ((i : ℕ) → length (branches_of os i) ≤ 16) → length os ≤ 16 * w
  room_for os a h = let p = each_counts os a in let q = total-few os w h in omega arith
