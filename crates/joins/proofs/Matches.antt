-- What is so of the stack is so of the open joins.
use Rattle.std.proofs.Common.{◌≡◌, ℕ, zero, suc, ◌<◌, true, false, eqb, List, [], ◌∷◌, length, Some, None, sym, refl, ap, ◌∙◌, subst, inl, inr, arith}
use Rattle.std.proofs.lemmas.Bool.{cases_Bool, cases_eq, cond-true, cond-false, eq-eqb, ne_eqb}
use Rattle.masks.specs.Masks.{on, lacking}
use Rattle.code.specs.declared.step.Step.{Step}
use Rattle.code.specs.Joins.{JoinsAt, Regions}
use Rattle.joins.specs.declared.Join.{Join}
use Rattle.joins.specs.Stack.{lost, kept_on, leaves, down_from}
use Rattle.joins.specs.Story.{Story, place, Open, less, thinned, leave, open_joins, topmost, still_in, OwnJoin, HasCome, Falls}
use Rattle.joins.specs.Matched.{IsOpen, AreOpen, open_at, Newest, LeftByPlace}
use Rattle.joins.proofs.Opens.{top-here, top_below, still-apart, thin-cases, leave-here, leave-further}
use Rattle.joins.proofs.Leaves.{falls-parts, no_top, none-top, one-top}
use Rattle.joins.proofs.Stacklists.{down-length, kept-none, kept-some}
use Rattle.joins.proofs.Tallies.{still-new}

pub open-here : (o : Open) (os : List Open) (k : ℕ) → length os ≡ k → open_at (o ∷ os) k ≡ o
unfolding open_at
open-here o os k e = cond-true (eqb (length os) k) o (open_at os k) (eq-eqb (length os) k e)

pub open-below : (o : Open) (os : List Open) (k : ℕ) → (length os ≡ k → ⊥) → open_at (o ∷ os) k ≡ open_at os k
unfolding open_at
open-below o os k e = cond-false (eqb (length os) k) o (open_at os k) (ne_eqb (length os) k e)

-- Numbers fall with the places.
pub open-number : (top k : ℕ) (os : List Open) → Falls top os → k < length os → (open_at os k).number < top
open-number top k [] f h = absurd (omega arith)
open-number top k (o ∷ os) f h =
    let p = falls-parts top o os f in
    elim (cases_eq (length os) k) [
      | inl e ↦ subst (λ (v : Open). v.number < top) (sym (open-here o os k e)) p.0
      | inr e ↦ subst (λ (v : Open). v.number < top) (sym (open-below o os k e)) (let q = open-number o.number k os p.1 (omega arith) in omega arith)
    ]

pub open_order : (top j k : ℕ) (os : List Open) → Falls top os → j < k → k < length os → (open_at os j).number < (open_at os k).number
open_order top j k [] f l h = absurd (omega arith)
open_order top j k (o ∷ os) f l h =
    let p = falls-parts top o os f in
    let low : open_at (o ∷ os) j ≡ open_at os j = open-below o os j (λ e. omega arith) in
    elim (cases_eq (length os) k) [
      | inl e ↦
          subst (λ (v : Open). v.number < (open_at (o ∷ os) k).number) (sym low) (subst (λ (v : Open). (open_at os j).number < v.number) (sym (open-here o os k e)) (open-number o.number j os p.1 (omega arith)))
      | inr e ↦
          subst (λ (v : Open). v.number < (open_at (o ∷ os) k).number) (sym low) (subst (λ (v : Open). (open_at os j).number < v.number) (sym (open-below o os k e)) (open_order o.number j k os p.1 l (omega arith)))
    ]

leaves-here : (j : Join) (js : List Join) (k mask : ℕ) → length js ≡ k → leaves (j ∷ js) k mask ≡ kept_on (lost j mask) js
unfolding leaves
leaves-here j js k mask e = cond-true (eqb (length js) k) (kept_on (lost j mask) js) (j ∷ leaves js k mask) (eq-eqb (length js) k e)

leaves-below : (j : Join) (js : List Join) (k mask : ℕ) → (length js ≡ k → ⊥) → leaves (j ∷ js) k mask ≡ j ∷ leaves js k mask
unfolding leaves
leaves-below j js k mask e = cond-false (eqb (length js) k) (kept_on (lost j mask) js) (j ∷ leaves js k mask) (ne_eqb (length js) k e)

later-one : (f : ℕ → Join) (n m i : ℕ) → on (f n).lanes i ≡ false → (m < n → on (f m).lanes i ≡ false) → m < suc n → on (f m).lanes i ≡ false
later-one f n m i off h l =
    elim (cases_eq m n) [
      | inl e ↦ subst (λ (v : ℕ). on (f v).lanes i ≡ false) (sym e) off
      | inr e ↦ h (omega arith)
    ]

module _ (code : ℕ → Step) where
  -- One more join.
  pub are-more : (o : Open) (os : List Open) (j : Join) (js : List Join) → IsOpen code o j → AreOpen code os js → AreOpen code (o ∷ os) (j ∷ js)
  unfolding AreOpen
  are-more o os j js i a = (i, a)

  pub are-long : (os : List Open) (js : List Join) → AreOpen code os js → length os ≡ length js
  unfolding AreOpen
  are-long [] [] a = refl
  are-long [] (j ∷ js) a = absurd a
  are-long (o ∷ os) [] a = absurd a
  are-long (o ∷ os) (j ∷ js) a = ap suc (are-long os js a.1)

  pub are-none : AreOpen code [] []
  unfolding AreOpen
  are-none = tt

  pub are-gone : (os : List Open) (js : List Join) → AreOpen code os js → os ≡ [] → js ≡ []
  unfolding AreOpen
  are-gone os [] a e = refl
  are-gone os (j ∷ js) a e = absurd (subst (λ (v : List Open). AreOpen code v (j ∷ js)) e a)

  are-same : (os vs : List Open) (js ks : List Join) → vs ≡ os → ks ≡ js → AreOpen code os js → AreOpen code vs ks
  are-same os vs js ks p q a = subst (λ (v : List Open). AreOpen code v ks) (sym p) (subst (λ (v : List Join). AreOpen code os v) (sym q) a)

  are-thinned : (o : Open) (os : List Open) (j : Join) (js : List Join) (mask : ℕ) → IsOpen code o j → AreOpen code os js → AreOpen code (thinned o mask os) (kept_on (lost j mask) js)
  are-thinned o os j js mask i a =
      let same : lacking j.lanes mask ≡ lacking o.lanes mask = ap (λ (v : ℕ). lacking v mask) i.lanes in
      elim (thin-cases o mask os) [
        | inl q ↦ are-same os (thinned o mask os) js (kept_on (lost j mask) js) q.1 (kept-none (lost j mask) js (same ∙ q.0)) a
        | inr q ↦
            are-same (less o mask ∷ os) (thinned o mask os) (lost j mask ∷ js) (kept_on (lost j mask) js) q.1 (kept-some (lost j mask) js (λ e. q.0 (sym same ∙ e)))
            (are-more (less o mask) os (lost j mask) js (record { branch = i.branch; lanes = same; line = i.line }) a)
      ]

  -- Lanes go on from the join at place k.
  are-left : (top k mask : ℕ) (os : List Open) (js : List Join) → Falls top os → AreOpen code os js → k < length js → AreOpen code (leave (open_at os k).number mask os) (leaves js k mask)
  unfolding AreOpen
  are-left top k mask [] [] f a h = absurd (omega arith)
  are-left top k mask [] (j ∷ js) f a h = absurd a
  are-left top k mask (o ∷ os) [] f a h = absurd a
  are-left top k mask (o ∷ os) (j ∷ js) f a h =
      let p = falls-parts top o os f in
      let long = are-long os js a.1 in
      elim (cases_eq (length os) k) [
        | inl e ↦
            are-same (thinned o mask os) (leave (open_at (o ∷ os) k).number mask (o ∷ os)) (kept_on (lost j mask) js) (leaves (j ∷ js) k mask)
            (leave-here (open_at (o ∷ os) k).number mask o os (ap (λ (v : Open). v.number) (sym (open-here o os k e)))) (leaves-here j js k mask (omega arith))
            (are-thinned o os j js mask a.0 a.1)
        | inr e ↦
            let below : (open_at (o ∷ os) k).number ≡ (open_at os k).number = ap (λ (v : Open). v.number) (open-below o os k e) in
            let less-than = open-number o.number k os p.1 (omega arith) in
            are-same (o ∷ leave (open_at os k).number mask os) (leave (open_at (o ∷ os) k).number mask (o ∷ os)) (j ∷ leaves js k mask) (leaves (j ∷ js) k mask)
            (ap (λ (n : ℕ). leave n mask (o ∷ os)) below ∙ leave-further (open_at os k).number mask o os (λ q. omega arith)) (leaves-below j js k mask (λ q. omega arith))
            (are-more o (leave (open_at os k).number mask os) j (leaves js k mask) a.0 (are-left o.number k mask os js p.1 a.1 (omega arith)))
      ]

pub left-by-place : LeftByPlace
unfolding LeftByPlace
left-by-place = are-left

-- The joins of a stack are f 0, f 1, .. f (n - 1), and the open joins are os.
module _ (code : ℕ → Step) (f : ℕ → Join) where
  pub are-deep : (n : ℕ) (os : List Open) → AreOpen code os (down_from f n) → length os ≡ n
  are-deep n os a = are-long code os (down_from f n) a ∙ down-length f n

  -- The join at place k.
  pub at_place : (n k : ℕ) (os : List Open) → AreOpen code os (down_from f n) → k < n → IsOpen code (open_at os k) (f k)
  unfolding AreOpen down_from
  at_place zero k os a h = absurd (omega arith)
  at_place (suc n) k [] a h = absurd a
  at_place (suc n) k (o ∷ os) a h =
      let long = are-deep n os a.1 in
      elim (cases_eq (length os) k) [
        | inl e ↦ subst (λ (v : Open). IsOpen code v (f k)) (sym (open-here o os k e)) (subst (λ (v : ℕ). IsOpen code o (f v)) (sym long ∙ e) a.0)
        | inr e ↦ subst (λ (v : Open). IsOpen code v (f k)) (sym (open-below o os k e)) (at_place n k os a.1 (omega arith))
      ]

  -- The newest join that has a lane is its topmost.
  pub newest-top : (n k i : ℕ) (os : List Open) → AreOpen code os (down_from f n) → Newest f n k i → topmost os i ≡ Some (open_at os k)
  unfolding AreOpen down_from
  newest-top zero k i os a w = absurd (omega (arith, w.there))
  newest-top (suc n) k i [] a w = absurd a
  newest-top (suc n) k i (o ∷ os) a w =
      let long = are-deep n os a.1 in
      let there = w.there in
      elim (cases_eq k n) [
        | inl e ↦
            top-here o os i (ap (λ (v : ℕ). on v i) (sym a.0.lanes) ∙ subst (λ (v : ℕ). on (f v).lanes i ≡ true) e w.has) ∙ ap (λ (v : Open). Some v) (sym (open-here o os k (long ∙ sym e)))
        | inr e ↦
            top_below o os i (ap (λ (v : ℕ). on v i) (sym a.0.lanes) ∙ w.later n (omega arith) (omega arith)) ∙
            (newest-top n k i os a.1 (record { there = omega arith; has = w.has; later = λ m p q. w.later m p (omega arith) }) ∙ ap (λ (v : Open). Some v) (sym (open-below o os k (λ q. omega arith))))
      ]

  pub top-newest : (n i : ℕ) (os : List Open) (v : Open) → AreOpen code os (down_from f n) → topmost os i ≡ Some v → (k : ℕ) × Newest f n k i × (v ≡ open_at os k)
  unfolding AreOpen down_from
  top-newest n i [] v a t = no_top i v t
  top-newest zero i (o ∷ os) v a t = absurd a
  top-newest (suc n) i (o ∷ os) v a t =
      let long = are-deep n os a.1 in
      elim (cases_Bool (on o.lanes i)) [
        | inl q ↦ (
          n,
          record { there = omega arith; has = ap (λ (v : ℕ). on v i) a.0.lanes ∙ q; later = λ m p r. absurd (omega arith) },
          one-top (o ∷ os) i v o t (top-here o os i q) ∙ sym (open-here o os n long),
        )
        | inr q ↦
            let r = top-newest n i os v a.1 (sym (top_below o os i q) ∙ t) in
            let there = r.1.there in
            let off : on (f n).lanes i ≡ false = ap (λ (v : ℕ). on v i) a.0.lanes ∙ q in (
              r.0,
              record { there = omega arith; has = r.1.has; later = λ m p s. later-one f n m i off (r.1.later m p) s },
              r.2 ∙ sym (open-below o os r.0 (λ e. omega arith)),
            )
      ]

  -- No join has the lane.
  pub none-newest : (n i : ℕ) (os : List Open) → AreOpen code os (down_from f n) → ((m : ℕ) → m < n → on (f m).lanes i ≡ false) → topmost os i ≡ None
  unfolding AreOpen down_from
  none-newest n i [] a h = none-top i
  none-newest zero i (o ∷ os) a h = absurd a
  none-newest (suc n) i (o ∷ os) a h =
      top_below o os i (ap (λ (v : ℕ). on v i) (sym a.0.lanes) ∙ h n (omega arith)) ∙ none-newest n i os a.1 (λ m p. h m (omega arith))

  -- The lanes that the join at place k still has.
  pub still-place : (top n k i : ℕ) (os : List Open) → Falls top os → AreOpen code os (down_from f n) → k < n → still_in os (open_at os k).number i ≡ on (f k).lanes i
  unfolding AreOpen down_from
  still-place top zero k i os l a h = absurd (omega arith)
  still-place top (suc n) k i [] l a h = absurd a
  still-place top (suc n) k i (o ∷ os) l a h =
      let p = falls-parts top o os l in
      let long = are-deep n os a.1 in
      elim (cases_eq (length os) k) [
        | inl e ↦
            ap (λ (v : Open). still_in (o ∷ os) v.number i) (open-here o os k e) ∙ (still-new o os i p.1 ∙ (ap (λ (v : ℕ). on v i) (sym a.0.lanes) ∙ ap (λ (v : ℕ). on (f v).lanes i) (sym long ∙ e)))
        | inr e ↦
            let less-than = open-number o.number k os p.1 (omega arith) in
            ap (λ (v : Open). still_in (o ∷ os) v.number i) (open-below o os k e) ∙ (still-apart o os (open_at os k).number i (λ q. omega arith) ∙ still-place o.number n k i os p.1 a.1 (omega arith))
      ]

  -- A lane that stands where its newest join joins has come to it, and there is no other way to come.
  pub come-place : (n k i : ℕ) (h : Story) → AreOpen code (open_joins h) (down_from f n) → Newest f n k i → place h i ≡ (f k).line → HasCome code h (open_at (open_joins h) k).number i
  come-place n k i h a w e =
      record {
        join = open_at (open_joins h) k;
        top = newest-top n k i (open_joins h) a w;
        its_number = refl;
        there = subst (λ (r : ℕ). JoinsAt code (open_at (open_joins h) k).branch r) (sym e) (at_place n k (open_joins h) a w.there).line;
      }

  pub place-come : (lines n m i : ℕ) (h : Story) → Regions code lines → AreOpen code (open_joins h) (down_from f n) → HasCome code h m i →
      (k : ℕ) × Newest f n k i × (place h i ≡ (f k).line) × (m ≡ (open_at (open_joins h) k).number)
  place-come lines n m i h g a c =
      let r = top-newest n i (open_joins h) c.join a c.top in
      let line = (at_place n r.0 (open_joins h) a r.1.there).line in
      let there = subst (λ (v : Open). JoinsAt code v.branch (place h i)) r.2 c.there in (
        r.0,
        r.1,
        g.one_join (open_at (open_joins h) r.0).branch (place h i) (f r.0).line there line,
        sym c.its_number ∙ ap (λ (v : Open). v.number) r.2,
      )

  -- The branch of the newest join that has a lane.
  pub own-place : (n k i b : ℕ) (h : Story) → AreOpen code (open_joins h) (down_from f n) → Newest f n k i → (f k).branch ≡ b → OwnJoin h b i
  own-place n k i b h a w e =
      (open_at (open_joins h) k, newest-top n k i (open_joins h) a w, sym (at_place n k (open_joins h) a w.there).branch ∙ e)

  pub place-own : (n i b : ℕ) (h : Story) → AreOpen code (open_joins h) (down_from f n) → OwnJoin h b i → (k : ℕ) × Newest f n k i × ((f k).branch ≡ b)
  place-own n i b h a o =
      let r = top-newest n i (open_joins h) o.0 a o.1 in
      (r.0, r.1, (at_place n r.0 (open_joins h) a r.1.there).branch ∙ (ap (λ (v : Open). v.branch) (sym r.2) ∙ o.2))
