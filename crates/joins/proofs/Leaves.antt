-- What the open joins of a lane are once lanes went on from one.
use Rattle.std.proofs.Common.{◌≡◌, ℕ, suc, ◌<◌, ◌≤◌, true, false, List, [], ◌∷◌, Some, None, Option, sym, refl, ap, ◌∙◌, subst, inl, inr, arith}
use Rattle.std.proofs.lemmas.Bool.{cases_Bool, cases_eq, cases_lt, both_ways}
use Rattle.masks.specs.Masks.{on}
use Rattle.joins.specs.Story.{Open, less, thinned, leave, topmost, still_in, branches_of, Falls}
use Rattle.joins.proofs.Opens.{less-on, less-off, top-here, top_below, branches-here, branches-below, still-below, still-apart, still-here, still-further, still_alike, still-less, thin-cases, thin-in, thin-out, leave-here, leave-further, leave_none}

-- Numbers that fall.
pub falls-weaker : (a b : ℕ) (os : List Open) → a ≤ b → Falls a os → Falls b os
unfolding Falls
falls-weaker a b [] h f = tt
falls-weaker a b (o ∷ os) h f = (omega arith, f.1)

pub falls-parts : (n : ℕ) (o : Open) (os : List Open) → Falls n (o ∷ os) → (o.number < n) × Falls o.number os
unfolding Falls
falls-parts n o os f = f

pub falls-from : (n : ℕ) (o : Open) (os : List Open) → o.number < n → Falls o.number os → Falls n (o ∷ os)
unfolding Falls
falls-from n o os h f = (h, f)

falls-thinned : (n m : ℕ) (o : Open) (os : List Open) → Falls n (o ∷ os) → Falls n (thinned o m os)
falls-thinned n m o os f =
    let p = falls-parts n o os f in
    elim (thin-cases o m os) [
      | inl q ↦ subst (λ (v : List Open). Falls n v) (sym q.1) (falls-weaker o.number n os (omega arith) p.1)
      | inr q ↦ subst (λ (v : List Open). Falls n v) (sym q.1) (falls-from n (less o m) os p.0 p.1)
    ]

pub falls-leave : (n k m : ℕ) (os : List Open) → Falls n os → Falls n (leave k m os)
falls-leave n k m [] f = subst (λ (v : List Open). Falls n v) (sym (leave_none k m)) f
falls-leave n k m (o ∷ os) f =
    let p = falls-parts n o os f in
    elim (cases_eq o.number k) [
      | inl e ↦ subst (λ (v : List Open). Falls n v) (sym (leave-here k m o os e)) (falls-thinned n m o os f)
      | inr e ↦ subst (λ (v : List Open). Falls n v) (sym (leave-further k m o os e)) (falls-from n o (leave k m os) p.0 (falls-leave o.number k m os p.1))
    ]

pub none-still : (n i : ℕ) → still_in [] n i ≡ false
unfolding still_in
none-still n i = refl

pub none-top : (i : ℕ) → topmost [] i ≡ None
unfolding topmost
none-top i = refl

pub none-branches : (i : ℕ) → branches_of [] i ≡ []
unfolding branches_of
none-branches i = refl

-- A lane is in no join with a number that is none of theirs.
pub not-still : (n k i : ℕ) (os : List Open) → Falls n os → n ≤ k → still_in os k i ≡ false
not-still n k i [] f h = none-still k i
not-still n k i (o ∷ os) f h =
    let p = falls-parts n o os f in
    still-apart o os k i (λ e. omega arith) ∙ not-still o.number k i os p.1 (omega arith)

some_is : {X : Type 0} (x y : X) (o : Option X) → o ≡ Some x → o ≡ Some y → x ≡ y
some_is x y o p q = cc

pub one-top : (os : List Open) (i : ℕ) (a b : Open) → topmost os i ≡ Some a → topmost os i ≡ Some b → a ≡ b
one-top os i a b p q = some_is a b (topmost os i) p q

pub no_top : {A : Type 0} (i : ℕ) (o : Open) → topmost [] i ≡ Some o → A
no_top i o e = let z : ◌≡◌ {A = ℕ} 0 1 = cc (none-top i) in let y : ⊥ = omega arith in absurd y

-- The topmost join of a lane has it, and its number is one of theirs.
pub top-has : (os : List Open) (i : ℕ) (o : Open) → topmost os i ≡ Some o → on o.lanes i ≡ true
top-has [] i o e = no_top i o e
top-has (a ∷ os) i o e =
    elim (cases_Bool (on a.lanes i)) [
      | inl p ↦ subst (λ (v : Open). on v.lanes i ≡ true) (one-top (a ∷ os) i a o (top-here a os i p) e) p
      | inr p ↦ top-has os i o (sym (top_below a os i p) ∙ e)
    ]

pub top-number : (n : ℕ) (os : List Open) (i : ℕ) (o : Open) → Falls n os → topmost os i ≡ Some o → o.number < n
top-number n [] i o f e = no_top i o e
top-number n (a ∷ os) i o f e =
    let p = falls-parts n a os f in
    elim (cases_Bool (on a.lanes i)) [
      | inl q ↦ subst (λ (v : Open). v.number < n) (one-top (a ∷ os) i a o (top-here a os i q) e) p.0
      | inr q ↦ let r = top-number a.number os i o p.1 (sym (top_below a os i q) ∙ e) in omega arith
    ]

pub top-still : (os : List Open) (i : ℕ) (o : Open) → topmost os i ≡ Some o → still_in os o.number i ≡ true
top-still [] i o e = no_top i o e
top-still (a ∷ os) i o e =
    elim (cases_Bool (on a.lanes i)) [
      | inl q ↦ still-here a os o.number i (ap (λ (v : Open). v.number) (one-top (a ∷ os) i a o (top-here a os i q) e)) q
      | inr q ↦ still-further a os o.number i (top-still os i o (sym (top_below a os i q) ∙ e))
    ]

-- A lane that has still to go on from a join has a topmost one, which is no older.
pub still-top : (top n i : ℕ) (os : List Open) → Falls top os → still_in os n i ≡ true → (o : Open) × (topmost os i ≡ Some o) × (n ≤ o.number)
still-top top n i [] f h = absurd (both_ways (still_in [] n i) (none-still n i) h)
still-top top n i (a ∷ os) f h =
    let p = falls-parts top a os f in
    elim (cases_Bool (on a.lanes i)) [
      | inl q ↦ (
        a,
        top-here a os i q,
        elim (cases_lt a.number n) [
          | inl l ↦ absurd (both_ways (still_in (a ∷ os) n i) (not-still (suc a.number) n i (a ∷ os) (falls-from (suc a.number) a os (omega arith) p.1) (omega arith)) h)
          | inr l ↦ l
        ],
      )
      | inr q ↦ let r = still-top a.number n i os p.1 (sym (still-below a os n i q) ∙ h) in (r.0, top_below a os i q ∙ r.1, r.2)
    ]

-- The branches of a lane's joins begin with that of its topmost join.
pub top-branches : (os : List Open) (i : ℕ) (o : Open) → topmost os i ≡ Some o → (cs : List ℕ) × (branches_of os i ≡ o.branch ∷ cs)
top-branches [] i o e = no_top i o e
top-branches (a ∷ os) i o e =
    elim (cases_Bool (on a.lanes i)) [
      | inl q ↦ (branches_of os i, branches-here a os i q ∙ ap (λ (v : Open). v.branch ∷ branches_of os i) (one-top (a ∷ os) i a o (top-here a os i q) e))
      | inr q ↦ let r = top-branches os i o (sym (top_below a os i q) ∙ e) in (r.0, branches-below a os i q ∙ r.1)
    ]

cons_head : (a b : ℕ) (xs ys : List ℕ) → a ∷ xs ≡ b ∷ ys → a ≡ b
cons_head a b xs ys e = cc

pub branches-top : (os : List Open) (i b : ℕ) (cs : List ℕ) → branches_of os i ≡ b ∷ cs → (o : Open) × (topmost os i ≡ Some o) × (o.branch ≡ b)
branches-top [] i b cs e = let z : ◌≡◌ {A = ℕ} 0 1 = cc (none-branches i) in let y : ⊥ = omega arith in absurd y
branches-top (a ∷ os) i b cs e =
    elim (cases_Bool (on a.lanes i)) [
      | inl q ↦ (a, top-here a os i q, cons_head a.branch b (branches_of os i) cs (sym (branches-here a os i q) ∙ e))
      | inr q ↦ let r = branches-top os i b cs (sym (branches-below a os i q) ∙ e) in (r.0, top_below a os i q ∙ r.1, r.2)
    ]

-- The lane is not in the mask: its joins are the same, but for other lanes.
pub off-branches : (n m i : ℕ) (os : List Open) → on m i ≡ false → branches_of (leave n m os) i ≡ branches_of os i
off-branches n m i [] h = ap (λ (v : List Open). branches_of v i) (leave_none n m)
off-branches n m i (o ∷ os) h =
    elim (cases_eq o.number n) [
      | inl e ↦
          ap (λ (v : List Open). branches_of v i) (leave-here n m o os e) ∙
          elim (cases_Bool (on o.lanes i)) [
            | inl q ↦
                ap (λ (v : List Open). branches_of v i) (thin-in o m os i (less-off o m i h ∙ q)) ∙
                (branches-here (less o m) os i (less-off o m i h ∙ q) ∙ sym (branches-here o os i q))
            | inr q ↦ thin-out (λ (v : List Open). branches_of v i) o m os (branches-below (less o m) os i (less-off o m i h ∙ q)) ∙ sym (branches-below o os i q)
          ]
      | inr e ↦
          ap (λ (v : List Open). branches_of v i) (leave-further n m o os e) ∙
          elim (cases_Bool (on o.lanes i)) [
            | inl q ↦ branches-here o (leave n m os) i q ∙ (ap (λ (v : List ℕ). o.branch ∷ v) (off-branches n m i os h) ∙ sym (branches-here o os i q))
            | inr q ↦ branches-below o (leave n m os) i q ∙ (off-branches n m i os h ∙ sym (branches-below o os i q))
          ]
    ]

pub off-top : (n m i : ℕ) (os : List Open) (o : Open) → on m i ≡ false → topmost os i ≡ Some o → (v : Open) × (topmost (leave n m os) i ≡ Some v) × (v.number ≡ o.number) × (v.branch ≡ o.branch)
off-top n m i [] o h t = no_top i o t
off-top n m i (a ∷ os) o h t =
    elim (cases_eq a.number n) [
      | inl e ↦
          let at : topmost (leave n m (a ∷ os)) i ≡ topmost (thinned a m os) i = ap (λ (v : List Open). topmost v i) (leave-here n m a os e) in
          elim (cases_Bool (on a.lanes i)) [
            | inl q ↦
                let same = one-top (a ∷ os) i a o (top-here a os i q) t in (
                  less a m,
                  at ∙ (ap (λ (v : List Open). topmost v i) (thin-in a m os i (less-off a m i h ∙ q)) ∙ top-here (less a m) os i (less-off a m i h ∙ q)),
                  ap (λ (v : Open). v.number) same,
                  ap (λ (v : Open). v.branch) same,
                )
            | inr q ↦ (
              o,
              at ∙ (thin-out (λ (v : List Open). topmost v i) a m os (top_below (less a m) os i (less-off a m i h ∙ q)) ∙ (sym (top_below a os i q) ∙ t)),
              refl,
              refl,
            )
          ]
      | inr e ↦
          let at : topmost (leave n m (a ∷ os)) i ≡ topmost (a ∷ leave n m os) i = ap (λ (v : List Open). topmost v i) (leave-further n m a os e) in
          elim (cases_Bool (on a.lanes i)) [
            | inl q ↦ (o, at ∙ (top-here a (leave n m os) i q ∙ (sym (top-here a os i q) ∙ t)), refl, refl)
            | inr q ↦
                let r = off-top n m i os o h (sym (top_below a os i q) ∙ t) in
                (r.0, at ∙ (top_below a (leave n m os) i q ∙ r.1), r.2, r.3)
          ]
    ]

-- The lane is in the mask, and its topmost join is left: the others stay.
pub on-branches : (top n m i : ℕ) (os : List Open) (o : Open) → Falls top os → on m i ≡ true → topmost os i ≡ Some o → o.number ≡ n → branches_of os i ≡ o.branch ∷ branches_of (leave n m os) i
on-branches top n m i [] o f h t e = no_top i o t
on-branches top n m i (a ∷ os) o f h t e =
    let p = falls-parts top a os f in
    elim (cases_Bool (on a.lanes i)) [
      | inl q ↦
          let same = one-top (a ∷ os) i a o (top-here a os i q) t in
          let left : branches_of (leave n m (a ∷ os)) i ≡ branches_of os i =
          ap (λ (v : List Open). branches_of v i) (leave-here n m a os (ap (λ (v : Open). v.number) same ∙ e)) ∙ thin-out (λ (v : List Open). branches_of v i) a m os (branches-below (less a m) os i (less-on a m i h)) in
          branches-here a os i q ∙ (ap (λ (v : Open). v.branch ∷ branches_of os i) same ∙ ap (λ (v : List ℕ). o.branch ∷ v) (sym left))
      | inr q ↦
          let below : topmost os i ≡ Some o = sym (top_below a os i q) ∙ t in
          let less-than = top-number a.number os i o p.1 below in
          let left : branches_of (leave n m (a ∷ os)) i ≡ branches_of (leave n m os) i =
          ap (λ (v : List Open). branches_of v i) (leave-further n m a os (λ g. omega arith)) ∙ branches-below a (leave n m os) i q in
          branches-below a os i q ∙ (on-branches a.number n m i os o p.1 h below e ∙ ap (λ (v : List ℕ). o.branch ∷ v) (sym left))
    ]

-- From which joins a lane has still to go on.
pub apart-still : (n m k i : ℕ) (os : List Open) → (n ≡ k → ⊥) → still_in (leave n m os) k i ≡ still_in os k i
apart-still n m k i [] h = ap (λ (v : List Open). still_in v k i) (leave_none n m)
apart-still n m k i (o ∷ os) h =
    elim (cases_eq o.number n) [
      | inl e ↦
          ap (λ (v : List Open). still_in v k i) (leave-here n m o os e) ∙
          (thin-out (λ (v : List Open). still_in v k i) o m os (still-apart (less o m) os k i (λ g. h (sym e ∙ g))) ∙ sym (still-apart o os k i (λ g. h (sym e ∙ g))))
      | inr e ↦ ap (λ (v : List Open). still_in v k i) (leave-further n m o os e) ∙ still_alike o os (leave n m os) k i (apart-still n m k i os h)
    ]

pub off-still : (n m k i : ℕ) (os : List Open) → on m i ≡ false → still_in (leave n m os) k i ≡ still_in os k i
off-still n m k i [] h = ap (λ (v : List Open). still_in v k i) (leave_none n m)
off-still n m k i (o ∷ os) h =
    elim (cases_eq o.number n) [
      | inl e ↦
          ap (λ (v : List Open). still_in v k i) (leave-here n m o os e) ∙
          elim (cases_Bool (on o.lanes i)) [
            | inl q ↦
                ap (λ (v : List Open). still_in v k i) (thin-in o m os i (less-off o m i h ∙ q)) ∙ still-less o m os k i (less-off o m i h)
            | inr q ↦ thin-out (λ (v : List Open). still_in v k i) o m os (still-below (less o m) os k i (less-off o m i h ∙ q)) ∙ sym (still-below o os k i q)
          ]
      | inr e ↦ ap (λ (v : List Open). still_in v k i) (leave-further n m o os e) ∙ still_alike o os (leave n m os) k i (off-still n m k i os h)
    ]

pub on-still : (top n m i : ℕ) (os : List Open) → Falls top os → on m i ≡ true → still_in (leave n m os) n i ≡ false
on-still top n m i [] f h = ap (λ (v : List Open). still_in v n i) (leave_none n m) ∙ none-still n i
on-still top n m i (o ∷ os) f h =
    let p = falls-parts top o os f in
    elim (cases_eq o.number n) [
      | inl e ↦
          ap (λ (v : List Open). still_in v n i) (leave-here n m o os e) ∙
          (thin-out (λ (v : List Open). still_in v n i) o m os (still-below (less o m) os n i (less-on o m i h)) ∙ not-still o.number n i os p.1 (omega arith))
      | inr e ↦
          ap (λ (v : List Open). still_in v n i) (leave-further n m o os e) ∙ (still-apart o (leave n m os) n i e ∙ on-still o.number n m i os p.1 h)
    ]
