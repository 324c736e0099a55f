-- What is read depends on the bytes up to the place where it ends, or is refused, and on no others.
use Rattle.std.proofs.Common.{◌≡◌, ℕ, suc, ◌+◌, ◌<◌, ◌≤◌, Bool, true, false, cond, List, [], ◌∷◌, length, get_or, take, drop, Ok, Err, Result, sym, refl, ap, ◌∙◌, inl, inr, arith}
use Rattle.std.proofs.lemmas.List.{get_or-drop}
use Rattle.std.proofs.lemmas.Bool.{cases_Bool, cases_lt, both_ways}
use Rattle.grammar.specs.Runs.{run_of}
use Rattle.grammar.specs.Walk.{and_then}
use Rattle.grammar.specs.declared.refusals.Refusal.{Refusal}
use Rattle.grammar.specs.declared.refusals.Refusal.TheVariants.{Shape}
use Rattle.grammar.proofs.Runs.{run_step, run-stop, run-nil}
use Rattle.grammar.proofs.Sound.{not_err, same_ok}

-- Both have a byte p, and the same bytes up to it.
pub record Agree (p : ℕ) (s t : List ℕ) : Type 0 where
  pub bytes : (k : ℕ) → k ≤ p → get_or s k 0 ≡ get_or t k 0
  pub first : p < length s
  pub second : p < length t

pub agree_less : (p q : ℕ) (s t : List ℕ) → q ≤ p → Agree p s t → Agree q s t
agree_less p q s t h a = record { bytes = λ k l. a.bytes k (omega arith); first = omega (arith, a.first); second = omega (arith, a.second) }

-- runs of the same bytes
abbrev SameRun : (ℕ → Bool) → List ℕ → List ℕ → Type 0
SameRun f s t = (run_of f t ≡ run_of f s) × (take (run_of f t) t ≡ take (run_of f s) s)

run_on : (f : ℕ → Bool) (b : ℕ) (bs cs : List ℕ) → f b ≡ true → SameRun f bs cs → SameRun f (b ∷ bs) (b ∷ cs)
run_on f b bs cs h (p, q) = rw (run_step f b bs h, run_step f b cs h) (ap suc p, ap (λ m. b ∷ m) q)

run-off : (f : ℕ → Bool) (b : ℕ) (bs : List ℕ) (t : List ℕ) → f b ≡ false → run_of f t ≡ 0 → SameRun f (b ∷ bs) t
run-off f b bs t h e = rw (run-stop f b bs h, e) (refl, refl)

run-zero : (f : ℕ → Bool) (t : List ℕ) → f (get_or t 0 0) ≡ false → run_of f t ≡ 0
run-zero f [] h = run-nil f
run-zero f (b ∷ bs) h = run-stop f b bs h

pub run-same : (f : ℕ → Bool) → f 0 ≡ false → (s t : List ℕ) → ((k : ℕ) → k ≤ run_of f s → get_or s k 0 ≡ get_or t k 0) → SameRun f s t
run-same f z [] t a =
    let e : run_of f t ≡ 0 = run-zero f t (ap f (sym (a 0 (omega arith))) ∙ z) in
    rw (e, run-nil f) (refl, refl)
run-same f z (b ∷ s) [] a =
    elim (cases_Bool (f b)) [
      | inl h ↦ absurd (both_ways (f b) (ap f (a 0 (omega arith)) ∙ z) h)
      | inr h ↦ run-off f b s [] h (run-nil f)
    ]
run-same f z (b ∷ s) (c ∷ t) a =
    let e : b ≡ c = a 0 (omega arith) in
    elim (cases_Bool (f b)) [
      | inl h ↦
          let n = run_step f b s h in
          rw (sym e) (run_on f b s t h (run-same f z s t (λ k l. a (suc k) (omega (arith, n)))))
      | inr h ↦ run-off f b s (c ∷ t) h (run-stop f c t (ap f (sym e) ∙ h))
    ]

pub run-least : (f : ℕ → Bool) → f 0 ≡ false → (s t : List ℕ) (m : ℕ) → m < run_of f s → ((k : ℕ) → k ≤ m → get_or s k 0 ≡ get_or t k 0) → m < run_of f t
run-least f z s t m h a =
    elim (cases_lt m (run_of f t)) [
      | inl l ↦ l
      | inr l ↦ let q = run-same f z t s (λ k n. sym (a k (omega arith))) in absurd (omega (arith, q.0))
    ]

pub agree-drop : (p i r : ℕ) (s t : List ℕ) → i + r ≤ p → Agree p s t → (k : ℕ) → k ≤ r → get_or (drop i s) k 0 ≡ get_or (drop i t) k 0
agree-drop p i r s t h a k l = get_or-drop i s k 0 ∙ a.bytes (i + k) (omega arith) ∙ sym (get_or-drop i t k 0)

module _ (text t : List ℕ) where
  pub run_at : (f : ℕ → Bool) → f 0 ≡ false → (i p : ℕ) → i + run_of f (drop i text) ≤ p → Agree p text t → SameRun f (drop i text) (drop i t)
  run_at f z i p h a = run-same f z (drop i text) (drop i t) (agree-drop p i (run_of f (drop i text)) text t h a)

  -- From byte i on, r is read in the text and s in t: the same, where they agree so far.
  pub record SameRead {X : Type 0} (pos : X → ℕ) (i : ℕ) (r s : Result X Refusal) : Type 0 where
    pub ok : (x : X) → r ≡ Ok x → (i ≤ pos x) × (Agree (pos x) text t → s ≡ Ok x)
    pub err : (q : ℕ) → r ≡ Err (Shape q) → (i ≤ q) × (Agree q text t → s ≡ Err (Shape q))

  -- a step that ends where it begins, or is refused there
  pub same_end : {X : Type 0} (pos : X → ℕ) (i : ℕ) (x : X) → i ≤ pos x → SameRead pos i (Ok x) (Ok x)
  same_end pos i x h = record { ok = λ y e. let q : x ≡ y = same_ok x y e in (rw (sym q) h, λ a. e); err = λ q e. let z : ◌≡◌ {A = ℕ} 0 1 = cc in absurd (omega arith) }

  pub same_shape : {X : Type 0} (pos : X → ℕ) (i q : ℕ) → i ≤ q → SameRead pos i (Err (Shape q)) (Err (Shape q))
  same_shape pos i q h = record { ok = λ y e. absurd (not_err (Shape q) y e); err = λ p e. let n : q ≡ p = cc in (rw (sym n) h, λ a. e) }

  pub same_then : {X Y : Type 0} (pos : X → ℕ) (qos : Y → ℕ) (i : ℕ) (r s : Result X Refusal) (f g : X → Result Y Refusal)
      → SameRead pos i r s → ((x : X) → SameRead qos (pos x) (f x) (g x)) → SameRead qos i (and_then r f) (and_then s g)
  same_then pos qos i (Ok x) s f g a b =
      let p = a.ok x refl in
      record {
        ok = λ y e. let q = (b x).ok y e in let l : i ≤ qos y = omega (arith, p.0, q.0) in (l, λ h. rw (p.1 (agree_less (qos y) (pos x) text t q.0 h)) (q.1 h));
        err = λ m e. let q = (b x).err m e in let l : i ≤ m = omega (arith, p.0, q.0) in (l, λ h. rw (p.1 (agree_less m (pos x) text t q.0 h)) (q.1 h));
      }
  same_then pos qos i (Err d) s f g a b =
      record {
        ok = λ y e. absurd (not_err d y e);
        err = λ m e. let n : d ≡ Shape m = cc in let q = a.err m (ap (λ x. Err x) n) in (q.0, λ h. rw (q.1 h) refl);
      }

  pub same_cond : {X : Type 0} (pos : X → ℕ) (i : ℕ) (c d : Bool) (r r' s s' : Result X Refusal) → (Agree i text t → c ≡ d) → SameRead pos i r s → SameRead pos i r' s'
      → SameRead pos i (cond c r r') (cond d s s')
  same_cond pos i true d r r' s s' h a b =
      record {
        ok = λ x e. let q = a.ok x e in (q.0, λ g. rw (sym (h (agree_less (pos x) i text t q.0 g))) (q.1 g));
        err = λ m e. let q = a.err m e in (q.0, λ g. rw (sym (h (agree_less m i text t q.0 g))) (q.1 g));
      }
  same_cond pos i false d r r' s s' h a b =
      record {
        ok = λ x e. let q = b.ok x e in (q.0, λ g. rw (sym (h (agree_less (pos x) i text t q.0 g))) (q.1 g));
        err = λ m e. let q = b.err m e in (q.0, λ g. rw (sym (h (agree_less m i text t q.0 g))) (q.1 g));
      }

  pub same_from : {X : Type 0} (pos : X → ℕ) (i j : ℕ) (r s : Result X Refusal) → i ≤ j → SameRead pos j r s → SameRead pos i r s
  same_from pos i j r s h a =
      record {
        ok = λ x e. let q = a.ok x e in let l : i ≤ pos x = omega (arith, q.0) in (l, q.1);
        err = λ m e. let q = a.err m e in let l : i ≤ m = omega (arith, q.0) in (l, q.1);
      }

  -- other refusals say nothing
  pub same_other : {X : Type 0} (pos : X → ℕ) (i : ℕ) (d : Refusal) (s : Result X Refusal) → ((q : ℕ) → d ≡ Shape q → ⊥) → SameRead pos i (Err d) s
  same_other pos i d s h = record { ok = λ x e. absurd (not_err d x e); err = λ q e. let n : d ≡ Shape q = cc in absurd (h q n) }
