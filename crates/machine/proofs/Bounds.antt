-- How far phases rise.
use Rattle.std.proofs.Common.{◌≡◌, ℕ, zero, suc, ◌+◌, ◌<◌, ◌≤◌, true, false, List, refl, ap, ◌∙◌, inl, inr, add-mul, arith}
use Rattle.std.proofs.lemmas.Nat.{mul-le}
use Rattle.std.proofs.lemmas.Bool.{both_ways}
use Rattle.lanes.specs.Syntax.{Body}
use Rattle.code.specs.declared.step.Step.{Step}
use Rattle.code.specs.declared.step.Step.TheVariants.{Put, Read, Write, Branch, Jump, Barrier, End}
use Rattle.code.specs.Code.{Does, Goes, Onward, Coded, is_loop}
use Rattle.machine.specs.Verdict.{barriers, highest}

module _ (N : ℕ → List ℕ → Type 0) (text : List ℕ) (owns lines : ℕ) (at : ℕ → Body) (code : ℕ → Step) (coded : Coded N text owns lines at code) where
  none-at : (k : ℕ) (b : Body) (i : ℕ) → at i ≡ b → barriers b ≡ 0 → barriers (at i) ≤ k
  none-at k b i e z = let q : barriers (at i) ≡ 0 = ap barriers e ∙ z in omega arith

  loop-none : (s : Step) (j k : ℕ) → is_loop s ≡ true → Does N text at s (at j) → barriers (at j) ≤ k
  unfolding barriers
  loop-none (Put x e i) j k l d = absurd (both_ways false refl l)
  loop-none (Read f x e i) j k l d = absurd (both_ways false refl l)
  loop-none (Write f x y i) j k l d = absurd (both_ways false refl l)
  loop-none (Branch x y n m false) j k l d = absurd (both_ways false refl l)
  loop-none (Branch x y n m true) j k l (e, st, q) = none-at k _ j q.is refl
  loop-none (Jump i) j k l d = absurd (both_ways false refl l)
  loop-none (Barrier i) j k l d = absurd (both_ways false refl l)
  loop-none End j k l d = absurd (both_ways false refl l)

  by-step : (k i : ℕ) (s : Step) → Does N text at s (at i) → Goes owns lines s → Onward code i s → ((j : ℕ) → i < j → j ≤ lines → barriers (at j) < k) → barriers (at i) ≤ k
  unfolding barriers
  by-step k i (Put x e j) (e', st, q) go on rec = none-at k _ i q refl
  by-step k i (Read true x e j) (e', st, q) go on rec = none-at k _ i q refl
  by-step k i (Read false x e j) (e', st, q) go on rec = none-at k _ i q refl
  by-step k i (Write true x y j) (e', f, st, su, q) go on rec = none-at k _ i q refl
  by-step k i (Write false x y j) (e', f, st, su, q) go on rec = none-at k _ i q refl
  by-step k i (Branch x y n m false) (e, st, q) go on rec = none-at k _ i q.is refl
  by-step k i (Branch x y n m true) (e, st, q) go on rec = none-at k _ i q.is refl
  by-step k i (Jump j) d go (inl h) rec = let r = rec j h go in let q : barriers (at i) ≡ barriers (at j) = ap barriers d in omega arith
  by-step k i (Jump j) d go (inr h) rec = let r = loop-none (code j) j k h (coded.does j go) in let q : barriers (at i) ≡ barriers (at j) = ap barriers d in omega arith
  by-step k i (Barrier j) d go on rec = let r = rec j (omega (arith, on)) go in let q : barriers (at i) ≡ suc (barriers (at j)) = ap barriers d in omega arith
  by-step k i End d go on rec = none-at k _ i d refl

  few-from : (k i : ℕ) → i ≤ lines → lines ≤ i + k → barriers (at i) ≤ k
  few-from zero i h m = by-step zero i (code i) (coded.does i h) (coded.goes i h) (coded.onward i h) (λ j a b. absurd (omega arith))
  few-from (suc k) i h m = by-step (suc k) i (code i) (coded.does i h) (coded.goes i h) (coded.onward i h) (λ j a b. let r = few-from k j b (omega arith) in omega arith)

  pub few-barriers : (i : ℕ) → i ≤ lines → barriers (at i) ≤ lines
  few-barriers i h = few-from lines i h (omega arith)

pub highest-none : (lines : ℕ) → highest 0 lines ≡ lines
unfolding highest
highest-none lines = let q = add-mul 0 1 lines in omega (arith, q)

pub highest-more : (done c lines : ℕ) → 1 ≤ c → highest done lines + lines ≤ highest (done + c) lines
unfolding highest
highest-more done c lines h =
    let p = add-mul (done + 1) 1 lines in
    let q = mul-le ((done + 1) + 1) lines ((done + c) + 1) lines (omega arith) (omega arith) in
    omega (arith, p, q)

pub highest-few : (done lines : ℕ) → done ≤ 1099511627776 → lines ≤ 65536 → highest done lines < 18446744073709551615
unfolding highest
highest-few done lines h k = let q = mul-le (done + 1) lines 1099511627777 65536 (omega arith) k in omega (arith, q)
