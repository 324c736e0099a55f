-- Cells that were read already, before those that are still to come.
use Rattle.std.proofs.Common.{◌≡◌, ℕ, ◌+◌, ◌<◌, ◌≤◌, Bool, true, false, cond, List, [], ◌∷◌, ◌++◌, length, get_or, drop, None, Option, Some, Ok, Err, Result, ◌⊎◌, sym, refl, ap, ◌∙◌, inl, inr, add-zero, arith}
use Rattle.std.proofs.lemmas.List.{append-nil, at_drop_more, at_drop_all}
use Rattle.std.proofs.lemmas.Bool.{cond-true, cond-false}
use Rattle.std.proofs.lemmas.Bool.Decides.{nat_tests}
use Rattle.cells.specs.declared.scan.Base.{Base}
use Rattle.cells.specs.declared.scan.Base.TheVariants.{Decimal, Hex}
use Rattle.cells.specs.declared.scan.Part.{Part}
use Rattle.cells.specs.declared.scan.Next.{Next}
use Rattle.cells.specs.declared.scan.Next.TheVariants.{On, Whole}
use Rattle.cells.specs.declared.scan.Unread.{Unread}
use Rattle.std.specs.Option.{ok_or}
use Rattle.cells.specs.Scan.{step_as, is_white, with_digit, digit_of, between_words, with_cell, cells_from, begins_field_spec, cells_in}

abbrev pub ahead : List ℕ → Result (List ℕ) ℕ → Result (List ℕ) ℕ
ahead [] r = r
ahead (x ∷ xs) r = with_cell x (ahead xs r)

pub ahead-push : (xs : List ℕ) (v : ℕ) (r : Result (List ℕ) ℕ) → ahead (xs ++ (v ∷ [])) r ≡ ahead xs (with_cell v r)
ahead-push [] v r = refl
ahead-push (x ∷ xs) v r = ap (with_cell x) (ahead-push xs v r)

pub ahead-ok : (xs ys : List ℕ) → ahead xs (Ok ys) ≡ Ok (xs ++ ys)
unfolding with_cell
ahead-ok [] ys = refl
ahead-ok (x ∷ xs) ys = ap (with_cell x) (ahead-ok xs ys)

pub ahead-err : (xs : List ℕ) (i : ℕ) → ahead xs (Err i) ≡ Err i
unfolding with_cell
ahead-err [] i = refl
ahead-err (x ∷ xs) i = ap (with_cell x) (ahead-err xs i)

-- One byte on, by what it makes of the part.
abbrev pub onward : Base → ℕ → List ℕ → Option Next → Result (List ℕ) ℕ
onward base i cs None = Err i
onward base i cs (Some (On q)) = cells_from base q (i + 1) cs
onward base i cs (Some (Whole v)) = with_cell v (cells_from base between_words (i + 1) cs)

onward-is : (base : Base) (i : ℕ) (cs : List ℕ) (x : Option Next)
    → elim x [ Some (On q) ↦ cells_from base q (i + 1) cs | Some (Whole v) ↦ with_cell v (cells_from base between_words (i + 1) cs) | None ↦ Err i ] ≡ onward base i cs x
onward-is base i cs None = refl
onward-is base i cs (Some (On q)) = refl
onward-is base i cs (Some (Whole v)) = refl

pub cons-is : (base : Base) (p : Part) (i c : ℕ) (cs : List ℕ) → cells_from base p i (c ∷ cs) ≡ onward base i cs (step_as base p c)
unfolding cells_from
cons-is base p i c cs = onward-is base i cs (step_as base p c)

from_next : (base : Base) (p : Part) (rest : List ℕ) (i k : ℕ) (x : Option Next) → k < length rest → x ≡ step_as base p (get_or rest k 0)
    → cells_from base p i (drop k rest) ≡ onward base i (drop (k + 1) rest) x
from_next base p rest i k x h e =
    at_drop_more (cells_from base p i) rest k 0 h ∙ cons-is base p i (get_or rest k 0) (drop (k + 1) rest) ∙ ap (onward base i (drop (k + 1) rest)) (sym e)

abbrev ended : ℕ → Option Next → Result (List ℕ) ℕ
ended i None = Err i
ended i (Some (On q)) = Ok []
ended i (Some (Whole v)) = Ok (v ∷ [])

ended_is : (i : ℕ) (x : Option Next) → elim x [ Some (On q) ↦ Ok [] | Some (Whole v) ↦ Ok (v ∷ []) | None ↦ Err i ] ≡ ended i x
ended_is i None = refl
ended_is i (Some (On q)) = refl
ended_is i (Some (Whole v)) = refl

pub nil_is : (base : Base) (p : Part) (i : ℕ) → cells_from base p i [] ≡ ended i (step_as base p 10)
unfolding cells_from
nil_is base p i = ended_is i (step_as base p 10)

from_end : (base : Base) (p : Part) (rest : List ℕ) (i k : ℕ) (x : Option Next) → length rest ≤ k → x ≡ step_as base p 10 → cells_from base p i (drop k rest) ≡ ended i x
from_end base p rest i k x h e = at_drop_all (cells_from base p i) rest k h ∙ nil_is base p i ∙ ap (ended i) (sym e)

digit-small : (base : Base) (p q : Part) (o : Option ℕ) → p.value < 4294967296 → Some (On q) ≡ with_digit base p o → (q.value < 4294967296) × (q.digits ≤ p.digits + 1)
digit-small base p q None h e = absurd (cc)
digit-small base p q (Some d) h e = (grind (arith, nat_tests), grind (arith, nat_tests))

on-part : (w z h : Bool) (p q : Part) (v : ℕ) (o : Option Next) → Some (On q) ≡ cond w (cond z (Some (On p)) (cond h None (Some (Whole v)))) o → (q ≡ p) ⊎ (Some (On q) ≡ o)
on-part true true h p q v o e = inl (cc)
on-part true false true p q v o e = absurd (cc)
on-part true false false p q v o e = absurd (cc)
on-part false z h p q v o e = inr e

on-small : (base : Base) (p q : Part) (c : ℕ) → p.value < 4294967296 → Some (On q) ≡ step_as base p c → (q.value < 4294967296) × (q.digits ≤ p.digits + 1)
on-small base p q c h e =
    elim (on-part (is_white c) _ _ p q p.value (with_digit base p (digit_of base c)) e) [ inl r ↦ rw r (h, omega arith) | inr r ↦ digit-small base p q (digit_of base c) h r ]

-- Where a scan stands: what it has read and what is to come are what the text gives.
pub record Stands (base : Base) (rest : List ℕ) (from k : ℕ) (p : Part) (read : List ℕ) : Type 0 where
  pub gives : ahead read (cells_from base p (from + k) (drop k rest)) ≡ cells_from base between_words from rest
  pub value_fits : p.value < 4294967296
  pub digits_few : p.digits ≤ k

one-more : (from k : ℕ) → from + (k + 1) ≡ from + k + 1
one-more from k = omega arith

pub stands_none : (base : Base) (rest : List ℕ) (from : ℕ) (read : List ℕ) → read ≡ [] → Stands base rest from 0 between_words read
stands_none base rest from read e = record { gives = rw (e, add-zero from) refl; value_fits = omega arith; digits_few = omega arith }

pub stands_on : (base : Base) (rest : List ℕ) (from k : ℕ) (p q : Part) (read : List ℕ) → Stands base rest from k p read → k < length rest
    → Some (On q) ≡ step_as base p (get_or rest k 0) → Stands base rest from (k + 1) q read
stands_on base rest from k p q read s h e =
    let b = on-small base p q (get_or rest k 0) s.value_fits e in
    record {
      gives = rw (one-more from k) (ap (ahead read) (sym (from_next base p rest (from + k) k (Some (On q)) h e)) ∙ s.gives);
      value_fits = b.0;
      digits_few = omega (arith, b.1, s.digits_few);
    }

pub stands-whole : (base : Base) (rest : List ℕ) (from k : ℕ) (p : Part) (v : ℕ) (read : List ℕ) → Stands base rest from k p read → k < length rest
    → Some (Whole v) ≡ step_as base p (get_or rest k 0) → Stands base rest from (k + 1) between_words (read ++ (v ∷ []))
stands-whole base rest from k p v read s h e =
    record {
      gives =
          rw (one-more from k, ahead-push read v (cells_from base between_words (from + k + 1) (drop (k + 1) rest)))
          (ap (ahead read) (sym (from_next base p rest (from + k) k (Some (Whole v)) h e)) ∙ s.gives);
      value_fits = omega arith;
      digits_few = omega arith;
    }

pub stands-bad : (base : Base) (rest : List ℕ) (from k : ℕ) (p : Part) (read : List ℕ) → Stands base rest from k p read → k < length rest
    → None ≡ step_as base p (get_or rest k 0) → cells_from base between_words from rest ≡ Err (from + k)
stands-bad base rest from k p read s h e = sym s.gives ∙ ap (ahead read) (from_next base p rest (from + k) k None h e) ∙ ahead-err read (from + k)

pub ends_on : (base : Base) (rest : List ℕ) (from k : ℕ) (p q : Part) (read : List ℕ) → Stands base rest from k p read → length rest ≤ k
    → Some (On q) ≡ step_as base p 10 → cells_from base between_words from rest ≡ Ok read
ends_on base rest from k p q read s h e =
    sym s.gives ∙ ap (ahead read) (from_end base p rest (from + k) k (Some (On q)) h e) ∙ ahead-ok read [] ∙ ap (λ (x : List ℕ). Ok x) (append-nil read)

pub ends-whole : (base : Base) (rest : List ℕ) (from k : ℕ) (p : Part) (v : ℕ) (read : List ℕ) → Stands base rest from k p read → length rest ≤ k
    → Some (Whole v) ≡ step_as base p 10 → cells_from base between_words from rest ≡ Ok (read ++ (v ∷ []))
ends-whole base rest from k p v read s h e =
    sym s.gives ∙ ap (ahead read) (from_end base p rest (from + k) k (Some (Whole v)) h e) ∙ ahead-ok read (v ∷ [])

pub ends-bad : (base : Base) (rest : List ℕ) (from k n : ℕ) (p : Part) (read : List ℕ) → Stands base rest from k p read → length rest ≤ k → n ≡ from + k
    → None ≡ step_as base p 10 → cells_from base between_words from rest ≡ Err n
ends-bad base rest from k n p read s h g e = rw g (sym s.gives ∙ ap (ahead read) (from_end base p rest (from + k) k None h e) ∙ ahead-err read (from + k))

pub in-hex : (bs : List ℕ) → begins_field_spec bs ≡ true → cells_in bs ≡ cells_from Hex between_words 5 (drop 5 bs)
unfolding cells_in
in-hex bs e = cond-true (begins_field_spec bs) (cells_from Hex between_words 5 (drop 5 bs)) (cells_from Decimal between_words 0 bs) e

pub in-decimal : (bs : List ℕ) → begins_field_spec bs ≡ false → cells_in bs ≡ cells_from Decimal between_words 0 (drop 0 bs)
unfolding cells_in
in-decimal bs e = cond-false (begins_field_spec bs) (cells_from Hex between_words 5 (drop 5 bs)) (cells_from Decimal between_words 0 bs) e

-- What stands behind `ok_or`.
pub some_of : (o : Option Next) (n : Next) (e : Unread) → Ok n ≡ ok_or o e → Some n ≡ o
some_of None n e h = absurd (cc)
some_of (Some x) n e h = cc

pub none_of : (o : Option Next) (e x : Unread) → Err x ≡ ok_or o e → (None ≡ o) × (x ≡ e)
none_of None e x h = (refl, cc)
none_of (Some y) e x h = absurd (cc)
