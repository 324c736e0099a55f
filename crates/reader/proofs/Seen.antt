-- Names seen so far.
use Rattle.std.proofs.Common.{◌≡◌, ℕ, zero, suc, true, false, List, [], ◌∷◌, Some, None, Option, sym, refl, ◌∙◌, arith}
use Rattle.std.specs.Option.{is_some}
use Rattle.grammar.specs.Spelling.{one_of}
use Rattle.grammar.specs.Names.{FirstAt, PlaceOf}
use Rattle.grammar.proofs.Walks.{same-decides, same_not}

pub one-here : (n : List ℕ) (ns : List (List ℕ)) (u : List ℕ) → n ≡ u → one_of (n ∷ ns) u ≡ true
unfolding one_of
one-here n ns u e = rw ((same-decides n u).1 e) refl

pub one_later : (n : List ℕ) (ns : List (List ℕ)) (u : List ℕ) → (n ≡ u → ⊥) → one_of (n ∷ ns) u ≡ one_of ns u
unfolding one_of
one_later n ns u h = rw (same_not n u (λ e. h (sym e))) refl

pub one_none : (u : List ℕ) → one_of [] u ≡ false
unfolding one_of
one_none u = refl

-- A name's place among names, and whether it is one of them.
first-later : (n : List ℕ) (ns : List (List ℕ)) (u : List ℕ) (k : ℕ) → FirstAt (n ∷ ns) u (suc k) → FirstAt ns u k
first-later n ns u k p = record { there = omega (arith, p.there); is = p.is; first = λ j h. p.first (suc j) (omega arith) }

pub one_placed : (ns : List (List ℕ)) (u : List ℕ) (r : Option ℕ) → PlaceOf ns u r → is_some r ≡ one_of ns u
one_placed [] u None p = sym (one_none u)
one_placed [] u (Some k) p = absurd (omega (arith, p.there))
one_placed (n ∷ ns) u None p = one_placed ns u None (λ k h. p (suc k) (omega arith)) ∙ sym (one_later n ns u (p 0 (omega arith)))
one_placed (n ∷ ns) u (Some zero) p = sym (one-here n ns u p.is)
one_placed (n ∷ ns) u (Some (suc k)) p = one_placed ns u (Some k) (first-later n ns u k p) ∙ sym (one_later n ns u (p.first 0 (omega arith)))
