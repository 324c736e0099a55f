-- Names and their places.
use Rattle.std.proofs.Common.{◌≡◌, ℕ, suc, List, [], ◌∷◌, Some, None, Option, sym, refl, ◌∙◌, inl, inr, arith}
use Rattle.grammar.specs.Spelling.{same_bytes, Named, IsName}
use Rattle.grammar.specs.Names.{NamesIn}
use Rattle.grammar.specs.Taken.{Distinct}
use Rattle.grammar.specs.Walk.{place_in, one_more}
use Rattle.grammar.proofs.Walks.{same-decides, place_is}
use Rattle.grammar.proofs.Sound.{cond_cases}

one-more-some : (r : Option ℕ) (k : ℕ) → one_more r ≡ Some k → (m : ℕ) × (r ≡ Some m) × (k ≡ suc m)
one-more-some None k e = let z : ◌≡◌ {A = ℕ} 0 1 = cc in absurd (omega arith)
one-more-some (Some m) k e = (m, refl, cc)

pub place-named : (ns : List (List ℕ)) (u : List ℕ) (k : ℕ) → place_in ns u ≡ Some k → Named ns k u
unfolding place_in
place-named [] u k e = let z : ◌≡◌ {A = ℕ} 0 1 = cc in absurd (omega arith)
place-named (n ∷ ns) u k e =
    elim (cond_cases (same_bytes n u) (Some 0) (one_more (place_in ns u)) (Some k) e) [
      | inl p ↦ let q : 0 ≡ k = cc in rw (sym q) (omega arith, sym ((same-decides n u).0 p.0))
      | inr p ↦
          let m = one-more-some (place_in ns u) k p.1 in
          let r = place-named ns u m.0 m.1 in
          rw m.2 (omega (arith, r.0), r.1)
    ]

pub named-place : (ns : List (List ℕ)) → Distinct ns → (k : ℕ) (u : List ℕ) → Named ns k u → place_in ns u ≡ Some k
named-place ns d k u n =
    sym (place_is ns u (Some k) (record { there = n.0; is = sym n.1; first = λ j h e. omega (arith, h, d j k (omega (arith, h, n.0)) n.0 (e ∙ n.1)) }))

pub named-name : (ns : List (List ℕ)) (text : List ℕ) → NamesIn ns text → (k : ℕ) (u : List ℕ) → Named ns k u → IsName u
named-name ns text n k u h = rw h.1 (n.names k h.0)
