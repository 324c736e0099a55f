-- Names in turn are names, and no two are the same: found by a test over all of them.
use Rattle.std.proofs.Common.{◌≡◌, ℕ, zero, suc, ◌<◌, ◌≤◌, Bool, true, not, ◌&&◌, ◌||◌, eqb, leb, List, [], length, get_or, sym, refl, ◌∙◌, inl, inr, not-suc-le-zero, arith}
use Rattle.std.specs.Fmt.{digits}
use Rattle.std.proofs.lemmas.List.FromFn.{length-map-range_with_len, get_or-map-range_with_len}
use Rattle.std.proofs.lemmas.Bool.{and_parts, leb-true, eqb-true, not-true, cases_eq, both_ways, or_cases}
use Rattle.grammar.specs.Spelling.{letter, word_byte, each_byte, same_bytes, one_of, keywords, IsName}
use Rattle.grammar.specs.Taken.{Distinct}
use Rattle.writer.specs.Written.{name_in_turn, names_in_turn}
use Rattle.writer.proofs.Heads.{same_refl}

-- p holds of each number below n
abbrev below : (ℕ → Bool) → ℕ → Bool
below p zero = true
below p (suc n) = p n && below p n

below_at : (p : ℕ → Bool) (n k : ℕ) → below p n ≡ true → k < n → p k ≡ true
below_at p zero k e h = absurd (not-suc-le-zero h)
below_at p (suc n) k e h =
    let q = and_parts (p n) (below p n) e in
    elim (cases_eq k n) [ inl s ↦ rw s q.0 | inr s ↦ below_at p n k q.1 (omega arith) ]

name-test : List ℕ → Bool
name-test u = leb 1 (length u) && (letter (get_or u 0 0) && (each_byte word_byte u && (leb (length u) 8 && not (one_of keywords u))))

is_name : (u : List ℕ) → name-test u ≡ true → IsName u
unfolding name-test
is_name u e =
    let a = and_parts (leb 1 (length u)) _ e in
    let b = and_parts (letter (get_or u 0 0)) _ a.1 in
    let c = and_parts (each_byte word_byte u) _ b.1 in
    let d = and_parts (leb (length u) 8) _ c.1 in
    record { some = leb-true 1 (length u) a.0; begins = b.0; bytes = c.0; short = leb-true (length u) 8 d.0; free = not-true (one_of keywords u) d.1 }

all-names : below (λ k. name-test (name_in_turn k)) 64 ≡ true
unfolding name-test each_byte one_of keywords same_bytes digits
all-names = refl

all_apart : below (λ j. below (λ k. eqb j k || not (same_bytes (name_in_turn j) (name_in_turn k))) 64) 64 ≡ true
unfolding same_bytes digits
all_apart = refl

turn-apart : (j k : ℕ) → j < 64 → k < 64 → name_in_turn j ≡ name_in_turn k → j ≡ k
turn-apart j k g h e =
    let p = below_at (λ k. eqb j k || not (same_bytes (name_in_turn j) (name_in_turn k))) 64 k (below_at (λ j. below (λ k. eqb j k || not (same_bytes (name_in_turn j) (name_in_turn k))) 64) 64 j all_apart g) h in
    elim (or_cases (eqb j k) _ p) [
      | inl q ↦ eqb-true j k q
      | inr q ↦ absurd (both_ways (same_bytes (name_in_turn j) (name_in_turn k)) (not-true _ q) (rw e (same_refl (name_in_turn k))))
    ]

at_turn : (o k : ℕ) → k < o → get_or (names_in_turn o) k [] ≡ name_in_turn k
unfolding names_in_turn
at_turn o k h = get_or-map-range_with_len name_in_turn 0 o k k [] h (omega arith)

pub length-turn : (o : ℕ) → length (names_in_turn o) ≡ o
unfolding names_in_turn
length-turn o = length-map-range_with_len name_in_turn 0 o

pub turn-names : (o : ℕ) → o ≤ 64 → (k : ℕ) → k < length (names_in_turn o) → IsName (get_or (names_in_turn o) k [])
turn-names o f k h = let g : k < o = rw (length-turn o) at h in rw (at_turn o k g) (is_name (name_in_turn k) (below_at (λ k. name-test (name_in_turn k)) 64 k all-names (omega arith)))

pub turn-distinct : (o : ℕ) → o ≤ 64 → Distinct (names_in_turn o)
turn-distinct o f j k g h e =
    let g' : j < o = rw (length-turn o) at g in
    let h' : k < o = rw (length-turn o) at h in
    turn-apart j k (omega arith) (omega arith) (sym (at_turn o j g') ∙ (e ∙ at_turn o k h'))
