-- What holds of bytes, of each byte of a text, and of names.
use Rattle.std.proofs.Common.{◌≡◌, ℕ, ◌+◌, ◌<◌, Bool, true, false, eqb, List, [], ◌∷◌, ◌++◌, length, get_or, refl, arith}
use Rattle.std.proofs.lemmas.Bool.{and_parts}
use Rattle.std.proofs.lemmas.Bool.Decides.{nat_tests}
use Rattle.grammar.specs.Spelling.{letter, digit, word_byte, each_byte, IsName, Named}
use Rattle.grammar.specs.Taken.{lines_in}

pub digit-word : (b : ℕ) → digit b ≡ true → word_byte b ≡ true
digit-word b h = grind (arith, nat_tests)

pub letter-word : (b : ℕ) → letter b ≡ true → word_byte b ≡ true
letter-word b h = grind (arith, nat_tests)

pub apart-digit : (b : ℕ) → word_byte b ≡ false → digit b ≡ false
apart-digit b h = grind (arith, nat_tests)

pub word-no-end : (b : ℕ) → word_byte b ≡ true → eqb b 10 ≡ false
word-no-end b h = grind (arith, nat_tests)

pub each_append : (f : ℕ → Bool) (u v : List ℕ) → each_byte f u ≡ true → each_byte f v ≡ true → each_byte f (u ++ v) ≡ true
unfolding each_byte
each_append f [] v p q = q
each_append f (b ∷ u) v p q = let s = and_parts (f b) (each_byte f u) p in rw s.0 (each_append f u v s.1 q)

pub each_weaken : (f g : ℕ → Bool) → ((b : ℕ) → f b ≡ true → g b ≡ true) → (u : List ℕ) → each_byte f u ≡ true → each_byte g u ≡ true
unfolding each_byte
each_weaken f g h [] p = refl
each_weaken f g h (b ∷ u) p = let s = and_parts (f b) (each_byte f u) p in rw (h b s.0) (each_weaken f g h u s.1)

pub digits-word : (u : List ℕ) → each_byte digit u ≡ true → each_byte word_byte u ≡ true
digits-word u h = each_weaken digit word_byte digit-word u h

pub lines-append : (u v : List ℕ) → lines_in (u ++ v) ≡ lines_in u + lines_in v
unfolding lines_in
lines-append [] v = omega arith
lines-append (b ∷ u) v = omega (arith, lines-append u v)

pub named-names : (ns : List (List ℕ)) → ((k : ℕ) → k < length ns → IsName (get_or ns k [])) → (k : ℕ) (u : List ℕ) → Named ns k u → IsName u
named-names ns h k u n = rw n.1 (h k n.0)
