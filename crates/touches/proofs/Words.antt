-- A touch in two words is read as it was written, and entries don't touch each other.
use Rattle.std.proofs.Common.{◌≡◌, ℕ, ◌+◌, ◌*◌, ◌<◌, Bool, true, false, not, eqb, ltb, List, length, set, Some, None, Option, refl, ap, arith, length-set, get_or-set_other, get_or-set_same}
use Rattle.std.proofs.lemmas.Bool.{cond_both}
use Rattle.std.proofs.lemmas.Bool.Decides.{nat_tests}
use Rattle.touches.specs.declared.Who.{Who}
use Rattle.touches.specs.declared.Held.{Held}
use Rattle.touches.specs.declared.Readers.{Readers}
use Rattle.touches.specs.declared.Readers.TheVariants.{Nobody, One, Two}
use Rattle.touches.specs.Code.{joined_of, keep_of, packed_of, unpacked_of, phase_word, name_word, entry_of, entry_put, first_of, second_of, readers_by, held_of, readers_put, held_put}

-- numbers that fit into the word
pub record Small (a : Who) : Type 0 where
  pub group : a.group < 1024
  pub lane : a.lane < 1024
  pub line : a.line < 4294967296

abbrev SmallIf : Option Who → Type 0
SmallIf None = Unit {0}
SmallIf (Some a) = Small a

who-as : (a : Who) (g l p n : ℕ) → g ≡ a.group → l ≡ a.lane → p ≡ a.phase → n ≡ a.line → ◌≡◌ {A = Who} (record { group = g; lane = l; phase = p; line = n }) a
who-as a g l p n eg el ep en = rw (eg, el, ep, en)

unpack-pack : (a : Who) → Small a → unpacked_of a.phase (packed_of a) ≡ Some a
unfolding unpacked_of packed_of
unpack-pack a s =
    let g = s.group in let l = s.lane in let n = s.line in
    let ne : eqb ((1 + (a.line * 1024 + a.lane) * 1024) + a.group) 0 ≡ false = grind (arith, nat_tests) in
    rw ne (ap (λ (x : Who). Some x) (who-as a _ _ _ _ (omega arith) (omega arith) refl (omega arith)))

-- what is read from words fits into them
unpack-small : (p w : ℕ) → SmallIf (unpacked_of p w)
unfolding unpacked_of
unpack-small p w = cond_both (eqb w 0) _ _ SmallIf (λ _. tt) (λ _. record { group = omega arith; lane = omega arith; line = omega arith })

entry-small : (ks : List ℕ) (j : ℕ) → SmallIf (entry_of ks j)
unfolding entry_of
entry-small ks j = unpack-small _ _

unpack-words : (o : Option Who) → SmallIf o → unpacked_of (phase_word o) (name_word o) ≡ o
unfolding unpacked_of
unpack-words None s = refl
unpack-words (Some a) s = unpack-pack a s

entry_length : (ks : List ℕ) (j : ℕ) (o : Option Who) → length (entry_put ks j o) ≡ length ks
unfolding entry_put
entry_length ks j o = simp length-set

entry-same : (ks : List ℕ) (j : ℕ) (o : Option Who) → 2 * j + 1 < length ks → SmallIf o → entry_of (entry_put ks j o) j ≡ o
unfolding entry_of entry_put
entry-same ks j o h s =
    let h1 : 2 * j + 1 < length (set ks (2 * j) (phase_word o)) = simp length-set (h) in
    let h0 : 2 * j < length ks = omega arith in
    let ne : (2 * j ≡ 2 * j + 1 → ⊥) = λ e. omega arith in
    rw (
      get_or-set_same (set ks (2 * j) (phase_word o)) (2 * j + 1) (name_word o) 0 h1,
      get_or-set_other (set ks (2 * j) (phase_word o)) (2 * j + 1) (2 * j) (name_word o) 0 ne,
      get_or-set_same ks (2 * j) (phase_word o) 0 h0,
    ) (unpack-words o s)

entry_other : (ks : List ℕ) (j k : ℕ) (o : Option Who) → (k ≡ j → ⊥) → entry_of (entry_put ks j o) k ≡ entry_of ks k
unfolding entry_of entry_put
entry_other ks j k o ne =
    let a : (2 * k ≡ 2 * j + 1 → ⊥) = λ e. omega arith in
    let b : (2 * k ≡ 2 * j → ⊥) = λ e. ne (omega arith) in
    let c : (2 * k + 1 ≡ 2 * j + 1 → ⊥) = λ e. ne (omega arith) in
    let d : (2 * k + 1 ≡ 2 * j → ⊥) = λ e. omega arith in
    rw (
      get_or-set_other (set ks (2 * j) (phase_word o)) (2 * j + 1) (2 * k) (name_word o) 0 a,
      get_or-set_other ks (2 * j) (2 * k) (phase_word o) 0 b,
      get_or-set_other (set ks (2 * j) (phase_word o)) (2 * j + 1) (2 * k + 1) (name_word o) 0 c,
      get_or-set_other ks (2 * j) (2 * k + 1) (phase_word o) 0 d,
    )

-- readers in two entries
abbrev SmallReaders : Readers → Type 0
SmallReaders r = SmallIf (first_of r) × SmallIf (second_of r)

by_parts : (r : Readers) → readers_by (first_of r) (second_of r) ≡ r
by_parts Nobody = refl
by_parts (One a) = refl
by_parts (Two a b) = refl

by-small : (a b : Option Who) → SmallIf a → SmallIf b → SmallReaders (readers_by a b)
by-small None b s t = (tt, tt)
by-small (Some a) None s t = (s, tt)
by-small (Some a) (Some b) s t = (s, t)

joined_small : (r : Readers) (t : Who) → SmallReaders r → Small t → SmallReaders (joined_of r t)
joined_small Nobody t s u = (u, tt)
joined_small (One a) t s u =
    cond_both (not (eqb a.group t.group)) _ _ SmallReaders (λ _. (s.0, u))
    (λ _. cond_both (ltb a.phase t.phase) _ _ SmallReaders (λ _. (u, tt)) (λ _. cond_both (eqb a.lane t.lane) _ _ SmallReaders (λ _. (s.0, tt)) (λ _. (s.0, u))))
joined_small (Two a b) t s u =
    cond_both (not (eqb a.group b.group)) _ _ SmallReaders (λ _. s)
    (λ _. cond_both (not (eqb a.group t.group)) _ _ SmallReaders (λ _. (s.0, u)) (λ _. cond_both (ltb a.phase t.phase) _ _ SmallReaders (λ _. (u, tt)) (λ _. s)))

wrote-same : (ks : List ℕ) (i : ℕ) (t : Who) → 6 * i + 5 < length ks → Small t →
    held_of (entry_put ks (3 * i) (Some t)) i ≡ record { writer = Some t; readers = (held_of ks i).readers }
unfolding held_of
wrote-same ks i t h s =
    let a : (3 * i + 1 ≡ 3 * i → ⊥) = λ e. omega arith in
    let b : (3 * i + 2 ≡ 3 * i → ⊥) = λ e. omega arith in
    let r : 2 * (3 * i) + 1 < length ks = omega arith in
    rw (entry-same ks (3 * i) (Some t) r s, entry_other ks (3 * i) (3 * i + 1) (Some t) a, entry_other ks (3 * i) (3 * i + 2) (Some t) b)

readers-same : (ks : List ℕ) (i : ℕ) (x : Readers) → 6 * i + 5 < length ks → SmallReaders x →
    held_of (readers_put ks i x) i ≡ record { writer = (held_of ks i).writer; readers = x }
unfolding held_of readers_put
readers-same ks i x h s =
    let ks1 : List ℕ = entry_put ks (3 * i + 1) (first_of x) in
    let a : (3 * i ≡ 3 * i + 1 → ⊥) = λ e. omega arith in
    let b : (3 * i ≡ 3 * i + 2 → ⊥) = λ e. omega arith in
    let c : (3 * i + 1 ≡ 3 * i + 2 → ⊥) = λ e. omega arith in
    let r1 : 2 * (3 * i + 1) + 1 < length ks = omega arith in
    let r2 : 2 * (3 * i + 2) + 1 < length ks1 = simp (entry_length) (omega arith) in
    rw (
      entry_other ks1 (3 * i + 2) (3 * i) (second_of x) b,
      entry_other ks (3 * i + 1) (3 * i) (first_of x) a,
      entry_other ks1 (3 * i + 2) (3 * i + 1) (second_of x) c,
      entry-same ks (3 * i + 1) (first_of x) r1 s.0,
      entry-same ks1 (3 * i + 2) (second_of x) r2 s.1,
      by_parts x,
    )

held_small : (ks : List ℕ) (i : ℕ) → SmallReaders (held_of ks i).readers
unfolding held_of
held_small ks i = by-small _ _ (entry-small ks (3 * i + 1)) (entry-small ks (3 * i + 2))

-- what is put is held at its cell, and nothing else changes
pub put_same : (ks : List ℕ) (i : ℕ) (t : Who) (w : Bool) → 6 * i + 5 < length ks → Small t → held_of (held_put ks i (held_of ks i) t w) i ≡ keep_of (held_of ks i) t w
unfolding held_put
put_same ks i t true h s = wrote-same ks i t h s
put_same ks i t false h s = readers-same ks i (joined_of (held_of ks i).readers t) h (joined_small _ t (held_small ks i) s)

pub put_other : (ks : List ℕ) (i k : ℕ) (x : Held) (t : Who) (w : Bool) → (k ≡ i → ⊥) → held_of (held_put ks i x t w) k ≡ held_of ks k
unfolding held_put held_of readers_put
put_other ks i k x t true ne =
    let a : (3 * k ≡ 3 * i → ⊥) = λ e. ne (omega arith) in
    let b : (3 * k + 1 ≡ 3 * i → ⊥) = λ e. omega arith in
    let c : (3 * k + 2 ≡ 3 * i → ⊥) = λ e. omega arith in
    rw (entry_other ks (3 * i) (3 * k) (Some t) a, entry_other ks (3 * i) (3 * k + 1) (Some t) b, entry_other ks (3 * i) (3 * k + 2) (Some t) c)
put_other ks i k x t false ne =
    let r : Readers = joined_of x.readers t in
    let ks1 : List ℕ = entry_put ks (3 * i + 1) (first_of r) in
    let a0 : (3 * k ≡ 3 * i + 1 → ⊥) = λ e. omega arith in
    let b0 : (3 * k ≡ 3 * i + 2 → ⊥) = λ e. omega arith in
    let a1 : (3 * k + 1 ≡ 3 * i + 1 → ⊥) = λ e. ne (omega arith) in
    let b1 : (3 * k + 1 ≡ 3 * i + 2 → ⊥) = λ e. omega arith in
    let a2 : (3 * k + 2 ≡ 3 * i + 1 → ⊥) = λ e. omega arith in
    let b2 : (3 * k + 2 ≡ 3 * i + 2 → ⊥) = λ e. ne (omega arith) in
    rw (
      entry_other ks1 (3 * i + 2) (3 * k) (second_of r) b0,
      entry_other ks (3 * i + 1) (3 * k) (first_of r) a0,
      entry_other ks1 (3 * i + 2) (3 * k + 1) (second_of r) b1,
      entry_other ks (3 * i + 1) (3 * k + 1) (first_of r) a1,
      entry_other ks1 (3 * i + 2) (3 * k + 2) (second_of r) b2,
      entry_other ks (3 * i + 1) (3 * k + 2) (first_of r) a2,
    )
