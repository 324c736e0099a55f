-- The names that are read are names, no two of them the same, and they stand in the text's first line.
use Rattle.std.proofs.Common.{◌≡◌, ℕ, zero, suc, ◌+◌, ◌-◌, ◌<◌, ◌≤◌, Bool, true, false, cond, eqb, leb, List, [], ◌∷◌, ◌++◌, length, get_or, drop, Some, None, Ok, codes, Option, sym, refl, ap, ◌∙◌, subst, inl, inr, add-zero, arith}
use Rattle.std.proofs.lemmas.List.{append_assoc, get_or_append_left, get_or_push, length_push, drop-drop, get_or-drop, get_or-take, take-append-drop}
use Rattle.std.proofs.lemmas.Bool.{both_ways, cases_lt, eqb-true, eq-eqb, ne_eqb, leb-false, or_parts}
use Rattle.grammar.specs.Spelling.{letter, word_byte, same_bytes, one_of, keywords, IsName}
use Rattle.grammar.specs.Stands.{Apart}
use Rattle.grammar.specs.Runs.{run_of}
use Rattle.grammar.specs.Taken.{Distinct}
use Rattle.grammar.specs.Walk.{word_part, key_at, key_of, bytes_at, and_then}
use Rattle.grammar.specs.declared.refusals.Refusal.TheVariants.{Shape}
use Rattle.grammar.specs.declared.keywords.Keyword.{Keyword}
use Rattle.grammar.specs.declared.keywords.Keyword.TheVariants.{Own, Cells, Cell, Field, Barrier, If, Else, End, While, Lane, Group, Lanes}
use Rattle.grammar.proofs.Walks.{same-decides, run-each, run-apart}
use Rattle.grammar.proofs.Sound.{cond_cases, then-parts, not_err, same_ok, bytes-sound, run-splits, run_length, run-some, key-sound, peel}
use Rattle.reader.specs.Heads.{Words, spaced, is_key, is_own_spec, name_at, names_at, Found}
use Rattle.reader.proofs.Names.{names-step}

-- what is no word of the language is free
step-free : (b : Bool) (k : Keyword) (r : Option Keyword) → cond b (Some k) r ≡ None → (b ≡ false) × (r ≡ None)
step-free true k r e = let z : ◌≡◌ {A = ℕ} 0 1 = cc in absurd (omega arith)
step-free false k r e = (refl, e)

pub key-none-free : (u : List ℕ) → key_of u ≡ None → one_of keywords u ≡ false
unfolding key_of one_of keywords
key-none-free u h =
    let a0 = step-free (same_bytes (codes "own") u) Own _ h in
    let a1 = step-free (same_bytes (codes "cells") u) Cells _ a0.1 in
    let a2 = step-free (same_bytes (codes "cell") u) Cell _ a1.1 in
    let a3 = step-free (same_bytes (codes "field") u) Field _ a2.1 in
    let a4 = step-free (same_bytes (codes "barrier") u) Barrier _ a3.1 in
    let a5 = step-free (same_bytes (codes "if") u) If _ a4.1 in
    let a6 = step-free (same_bytes (codes "else") u) Else _ a5.1 in
    let a7 = step-free (same_bytes (codes "end") u) End _ a6.1 in
    let a8 = step-free (same_bytes (codes "while") u) While _ a7.1 in
    let a9 = step-free (same_bytes (codes "lane") u) Lane _ a8.1 in
    let b0 = step-free (same_bytes (codes "group") u) Group _ a9.1 in
    let b1 = step-free (same_bytes (codes "lanes") u) Lanes _ b0.1 in
    rw (a0.0, a1.0, a2.0, a3.0, a4.0, a5.0, a6.0, a7.0, a8.0, a9.0, b0.0, b1.0) refl

key-none : (k : Option Keyword) → is_key k ≡ false → k ≡ None
key-none None h = refl
key-none (Some k) h = let z : ◌≡◌ {A = ℕ} 0 1 = cc in absurd (omega arith)

letter-word : (b : ℕ) → letter b ≡ true → word_byte b ≡ true
letter-word b h = rw h refl

run-first : (text : List ℕ) (i : ℕ) → 1 ≤ run_of word_byte (drop i text) → get_or (word_part text i) 0 0 ≡ get_or text i 0
run-first text i h = get_or-take (run_of word_byte (drop i text)) (drop i text) 0 0 h ∙ get_or-drop i text 0 0 ∙ ap (λ m. get_or text m 0) (add-zero i)

-- a new name
pub record New (seen : List (List ℕ)) (text : List ℕ) (i e : ℕ) : Type 0 where
  pub name : IsName (word_part text i)
  pub fresh : one_of seen (word_part text i) ≡ false
  pub room : length seen < 64
  pub here : drop i text ≡ word_part text i ++ drop e text
  pub apart : Apart (drop e text)

new-made : (seen : List (List ℕ)) (text : List ℕ) (i e : ℕ) → letter (get_or text i 0) ≡ true → leb 9 (run_of word_byte (drop i text)) ≡ false → is_key (key_at text i) ≡ false
    → one_of seen (word_part text i) ≡ false → leb 64 (length seen) ≡ false → i + run_of word_byte (drop i text) ≡ e → New seen text i e
new-made seen text i e l s k o m q =
    let n : 1 ≤ run_of word_byte (drop i text) = run-some word_byte text i refl (letter-word (get_or text i 0) l) in
    let len : length (word_part text i) ≡ run_of word_byte (drop i text) = run_length word_byte text i in
    record {
      name = record { some = omega arith; begins = ap letter (run-first text i n) ∙ l; bytes = run-each word_byte (drop i text); short = omega (arith, leb-false 9 _ s); free = key-none-free (word_part text i) (key-none (key_at text i) k) };
      fresh = o;
      room = leb-false 64 (length seen) m;
      here = run-splits word_byte text i ∙ ap (λ m. word_part text i ++ drop m text) q;
      apart = ap (λ m. word_byte (get_or m 0 0)) (ap (λ m. drop m text) (sym q) ∙ sym (drop-drop (run_of word_byte (drop i text)) i text)) ∙ run-apart word_byte refl (drop i text);
    }

pub name-sound : (seen : List (List ℕ)) (text : List ℕ) (i e : ℕ) → name_at seen text i ≡ Ok e → New seen text i e
unfolding name_at
name-sound seen text i e h =
    elim (cond_cases (letter (get_or text i 0)) _ _ (Ok e) h) [
      | inr p ↦ absurd (not_err (Shape i) e p.1)
      | inl p ↦
          elim (cond_cases (leb 9 (run_of word_byte (drop i text))) _ _ (Ok e) p.1) [
            | inl q ↦ absurd (not_err _ e q.1)
            | inr q ↦
                elim (cond_cases (is_key (key_at text i)) _ _ (Ok e) q.1) [
                  | inl k ↦ absurd (not_err _ e k.1)
                  | inr k ↦
                      elim (cond_cases (one_of seen (word_part text i)) _ _ (Ok e) k.1) [
                        | inl o ↦ absurd (not_err _ e o.1)
                        | inr o ↦
                            elim (cond_cases (leb 64 (length seen)) _ _ (Ok e) o.1) [
                              | inl m ↦ absurd (not_err _ e m.1)
                              | inr m ↦
                                  new-made seen text i e p.0 q.0 k.0 o.0 m.0 (same_ok _ e m.1)
                            ]
                      ]
                ]
          ]
    ]

-- one name more
pub spaced-push : (ns : List (List ℕ)) (u z : List ℕ) → spaced (ns ++ (u ∷ [])) ++ z ≡ spaced ns ++ (32 ∷ (u ++ z))
spaced-push [] u z = ap (λ t. 32 ∷ t) (append_assoc u [] z)
spaced-push (n ∷ ns) u z = ap (λ t. 32 ∷ t) (append_assoc n (spaced (ns ++ (u ∷ []))) z ∙ ap (λ t. n ++ t) (spaced-push ns u z) ∙ sym (append_assoc n (spaced ns) (32 ∷ (u ++ z))))

pub each-push : (P : List ℕ → Type 0) (ns : List (List ℕ)) (u : List ℕ) → ((k : ℕ) → k < length ns → P (get_or ns k [])) → P u → (k : ℕ) → k < length (ns ++ (u ∷ [])) → P (get_or (ns ++ (u ∷ [])) k [])
each-push P ns u h p k l =
    elim (cases_lt k (length ns)) [
      | inl q ↦ subst P (sym (get_or_append_left ns (u ∷ []) [] k q)) (h k q)
      | inr q ↦ let e : length ns ≡ k = omega (arith, length_push ns u) in subst P (sym (get_or_push ns u [] k e)) p
    ]

pub not_seen : (ns : List (List ℕ)) (u : List ℕ) → one_of ns u ≡ false → (k : ℕ) → k < length ns → get_or ns k [] ≡ u → ⊥
unfolding one_of
not_seen [] u h k l e = omega arith
not_seen (n ∷ ns) u h zero l e = let p = or_parts (same_bytes n u) (one_of ns u) h in both_ways (same_bytes n u) p.0 ((same-decides n u).1 e)
not_seen (n ∷ ns) u h (suc k) l e = not_seen ns u (or_parts (same_bytes n u) (one_of ns u) h).1 k (omega arith) e

pub distinct_push : (ns : List (List ℕ)) (u : List ℕ) → Distinct ns → one_of ns u ≡ false → Distinct (ns ++ (u ∷ []))
distinct_push ns u d f j k lj lk e =
    let len = length_push ns u in
    elim (cases_lt j (length ns)) [
      | inl p ↦
          elim (cases_lt k (length ns)) [
            | inl q ↦ d j k p q (sym (get_or_append_left ns (u ∷ []) [] j p) ∙ e ∙ get_or_append_left ns (u ∷ []) [] k q)
            | inr q ↦ absurd (not_seen ns u f j p (sym (get_or_append_left ns (u ∷ []) [] j p) ∙ e ∙ get_or_push ns u [] k (omega (arith, len))))
          ]
      | inr p ↦
          elim (cases_lt k (length ns)) [
            | inl q ↦ absurd (not_seen ns u f k q (sym (get_or_append_left ns (u ∷ []) [] k q) ∙ sym e ∙ get_or_push ns u [] j (omega (arith, len))))
            | inr q ↦ omega (arith, len)
          ]
    ]

-- the line begins with the word own
own_key : (k : Option Keyword) → is_own_spec k ≡ true → k ≡ Some Own
own_key None h = let z : ◌≡◌ {A = ℕ} 0 1 = cc in absurd (omega arith)
own_key (Some Own) h = refl
own_key (Some Cells) h = let z : ◌≡◌ {A = ℕ} 0 1 = cc in absurd (omega arith)
own_key (Some Cell) h = let z : ◌≡◌ {A = ℕ} 0 1 = cc in absurd (omega arith)
own_key (Some Field) h = let z : ◌≡◌ {A = ℕ} 0 1 = cc in absurd (omega arith)
own_key (Some Barrier) h = let z : ◌≡◌ {A = ℕ} 0 1 = cc in absurd (omega arith)
own_key (Some If) h = let z : ◌≡◌ {A = ℕ} 0 1 = cc in absurd (omega arith)
own_key (Some Else) h = let z : ◌≡◌ {A = ℕ} 0 1 = cc in absurd (omega arith)
own_key (Some End) h = let z : ◌≡◌ {A = ℕ} 0 1 = cc in absurd (omega arith)
own_key (Some While) h = let z : ◌≡◌ {A = ℕ} 0 1 = cc in absurd (omega arith)
own_key (Some Lane) h = let z : ◌≡◌ {A = ℕ} 0 1 = cc in absurd (omega arith)
own_key (Some Group) h = let z : ◌≡◌ {A = ℕ} 0 1 = cc in absurd (omega arith)
own_key (Some Lanes) h = let z : ◌≡◌ {A = ℕ} 0 1 = cc in absurd (omega arith)

pub own-begins : (text : List ℕ) → is_own_spec (key_at text 0) ≡ true → (text ≡ codes "own" ++ drop 3 text) × Apart (drop 3 text)
own-begins text h =
    let w : word_part text 0 ≡ codes "own" = key-sound (word_part text 0) Own (own_key (key_at text 0) h) in
    let n : run_of word_byte text ≡ 3 = sym (run_length word_byte text 0) ∙ ap length w in (
      sym (take-append-drop (run_of word_byte text) text) ∙ ap (λ t. t ++ drop (run_of word_byte text) text) w ∙ ap (λ m. codes "own" ++ drop m text) n,
      ap (λ m. word_byte (get_or (drop m text) 0 0)) (sym n) ∙ run-apart word_byte refl text,
    )

-- the state of the walk over the names
pub record Walk (text : List ℕ) (seen : List (List ℕ)) (i : ℕ) : Type 0 where
  pub names : (k : ℕ) → k < length seen → IsName (get_or seen k [])
  pub distinct : Distinct seen
  pub few : length seen ≤ 64
  pub here : drop 3 text ≡ spaced seen ++ drop i text
  pub apart : Apart (drop i text)

pub walk_start : (text : List ℕ) → is_own_spec (key_at text 0) ≡ true → Walk text [] 3
walk_start text h = record { names = λ k l. absurd (omega arith); distinct = λ j k lj lk e. absurd (omega arith); few = omega arith; here = refl; apart = (own-begins text h).1 }

pub walk-on : (text : List ℕ) (seen : List (List ℕ)) (i j e : ℕ) → Walk text seen i → bytes_at text (codes " ") i ≡ Ok j → name_at seen text j ≡ Ok e → Walk text (seen ++ (word_part text j ∷ [])) e
walk-on text seen i j e w b n =
    let x = name-sound seen text j e n in
    let s = bytes-sound text (codes " ") i j b in
    record {
      names = each-push IsName seen (word_part text j) w.names x.name;
      distinct = distinct_push seen (word_part text j) w.distinct x.fresh;
      few = omega (arith, length_push seen (word_part text j), x.room);
      here = w.here ∙ ap (λ t. spaced seen ++ t) (s.0 ∙ ap (λ t. 32 ∷ t) x.here) ∙ sym (spaced-push seen (word_part text j) (drop e text));
      apart = x.apart;
    }

pub walk-words : (text : List ℕ) (seen : List (List ℕ)) (i : ℕ) → Walk text seen i → Words seen
walk-words text seen i w k l = (w.names k l).bytes

-- the names of a whole line
pub record LineOf (text : List ℕ) (f : Found) : Type 0 where
  pub names : (k : ℕ) → k < length f.names → IsName (get_or f.names k [])
  pub distinct : Distinct f.names
  pub few : length f.names ≤ 64
  pub some : 1 ≤ length f.names
  pub here : drop 3 text ≡ spaced f.names ++ (10 ∷ drop f.next text)

line_of : (text : List ℕ) (ns : List (List ℕ)) (e : ℕ) → Walk text ns e → 1 ≤ length ns → eqb (get_or text e 0) 10 ≡ true → LineOf text (record { names = ns; next = e + 1 })
line_of text ns e w s b =
    let t : get_or text e 0 ≡ 10 = eqb-true (get_or text e 0) 10 b in
    record { names = w.names; distinct = w.distinct; few = w.few; some = s; here = w.here ∙ ap (λ t. spaced ns ++ t) (peel text e (λ z. omega (arith, t, z)) ∙ ap (λ m. m ∷ drop (e + 1) text) t) }

pub names-sound : (text : List ℕ) (n : ℕ) (seen : List (List ℕ)) (i : ℕ) (f : Found) → Walk text seen i → names_at text n seen i ≡ Ok f → LineOf text f
unfolding names_at
names-sound text zero seen i f w h = absurd (not_err (Shape i) f h)
names-sound text (suc n) seen i f w h =
    let p = then-parts (bytes_at text (codes " ") i) _ f h in
    let q = then-parts (name_at seen text p.0) _ f p.2 in
    let v = walk-on text seen i p.0 q.0 w p.1 q.1 in
    elim (cond_cases (eqb (get_or text q.0 0) 10) _ _ (Ok f) q.2) [
      | inl c ↦ subst (LineOf text) (same_ok _ f c.1) (line_of text (seen ++ (word_part text p.0 ∷ [])) q.0 v (omega (arith, length_push seen (word_part text p.0))) c.0)
      | inr c ↦ names-sound text n (seen ++ (word_part text p.0 ∷ [])) q.0 f v c.1
    ]

names-on-at : (text : List ℕ) (m : ℕ) (seen : List (List ℕ)) (i j e : ℕ) → 0 < m → Ok j ≡ bytes_at text (codes " ") i → Ok e ≡ name_at seen text j → (get_or text e 0 ≡ 10 → ⊥)
    → names_at text (m - 1) (seen ++ (word_part text j ∷ [])) e ≡ names_at text m seen i
names-on-at text m seen i j e h b n t =
    (let x : names_at text (m - 1) (seen ++ (word_part text j ∷ [])) e ≡ and_then (bytes_at text (codes " ") i) (λ j. and_then (name_at seen text j) (λ e. cond (eqb (get_or text e 0) 10) (Ok (record { names = seen ++ (word_part text j ∷ []); next = e + 1 })) (names_at text (m - 1) (seen ++ (word_part text j ∷ [])) e)))
    = rw (sym b, sym n, ne_eqb (get_or text e 0) 10 t) refl in x)
    ∙ names-step text m seen i h

pub names-end : (text : List ℕ) (m : ℕ) (seen : List (List ℕ)) (i j e : ℕ) → 0 < m → Ok j ≡ bytes_at text (codes " ") i → Ok e ≡ name_at seen text j → get_or text e 0 ≡ 10
    → Ok (record { names = seen ++ (word_part text j ∷ []); next = e + 1 }) ≡ names_at text m seen i
names-end text m seen i j e h b n t =
    (let x : Ok (record { names = seen ++ (word_part text j ∷ []); next = e + 1 }) ≡ and_then (bytes_at text (codes " ") i) (λ j. and_then (name_at seen text j) (λ e. cond (eqb (get_or text e 0) 10) (Ok (record { names = seen ++ (word_part text j ∷ []); next = e + 1 })) (names_at text (m - 1) (seen ++ (word_part text j ∷ [])) e)))
    = rw (sym b, sym n, eq-eqb (get_or text e 0) 10 t) refl in x)
    ∙ names-step text m seen i h

-- one step of the loop
pub names-on : (text : List ℕ) (m : ℕ) (seen : List (List ℕ)) (i j e : ℕ) → m ≤ 64 → Ok j ≡ bytes_at text (codes " ") i → Ok e ≡ name_at seen text j → (get_or text e 0 ≡ 10 → ⊥)
    → names_at text (66 - (m + 1)) (seen ++ (word_part text j ∷ [])) e ≡ names_at text (66 - m) seen i
names-on text m seen i j e h b n t =
    let q : 66 - (m + 1) ≡ (66 - m) - 1 = omega arith in
    rw q (names-on-at text (66 - m) seen i j e (omega arith) b n t)
