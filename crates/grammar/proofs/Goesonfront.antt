-- What is refused for its shape can go on up to the place where it is refused: words and expressions.
use Rattle.std.proofs.Common.{◌≡◌, ℕ, zero, suc, ◌+◌, ◌<◌, ◌≤◌, Bool, true, false, cond, not, ◌&&◌, eqb, ltb, List, [], ◌∷◌, ◌++◌, length, get_or, take, drop, Some, Ok, Err, codes, Option, Result, sym, refl, ap, ◌∙◌, inl, inr, add-zero, arith}
use Rattle.std.proofs.lemmas.List.{append_assoc, append-nil, length-append, take-append-drop, take-take, drop-drop, length-take-le, get_or-take, get_or-drop}
use Rattle.std.proofs.lemmas.Bool.{and_parts, or_cases, eqb-true, eqb-false, not-true, cases_Bool, both_ways}
use Rattle.lanes.specs.Syntax.{fixed, var, plus, minus, times, over, rest_of, less, same}
use Rattle.grammar.specs.Spelling.{letter, digit, word_byte, each_byte, same_bytes, one_of, keywords, decimal, IsName, infix_of, SpellsExpr, AnyName}
use Rattle.grammar.specs.Runs.{run_of, written}
use Rattle.grammar.specs.Walk.{word_part, word_at, word_atom, bytes_at, atom_at, operator_at, is_operator_spec, is_atom_spec, expr_at, and_then, number_part}
use Rattle.grammar.specs.declared.refusals.Refusal.{Refusal}
use Rattle.grammar.specs.declared.refusals.Refusal.TheVariants.{Shape, Large}
use Rattle.grammar.specs.declared.keywords.Keyword.{Keyword}
use Rattle.grammar.specs.declared.keywords.Keyword.TheVariants as kw
use Rattle.grammar.specs.declared.tokens.Token.{Token}
use Rattle.grammar.specs.declared.tokens.Word.{Word}
use Rattle.grammar.specs.declared.tokens.Word.TheVariants as word
use Rattle.grammar.proofs.Walks.{same_not, run-each}
use Rattle.grammar.proofs.Sound.{cond_cases, then-parts, not_err, peel, bytes-sound, run_length, WordSays, word_sound}
use Rattle.grammar.proofs.Soundexpr.{operator-sound, expr_sound}
use Rattle.grammar.proofs.Goesonline.{then-fails, word-refused}
use Rattle.grammar.proofs.Goesonlines.{Shaped}

-- a word of the language can go on to a name
pub longer : (k : Keyword) → IsName (written k ++ codes "a")
unfolding each_byte one_of keywords same_bytes
longer kw.Own = record { some = omega arith; begins = refl; bytes = refl; short = omega arith; free = refl }
longer kw.Cells = record { some = omega arith; begins = refl; bytes = refl; short = omega arith; free = refl }
longer kw.Cell = record { some = omega arith; begins = refl; bytes = refl; short = omega arith; free = refl }
longer kw.Field = record { some = omega arith; begins = refl; bytes = refl; short = omega arith; free = refl }
longer kw.Barrier = record { some = omega arith; begins = refl; bytes = refl; short = omega arith; free = refl }
longer kw.If = record { some = omega arith; begins = refl; bytes = refl; short = omega arith; free = refl }
longer kw.Else = record { some = omega arith; begins = refl; bytes = refl; short = omega arith; free = refl }
longer kw.End = record { some = omega arith; begins = refl; bytes = refl; short = omega arith; free = refl }
longer kw.While = record { some = omega arith; begins = refl; bytes = refl; short = omega arith; free = refl }
longer kw.Lane = record { some = omega arith; begins = refl; bytes = refl; short = omega arith; free = refl }
longer kw.Group = record { some = omega arith; begins = refl; bytes = refl; short = omega arith; free = refl }
longer kw.Lanes = record { some = omega arith; begins = refl; bytes = refl; short = omega arith; free = refl }

pub name-a : IsName (codes "a")
unfolding each_byte one_of keywords same_bytes
name-a = record { some = omega arith; begins = refl; bytes = refl; short = omega arith; free = refl }

-- eight bytes are no word of the language
free-eight : (u : List ℕ) → length u ≡ 8 → one_of keywords u ≡ false
unfolding one_of keywords
free-eight u h =
    rw (
      same_not (codes "own") u (λ e. omega (arith, ap length e)),
      same_not (codes "cells") u (λ e. omega (arith, ap length e)),
      same_not (codes "cell") u (λ e. omega (arith, ap length e)),
      same_not (codes "field") u (λ e. omega (arith, ap length e)),
      same_not (codes "barrier") u (λ e. omega (arith, ap length e)),
      same_not (codes "if") u (λ e. omega (arith, ap length e)),
      same_not (codes "else") u (λ e. omega (arith, ap length e)),
      same_not (codes "end") u (λ e. omega (arith, ap length e)),
      same_not (codes "while") u (λ e. omega (arith, ap length e)),
      same_not (codes "lane") u (λ e. omega (arith, ap length e)),
      same_not (codes "group") u (λ e. omega (arith, ap length e)),
      same_not (codes "lanes") u (λ e. omega (arith, ap length e)),
    ) refl

pub shaped-zero : Shaped (codes "0")
unfolding SpellsExpr each_byte decimal
shaped-zero = (fixed 0, record { some = omega arith; bytes = refl; value = refl })

pub shaped-name : (u : List ℕ) → IsName u → Shaped u
unfolding SpellsExpr
shaped-name u h = (var 0, h)

pub shaped-binary : (op : ℕ) (u v : List ℕ) → is_operator_spec op ≡ true → Shaped u → Shaped v → Shaped (infix_of u op v)
unfolding SpellsExpr
shaped-binary op u v h (e, s) (g, t) =
    elim (or_cases (eqb op 43) _ h) [
      | inl p ↦ (plus e g, (u, v, s, t, ap (λ m. infix_of u m v) (eqb-true op 43 p)))
      | inr h1 ↦
          elim (or_cases (eqb op 45) _ h1) [
            | inl p ↦ (minus e g, (u, v, s, t, ap (λ m. infix_of u m v) (eqb-true op 45 p)))
            | inr h2 ↦
                elim (or_cases (eqb op 42) _ h2) [
                  | inl p ↦ (times e g, (u, v, s, t, ap (λ m. infix_of u m v) (eqb-true op 42 p)))
                  | inr h3 ↦
                      elim (or_cases (eqb op 47) _ h3) [
                        | inl p ↦ (over e g, (u, v, s, t, ap (λ m. infix_of u m v) (eqb-true op 47 p)))
                        | inr h4 ↦
                            elim (or_cases (eqb op 37) _ h4) [
                              | inl p ↦ (rest_of e g, (u, v, s, t, ap (λ m. infix_of u m v) (eqb-true op 37 p)))
                              | inr h5 ↦
                                  elim (or_cases (eqb op 60) _ h5) [
                                    | inl p ↦ (less e g, (u, v, s, t, ap (λ m. infix_of u m v) (eqb-true op 60 p)))
                                    | inr p ↦
                                        (same e g, (u, v, s, t, ap (λ m. infix_of u m v) (eqb-true op 61 p)))
                                  ]
                            ]
                      ]
                ]
          ]
    ]

-- these bytes; one after the other
abbrev pub Just : List ℕ → List ℕ → Type 0
Just w t = t ≡ w

pub record Both (L M : List ℕ → Type 0) (t : List ℕ) : Type 0 where
  pub left : List ℕ
  pub right : List ℕ
  pub one : L left
  pub two : M right
  pub is : t ≡ left ++ right

each_take : (f : ℕ → Bool) (u : List ℕ) (n : ℕ) → each_byte f u ≡ true → each_byte f (take n u) ≡ true
unfolding each_byte
each_take f u zero h = refl
each_take f [] (suc n) h = refl
each_take f (b ∷ u) (suc n) h = let p = and_parts (f b) (each_byte f u) h in rw p.0 (each_take f u n p.1)

module _ (text : List ℕ) where
  -- from byte i up to p the text goes as something in L begins
  pub record Front (L : List ℕ → Type 0) (i p : ℕ) : Type 0 where
    pub upto : List ℕ
    pub more : List ℕ
    pub is : L (upto ++ more)
    pub here : drop i text ≡ upto ++ drop p text
    pub end_is : p ≡ i + length upto

  -- from byte i up to j stands something in L
  pub record Got (L : List ℕ → Type 0) (i j : ℕ) : Type 0 where
    pub bytes : List ℕ
    pub is : L bytes
    pub here : drop i text ≡ bytes ++ drop j text
    pub end_is : j ≡ i + length bytes

  pub front_map : (L M : List ℕ → Type 0) (i p : ℕ) → ((t : List ℕ) → L t → M t) → Front L i p → Front M i p
  front_map L M i p h f = record { upto = f.upto; more = f.more; is = h (f.upto ++ f.more) f.is; here = f.here; end_is = f.end_is }

  pub got_map : (L M : List ℕ → Type 0) (i p : ℕ) → ((t : List ℕ) → L t → M t) → Got L i p → Got M i p
  got_map L M i p h f = record { bytes = f.bytes; is = h f.bytes f.is; here = f.here; end_is = f.end_is }

  pub front_none : (L : List ℕ → Type 0) (i : ℕ) (w : List ℕ) → L w → Front L i i
  front_none L i w h = record { upto = []; more = w; is = h; here = refl; end_is = omega arith }

  pub front_first : (L M : List ℕ → Type 0) (i p : ℕ) (m : List ℕ) → Front L i p → M m → Front (Both L M) i p
  front_first L M i p m f h =
      record { upto = f.upto; more = f.more ++ m; is = record { left = f.upto ++ f.more; right = m; one = f.is; two = h; is = sym (append_assoc f.upto f.more m) }; here = f.here; end_is = f.end_is }

  pub front_second : (L M : List ℕ → Type 0) (i j p : ℕ) → Got L i j → Front M j p → Front (Both L M) i p
  front_second L M i j p g f =
      record {
        upto = g.bytes ++ f.upto;
        more = f.more;
        is = record { left = g.bytes; right = f.upto ++ f.more; one = g.is; two = f.is; is = append_assoc g.bytes f.upto f.more };
        here = g.here ∙ ap (λ t. g.bytes ++ t) f.here ∙ sym (append_assoc g.bytes f.upto (drop p text));
        end_is = omega (arith, g.end_is, f.end_is, length-append g.bytes f.upto);
      }

  pub got_both : (L M : List ℕ → Type 0) (i j k : ℕ) → Got L i j → Got M j k → Got (Both L M) i k
  got_both L M i j k g f =
      record {
        bytes = g.bytes ++ f.bytes;
        is = record { left = g.bytes; right = f.bytes; one = g.is; two = f.is; is = refl };
        here = g.here ∙ ap (λ t. g.bytes ++ t) f.here ∙ sym (append_assoc g.bytes f.bytes (drop k text));
        end_is = omega (arith, g.end_is, f.end_is, length-append g.bytes f.bytes);
      }

  -- a step, and then another
  pub front_then : {X Y : Type 0} (L M : List ℕ → Type 0) (pos : X → ℕ) (i p : ℕ) (m : List ℕ) (r : Result X Refusal) (f : X → Result Y Refusal) → M m
      → ((q : ℕ) → r ≡ Err (Shape q) → Front L i q) → ((x : X) → r ≡ Ok x → Got L i (pos x)) → ((x : X) → r ≡ Ok x → f x ≡ Err (Shape p) → Front M (pos x) p) → and_then r f ≡ Err (Shape p) → Front (Both L M) i p
  front_then L M pos i p m r f h a b c e =
      elim (then-fails r f (Shape p) e) [
        | inl q ↦ front_first L M i p m (a p q) h
        | inr q ↦ front_second L M i (pos q.0) p (b q.0 q.1) (c q.0 q.1 q.2)
      ]

  -- wanted bytes
  pub got_bytes : (w : List ℕ) (i j : ℕ) → bytes_at text w i ≡ Ok j → Got (Just w) i j
  got_bytes w i j e = let s = bytes-sound text w i j e in record { bytes = w; is = refl; here = s.0; end_is = s.1 }

  more_bytes : (b : ℕ) (w : List ℕ) (i p : ℕ) → drop i text ≡ b ∷ drop (i + 1) text → Front (Just w) (i + 1) p → Front (Just (b ∷ w)) i p
  more_bytes b w i p h f =
      record { upto = b ∷ f.upto; more = f.more; is = ap (λ t. b ∷ t) f.is; here = h ∙ ap (λ t. b ∷ t) f.here; end_is = omega (arith, f.end_is) }

  pub front_bytes : (w : List ℕ) (i p : ℕ) → bytes_at text w i ≡ Err (Shape p) → Front (Just w) i p
  unfolding bytes_at
  front_bytes [] i p e = let z : ◌≡◌ {A = ℕ} 0 1 = cc in absurd (omega arith)
  front_bytes (b ∷ w) i p e =
      elim (cond_cases (eqb (get_or text i 0) b && not (eqb b 0)) (bytes_at text w (i + 1)) (Err (Shape i)) (Err (Shape p)) e) [
        | inl h ↦
            let q = and_parts (eqb (get_or text i 0) b) (not (eqb b 0)) h.0 in
            let s : get_or text i 0 ≡ b = eqb-true (get_or text i 0) b q.0 in
            let n : eqb b 0 ≡ false = not-true (eqb b 0) q.1 in
            let t : (get_or text i 0 ≡ 0 → ⊥) = λ z. eqb-false b 0 n (sym s ∙ z) in
            more_bytes b w i p (peel text i t ∙ ap (λ m. m ∷ drop (i + 1) text) s) (front_bytes w (i + 1) p h.1)
        | inr h ↦ let x = h.1 in let n : i ≡ p = cc in rw (sym n) (front_none (Just (b ∷ w)) i (b ∷ w) refl)
      ]

  -- the first eight bytes of a word that is too long
  pub front_long : (i : ℕ) → letter (get_or text i 0) ≡ true → 9 ≤ run_of word_byte (drop i text) → Front IsName i (i + 8)
  front_long i l h =
      let w : List ℕ = word_part text i in
      let u : List ℕ = take 8 w in
      let n : length w ≡ run_of word_byte (drop i text) = run_length word_byte text i in
      let m : length u ≡ 8 = length-take-le 8 w (omega arith) in
      let same_u : u ≡ take 8 (drop i text) = take-take 8 (run_of word_byte (drop i text)) (drop i text) (omega arith) in
      let b : get_or u 0 0 ≡ get_or text i 0 = ap (λ t. get_or t 0 0) same_u ∙ get_or-take 8 (drop i text) 0 0 (omega arith) ∙ get_or-drop i text 0 0 ∙ ap (λ m. get_or text m 0) (add-zero i) in
      let name : IsName u = record { some = omega arith; begins = ap letter b ∙ l; bytes = each_take word_byte w 8 (run-each word_byte (drop i text)); short = omega arith; free = free-eight u m } in
      record {
        upto = u;
        more = [];
        is = rw (append-nil u) name;
        here = sym (take-append-drop 8 (drop i text)) ∙ ap (λ t. t ++ drop 8 (drop i text)) (sym same_u) ∙ ap (λ t. u ++ t) (drop-drop 8 i text);
        end_is = omega (arith, m);
      }

  module _ (find : List ℕ → Option ℕ) where
    not_letter : (i p : ℕ) → letter (get_or text i 0) ≡ false → word_at find text i ≡ Err (Shape p) → i ≡ p
    unfolding word_at
    not_letter i p l e =
        elim (cond_cases (letter (get_or text i 0)) _ _ (Err (Shape p)) e) [ inl h ↦ absurd (both_ways (letter (get_or text i 0)) l h.0) | inr h ↦ let x = h.1 in cc ]

    pub front_word : (i p : ℕ) → word_at find text i ≡ Err (Shape p) → Front IsName i p
    front_word i p e =
        elim (cases_Bool (letter (get_or text i 0))) [
          | inl l ↦ let h = word-refused find text i p l e in rw (sym h.1) (front_long i l h.0)
          | inr l ↦ let n : i ≡ p = not_letter i p l e in rw (sym n) (front_none IsName i (codes "a") name-a)
        ]

    -- a word of the language where a name must stand
    pub front_key : (k : Keyword) (i j : ℕ) → Got (Just (written k)) i j → Front IsName i j
    front_key k i j g =
        record { upto = g.bytes; more = codes "a"; is = rw g.is (longer k); here = g.here; end_is = g.end_is }

    pub got_word : (i : ℕ) (x : Token) → word_at find text i ≡ Ok x → Got (Just (word_part text i)) i x.end
    got_word i x e = let w = word_sound find text i x e in record { bytes = word_part text i; is = refl; here = w.here; end_is = w.end_is }

    front_atom_word : (w : Word) (u : List ℕ) (i j p : ℕ) → WordSays find u w → Got (Just u) i j → word_atom w j ≡ Err (Shape p) → Front Shaped i p
    front_atom_word (word.Own k) u i j p s g e = let z : ◌≡◌ {A = ℕ} 0 1 = cc in absurd (omega arith)
    front_atom_word (word.Key k) u i j p s g e =
        elim (cond_cases (is_atom_spec k) _ _ (Err (Shape p)) e) [
          | inl h ↦ let x = h.1 in let z : ◌≡◌ {A = ℕ} 0 1 = cc in absurd (omega arith)
          | inr h ↦ let x = h.1 in let n : j ≡ p = cc in rw (sym n) (front_map IsName Shaped i j shaped-name (front_key k i j (got_map (Just u) (Just (written k)) i j (λ t q. q ∙ s) g)))
        ]

    no_number : (i p : ℕ) → cond (ltb (number_part text i) 4294967296) (Ok (i + run_of digit (drop i text))) (Err (Large i)) ≡ Err (Shape p) → ⊥
    no_number i p e =
        elim (cond_cases (ltb (number_part text i) 4294967296) _ _ (Err (Shape p)) e)
        [ inl h ↦ let x = h.1 in let z : ◌≡◌ {A = ℕ} 0 1 = cc in omega arith | inr h ↦ let x = h.1 in let z : ◌≡◌ {A = ℕ} 0 1 = cc in omega arith ]

    pub front_atom : (i p : ℕ) → atom_at find text i ≡ Err (Shape p) → Front Shaped i p
    unfolding atom_at
    front_atom i p e =
        elim (cond_cases (digit (get_or text i 0)) _ _ (Err (Shape p)) e) [
          | inl h ↦ absurd (no_number i p h.1)
          | inr h ↦
              elim (then-fails (word_at find text i) _ (Shape p) h.1) [
                | inl q ↦ front_map IsName Shaped i p shaped-name (front_word i p q)
                | inr q ↦ front_atom_word q.0.word (word_part text i) i q.0.end p (word_sound find text i q.0 q.1).says (got_word i q.0 q.1) q.2
              ]
        ]

    -- an operator between its spaces
    pub record Operator (t : List ℕ) : Type 0 where
      pub sign : ℕ
      pub good : is_operator_spec sign ≡ true
      pub is : t ≡ 32 ∷ sign ∷ 32 ∷ []

    plus_sign : Operator (32 ∷ 43 ∷ 32 ∷ [])
    plus_sign = record { sign = 43; good = refl; is = refl }

    abbrev SignSpace : List ℕ → Type 0
    SignSpace t = (op : ℕ) × (is_operator_spec op ≡ true) × (t ≡ op ∷ 32 ∷ [])

    sign-operator : (t : List ℕ) → Both (Just (32 ∷ [])) SignSpace t → Operator t
    sign-operator t b = record { sign = b.two.0; good = b.two.1; is = b.is ∙ ap (λ l. l ++ b.right) b.one ∙ ap (λ r. 32 ∷ r) b.two.2 }

    front-sign : (j p : ℕ) → cond (is_operator_spec (get_or text j 0)) (bytes_at text (32 ∷ []) (j + 1)) (Err (Shape j)) ≡ Err (Shape p) → Front SignSpace j p
    front-sign j p e =
        elim (cond_cases (is_operator_spec (get_or text j 0)) _ _ (Err (Shape p)) e) [
          | inl h ↦
              let n : (get_or text j 0 ≡ 0 → ⊥) = λ z. let f : ◌≡◌ {A = Bool} true false = sym h.0 ∙ ap is_operator_spec z in grind arith in
              let f = front_bytes (32 ∷ []) (j + 1) p h.1 in
              record { upto = get_or text j 0 ∷ f.upto; more = f.more; is = (get_or text j 0, h.0, ap (λ t. get_or text j 0 ∷ t) f.is); here = peel text j n ∙ ap (λ t. get_or text j 0 ∷ t) f.here; end_is = omega (arith, f.end_is) }
          | inr h ↦ let x = h.1 in let n : j ≡ p = cc in rw (sym n) (front_none SignSpace j (43 ∷ 32 ∷ []) (43, refl, refl))
        ]

    front-operator : (i p : ℕ) → operator_at text i ≡ Err (Shape p) → Front Operator i p
    unfolding operator_at
    front-operator i p e =
        front_map (Both (Just (32 ∷ [])) SignSpace) Operator i p sign-operator
        (front_then (Just (32 ∷ [])) SignSpace (λ j. j) i p (43 ∷ 32 ∷ []) (bytes_at text (32 ∷ []) i) _ (43, refl, refl) (λ q. front_bytes (32 ∷ []) i q) (λ j. got_bytes (32 ∷ []) i j) (λ j _. front-sign j p) e)

    three : (i j : ℕ) → operator_at text i ≡ Ok j → j ≡ i + 3
    unfolding operator_at
    three i j e =
        let p = then-parts (bytes_at text (32 ∷ []) i) _ j e in
        let s = bytes-sound text (32 ∷ []) i p.0 p.1 in
        elim (cond_cases (is_operator_spec (get_or text p.0 0)) _ _ (Ok j) p.2)
        [ inl q ↦ omega (arith, s.1, (bytes-sound text (32 ∷ []) (p.0 + 1) j q.1).1) | inr q ↦ absurd (not_err (Shape p.0) j q.1) ]

    got-operator : (i j : ℕ) → operator_at text i ≡ Ok j → Got Operator i j
    got-operator i j e =
        let s = operator-sound text i j e in
        record { bytes = 32 ∷ s.0 ∷ 32 ∷ []; is = record { sign = s.0; good = s.1; is = refl }; here = s.2; end_is = three i j e }

    -- brackets
    abbrev Rest3 : List ℕ → Type 0
    Rest3 = Both Shaped (Just (41 ∷ []))

    abbrev Rest2 : List ℕ → Type 0
    Rest2 = Both Operator Rest3

    abbrev Rest1 : List ℕ → Type 0
    Rest1 = Both Shaped Rest2

    rest3 : Rest3 (48 ∷ 41 ∷ [])
    rest3 = record { left = codes "0"; right = 41 ∷ []; one = shaped-zero; two = refl; is = refl }

    rest2 : Rest2 (32 ∷ 43 ∷ 32 ∷ 48 ∷ 41 ∷ [])
    rest2 = record { left = 32 ∷ 43 ∷ 32 ∷ []; right = 48 ∷ 41 ∷ []; one = plus_sign; two = rest3; is = refl }

    rest1 : Rest1 (48 ∷ 32 ∷ 43 ∷ 32 ∷ 48 ∷ 41 ∷ [])
    rest1 = record { left = codes "0"; right = 32 ∷ 43 ∷ 32 ∷ 48 ∷ 41 ∷ []; one = shaped-zero; two = rest2; is = refl }

    -- in brackets
    inside : (t : List ℕ) → Both (Just (40 ∷ [])) Rest1 t → Shaped t
    inside t b =
        let u : List ℕ = b.two.left in
        let v : List ℕ = b.two.two.two.left in
        let op : ℕ = b.two.two.one.sign in
        let q : t ≡ infix_of u op v =
        b.is ∙ ap (λ l. l ++ b.right) b.one ∙ ap (λ r. 40 ∷ r) (b.two.is ∙ ap (λ r. u ++ r) (b.two.two.is ∙ ap (λ l. l ++ b.two.two.right) b.two.two.one.is
        ∙ ap (λ r. 32 ∷ op ∷ 32 ∷ r) (b.two.two.two.is ∙ ap (λ r. v ++ r) b.two.two.two.two))) in
        rw q (shaped-binary op u v b.two.two.one.good b.two.one b.two.two.two.one)

    module _ (o : ℕ) (finds : (k : ℕ) (u : List ℕ) → find u ≡ Some k → AnyName k u × (k < o)) where
      pub got-expr : (n i j : ℕ) → expr_at find text n i ≡ Ok j → Got Shaped i j
      got-expr n i j e = let x = expr_sound find text AnyName o finds n i j e in record { bytes = x.spelling; is = (x.is.0, x.is.1); here = x.here; end_is = x.end_is }

      pub front-expr : (n i p : ℕ) → expr_at find text n i ≡ Err (Shape p) → Front Shaped i p
      unfolding expr_at
      front-expr zero i p e =
          elim (cond_cases (eqb (get_or text i 0) 40) _ _ (Err (Shape p)) e)
          [ inl h ↦ let x = h.1 in let z : ◌≡◌ {A = ℕ} 0 1 = cc in absurd (omega arith) | inr h ↦ front_atom i p h.1 ]
      front-expr (suc n) i p e =
          elim (cond_cases (eqb (get_or text i 0) 40) _ _ (Err (Shape p)) e) [
            | inl h ↦
                let b : get_or text i 0 ≡ 40 = eqb-true (get_or text i 0) 40 h.0 in
                let nz : (get_or text i 0 ≡ 0 → ⊥) = λ z. omega (arith, b, z) in
                let g : Got (Just (40 ∷ [])) i (i + 1) = record { bytes = 40 ∷ []; is = refl; here = peel text i nz ∙ ap (λ c. c ∷ drop (i + 1) text) b; end_is = refl } in
                front_map (Both (Just (40 ∷ [])) Rest1) Shaped i p inside
                (front_second (Just (40 ∷ [])) Rest1 i (i + 1) p g
                (front_then Shaped Rest2 (λ j. j) (i + 1) p _ (expr_at find text n (i + 1)) _ rest2 (λ q. front-expr n (i + 1) q) (λ j. got-expr n (i + 1) j)
                (λ j _. front_then Operator Rest3 (λ k. k) j p _ (operator_at text j) _ rest3 (λ q. front-operator j q) (λ k. got-operator j k)
                (λ k _. front_then Shaped (Just (41 ∷ [])) (λ l. l) k p (41 ∷ []) (expr_at find text n k) _ refl (λ q. front-expr n k q) (λ l. got-expr n k l)
                (λ l _. front_bytes (41 ∷ []) l p)))
                h.1))
            | inr h ↦ front_atom i p h.1
          ]
