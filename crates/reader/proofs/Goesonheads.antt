-- A text that is refused for its shape can go on up to there.
use Rattle.std.proofs.Common.{◌≡◌, ℕ, zero, suc, ◌+◌, ◌-◌, ◌<◌, ◌≤◌, true, false, cond, eqb, ltb, leb, ◌≢◌, List, [], ◌∷◌, ◌++◌, length, get_or, take, drop, Some, None, Ok, Err, codes, Option, Result, sym, refl, ap, ◌∙◌, inl, inr, arith}
use Rattle.std.proofs.lemmas.List.{append_assoc, append-nil, length-append, length_push, length-drop, take_at, get_or_past}
use Rattle.std.proofs.lemmas.Bool.{cases_lt, leb-true, eqb-true}
use Rattle.lanes.specs.Syntax.{Body, end}
use Rattle.grammar.specs.Spelling.{letter, digit, word_byte, each_byte, decimal, one_of, IsName, IsNumber, SpellsBody, OwnLine, CellsLine, AnyName, Viable}
use Rattle.grammar.specs.Runs.{run_of, written}
use Rattle.grammar.specs.Walk.{word_part, key_at, bytes_at, number_part, and_then, place_in}
use Rattle.grammar.specs.declared.refusals.Refusal.{Refusal}
use Rattle.grammar.specs.declared.refusals.Refusal.TheVariants.{Shape, Twice, ManyNames, ManyCells, Long}
use Rattle.grammar.specs.declared.keywords.Keyword.{Keyword}
use Rattle.grammar.specs.declared.keywords.Keyword.TheVariants as kw
use Rattle.grammar.proofs.Walks.{run-each}
use Rattle.grammar.proofs.Nameds.{place-named, named-name}
use Rattle.grammar.proofs.Sound.{cond_cases, then-parts, not_err, same_ok, bytes-sound, run-splits, run_length, run-some, key-sound}
use Rattle.grammar.proofs.Goesonline.{then-fails}
use Rattle.grammar.proofs.Goesonfront.{Just, Both, Front, Got, front_map, front_none, front_second, front_then, got_bytes, front_bytes, front_long, front_key, name-a}
use Rattle.grammar.proofs.Goesonbegun.{Bodied}
use Rattle.reader.specs.Heads.{spaced, is_key, is_own_spec, is_cells_spec, name_at, names_at, own_at, Found, cells_at}
use Rattle.reader.specs.Blocks.{block_at, must_as}
use Rattle.reader.specs.Texts.{read_at, head_lines_spec, whole}
use Rattle.reader.specs.declared.heads.Head.{Head}
use Rattle.reader.specs.declared.blocks.Ending.{Ending}
use Rattle.reader.specs.declared.blocks.Ending.TheVariants.{Text, Else, End}
use Rattle.reader.specs.declared.blocks.Stop.{Stop}
use Rattle.reader.proofs.Owns.{name-sound, own-begins}
use Rattle.reader.proofs.Whole.{own-sound, Celled, cells-sound}
use Rattle.reader.proofs.Goesonclosed.{Gone, block_walk, word_front, lines_then}

-- a key that is there
key-there : (k : Option Keyword) → is_key k ≡ true → (m : Keyword) × (k ≡ Some m)
key-there None h = let z : ◌≡◌ {A = ℕ} 0 1 = cc in absurd (omega arith)
key-there (Some m) h = (m, refl)

-- names, each behind a space, and the end of their line
pub record Tail (t : List ℕ) : Type 0 where
  pub names : List (List ℕ)
  pub each : (k : ℕ) → k < length names → IsName (get_or names k [])
  pub is : t ≡ spaced names ++ (10 ∷ [])

pub record Names (t : List ℕ) : Type 0 where
  pub tail : Tail t
  pub some : tail.names ≢ []

abbrev NameTail : List ℕ → Type 0
NameTail = Both IsName Tail

tail-end : Tail (codes "\n")
tail-end = record { names = []; each = λ k h. absurd (omega arith); is = refl }

name-tail-a : NameTail (codes "a\n")
name-tail-a = record { left = codes "a"; right = codes "\n"; one = name-a; two = tail-end; is = refl }

more-names : (u : List ℕ) (ns : List (List ℕ)) → IsName u → ((k : ℕ) → k < length ns → IsName (get_or ns k [])) → (k : ℕ) → k < length (u ∷ ns) → IsName (get_or (u ∷ ns) k [])
more-names u ns h e zero l = h
more-names u ns h e (suc k) l = e k (omega arith)

name-list : (u : List ℕ) (ns : List (List ℕ)) → u ∷ ns ≢ []
name-list u ns e = let z : ◌≡◌ {A = ℕ} 0 1 = cc in omega arith

names-from : (t : List ℕ) → Both (Just (codes " ")) NameTail t → Names t
names-from t b =
    let n = b.two in
    record {
      tail = record {
        names = n.left ∷ n.two.names;
        each = more-names n.left n.two.names n.one n.two.each;
        is = b.is ∙ ap (λ m. m ++ b.right) b.one ∙ ap (λ m. 32 ∷ m) (n.is ∙ ap (λ m. n.left ++ m) n.two.is ∙ sym (append_assoc n.left (spaced n.two.names) (10 ∷ [])));
      };
      some = name-list n.left n.two.names;
    }

module _ (text : List ℕ) where
  -- a name of the own line
  front-name : (seen : List (List ℕ)) (i p : ℕ) → name_at seen text i ≡ Err (Shape p) → Front text IsName i p
  unfolding name_at
  front-name seen i p e =
      elim (cond_cases (letter (get_or text i 0)) _ _ (Err (Shape p)) e) [
        | inr h ↦ let x = h.1 in let n : i ≡ p = cc in rw (sym n) (front_none text IsName i (codes "a") name-a)
        | inl h ↦ elim (cond_cases (leb 9 (run_of word_byte (drop i text))) _ _ (Err (Shape p)) h.1) [
          | inl q ↦ let x = q.1 in let n : i + 8 ≡ p = cc in rw (sym n) (front_long text i h.0 (leb-true 9 (run_of word_byte (drop i text)) q.0))
          | inr q ↦ elim (cond_cases (is_key (key_at text i)) _ _ (Err (Shape p)) q.1) [
            | inl k ↦
                let x = k.1 in let n : i + run_of word_byte (drop i text) ≡ p = cc in
                let m = key-there (key_at text i) k.0 in
                let g : Got text (Just (written m.0)) i (i + run_of word_byte (drop i text)) =
                record { bytes = word_part text i; is = key-sound (word_part text i) m.0 m.1; here = run-splits word_byte text i; end_is = omega (arith, run_length word_byte text i) } in
                rw (sym n) (front_key text (λ u. None) m.0 i (i + run_of word_byte (drop i text)) g)
            | inr k ↦ elim (cond_cases (one_of seen (word_part text i)) _ _ (Err (Shape p)) k.1) [
              | inl o ↦ let x = o.1 in let z : ◌≡◌ {A = ℕ} 0 1 = cc in absurd (omega arith)
              | inr o ↦ elim (cond_cases (leb 64 (length seen)) _ _ (Err (Shape p)) o.1)
                  [ inl m ↦ let x = m.1 in let z : ◌≡◌ {A = ℕ} 0 1 = cc in absurd (omega arith) | inr m ↦ let x = m.1 in let z : ◌≡◌ {A = ℕ} 0 1 = cc in absurd (omega arith) ]
            ]
          ]
        ]
      ]

  got-name : (seen : List (List ℕ)) (i e : ℕ) → name_at seen text i ≡ Ok e → Got text IsName i e
  unfolding name_at
  got-name seen i e h =
      let x = name-sound seen text i e h in
      record { bytes = word_part text i; is = x.name; here = x.here; end_is = place seen i e h }
    where
      place : (seen : List (List ℕ)) (i e : ℕ) → name_at seen text i ≡ Ok e → e ≡ i + length (word_part text i)
      place seen i e h =
          elim (cond_cases (letter (get_or text i 0)) _ _ (Ok e) h) [
            | inr p ↦ absurd (not_err (Shape i) e p.1)
            | inl p ↦
                elim (cond_cases (leb 9 (run_of word_byte (drop i text))) _ _ (Ok e) p.1) [
                  | inl q ↦ absurd (not_err (Shape (i + 8)) e q.1)
                  | inr q ↦
                      elim (cond_cases (is_key (key_at text i)) _ _ (Ok e) q.1) [
                        | inl k ↦ absurd (not_err (Shape (i + run_of word_byte (drop i text))) e k.1)
                        | inr k ↦
                            elim (cond_cases (one_of seen (word_part text i)) _ _ (Ok e) k.1) [
                              | inl o ↦ absurd (not_err (Twice i) e o.1)
                              | inr o ↦
                                  elim (cond_cases (leb 64 (length seen)) _ _ (Ok e) o.1) [
                                    | inl m ↦ absurd (not_err (ManyNames i) e m.1)
                                    | inr m ↦
                                        omega (arith, same_ok (i + run_of word_byte (drop i text)) e m.1, run_length word_byte text i)
                                  ]
                            ]
                      ]
                ]
          ]

  abbrev after_name : ℕ → List (List ℕ) → ℕ → ℕ → Result Found Refusal
  after_name n seen j m = cond (eqb (get_or text m 0) 10) (Ok (record { names = seen ++ (word_part text j ∷ []); next = m + 1 })) (names_at text n (seen ++ (word_part text j ∷ [])) m)

  front-after : (n : ℕ) (seen : List (List ℕ)) (j m p : ℕ) → (names_at text n (seen ++ (word_part text j ∷ [])) m ≡ Err (Shape p) → Front text Names m p) → after_name n seen j m ≡ Err (Shape p) → Front text Tail m p
  front-after n seen j m p ih c =
      elim (cond_cases (eqb (get_or text m 0) 10) (Ok (record { names = seen ++ (word_part text j ∷ []); next = m + 1 })) (names_at text n (seen ++ (word_part text j ∷ [])) m) (Err (Shape p)) c) [
        | inl d ↦ let x = d.1 in let z : ◌≡◌ {A = ℕ} 0 1 = cc in absurd (omega arith)
        | inr d ↦ front_map text Names Tail m p (λ t x. x.tail) (ih d.1)
      ]

  front-names : (n : ℕ) (seen : List (List ℕ)) (i p : ℕ) → length seen ≤ 64 → 65 ≤ length seen + n → names_at text n seen i ≡ Err (Shape p) → Front text Names i p
  unfolding names_at
  front-names zero seen i p a b e = absurd (omega arith)
  front-names (suc n) seen i p a b e =
      front_map text (Both (Just (codes " ")) NameTail) Names i p names-from
      (front_then text (Just (codes " ")) NameTail (λ j. j) i p (codes "a\n") (bytes_at text (codes " ") i) _ name-tail-a (λ q. front_bytes text (codes " ") i q) (λ j. got_bytes text (codes " ") i j)
      (λ j _ h. front_then text IsName Tail (λ m. m) j p (codes "\n") (name_at seen text j) (after_name n seen j) tail-end (λ q. front-name seen j q) (λ m. got-name seen j m)
      (λ m y c. let w = name-sound seen text j m y in
      front-after n seen j m p (front-names n (seen ++ (word_part text j ∷ [])) m p (omega (arith, length_push seen (word_part text j), w.room)) (omega (arith, length_push seen (word_part text j)))) c) h) e)

  -- what stands behind the own line: cells, lines
  pub record Rest (t : List ℕ) : Type 0 where
    pub shared : ℕ
    pub cells : List ℕ
    pub cells_line : CellsLine shared cells
    pub lines : List ℕ
    pub body : Body
    pub spells : SpellsBody AnyName body lines
    pub is : t ≡ cells ++ lines

  -- refused in the text or at its end, and the bytes before it can go on
  pub record Begun (p : ℕ) : Type 0 where
    pub within : p ≤ length text
    pub before : Viable (take p text)

  viable : (ns : List (List ℕ)) (own : List ℕ) (i p : ℕ) → OwnLine ns own → ((k : ℕ) → k < length ns → IsName (get_or ns k [])) → text ≡ own ++ drop i text → i ≤ length text → Front text Rest i p → Begun p
  viable ns own i p l names e b f =
      let u : List ℕ = f.upto in
      let all : text ≡ (own ++ u) ++ drop p text = e ∙ ap (λ m. own ++ m) f.here ∙ sym (append_assoc own u (drop p text)) in
      let n : length own ≡ i = omega (arith, ap length e, length-append own (drop i text), length-drop i text) in
      let m : length (own ++ u) ≡ p = omega (arith, length-append own u, n, f.end_is) in
      let q : take p text ≡ own ++ u = ap (λ t. take p t) all ∙ take_at (own ++ u) (drop p text) p m in
      record {
        within = omega (arith, f.end_is, ap length f.here, length-append u (drop p text), length-drop i text, length-drop p text, b);
        before = record {
          rest = f.more;
          program = record { body = f.is.body; owns = length ns; shared = f.is.shared };
          names = ns;
          shape = record {
            own_part = own;
            cells_part = f.is.cells;
            body_part = f.is.lines;
            whole = ap (λ t. t ++ f.more) q ∙ append_assoc own u f.more ∙ ap (λ t. own ++ t) f.is.is;
            owned = refl;
            own_line = l;
            cells_line = f.is.cells_line;
            names = names;
            body = f.is.spells;
          };
        };
      }

  names_viable : (p : ℕ) → is_own_spec (key_at text 0) ≡ true → Front text Names 3 p → Begun p
  unfolding SpellsBody
  names_viable p h f =
      let b = (own-begins text h).0 in
      let u : List ℕ = f.upto in
      let ns : List (List ℕ) = f.is.tail.names in
      let all : text ≡ (codes "own" ++ u) ++ drop p text = b ∙ ap (λ m. codes "own" ++ m) f.here in
      let q : take p text ≡ codes "own" ++ u = ap (λ t. take p t) all ∙ take_at (codes "own" ++ u) (drop p text) p (omega (arith, f.end_is)) in
      record {
        within = omega (arith, f.end_is, ap length all, length-append u (drop p text), length-drop p text);
        before = record {
          rest = f.more;
          program = record { body = end; owns = length ns; shared = 0 };
          names = ns;
          shape = record {
            own_part = codes "own" ++ (spaced ns ++ (10 ∷ []));
            cells_part = [];
            body_part = [];
            whole = ap (λ t. t ++ f.more) q ∙ ap (λ t. codes "own" ++ t) f.is.tail.is ∙ sym (append-nil (codes "own" ++ (spaced ns ++ (10 ∷ []))));
            owned = refl;
            own_line = inr (f.is.some, refl);
            cells_line = inl (refl, refl);
            names = f.is.tail.each;
            body = refl;
          };
        };
      }

  own_viable : (p : ℕ) → own_at text ≡ Err (Shape p) → Begun p
  unfolding own_at
  own_viable p e =
      elim (cond_cases (is_own_spec (key_at text 0)) _ _ (Err (Shape p)) e) [
        | inl h ↦ names_viable p h.0 (front-names 66 [] 3 p (omega arith) (omega arith) h.1)
        | inr h ↦ let x = h.1 in let z : ◌≡◌ {A = ℕ} 0 1 = cc in absurd (omega arith)
      ]

  -- what is read lies in the text
  line_within : (e : ℕ) → eqb (get_or text e 0) 10 ≡ true → e + 1 ≤ length text
  line_within e h =
      elim (cases_lt e (length text)) [
        | inl l ↦ omega arith
        | inr l ↦ absurd (omega (arith, eqb-true (get_or text e 0) 10 h, get_or_past text e 0 l))
      ]

  names_within : (n : ℕ) (seen : List (List ℕ)) (i : ℕ) (f : Found) → names_at text n seen i ≡ Ok f → f.next ≤ length text
  unfolding names_at
  names_within zero seen i f h = absurd (not_err (Shape i) f h)
  names_within (suc n) seen i f h =
      let p = then-parts (bytes_at text (codes " ") i) _ f h in
      let q = then-parts (name_at seen text p.0) _ f p.2 in
      elim (cond_cases (eqb (get_or text q.0 0) 10) _ _ (Ok f) q.2) [
        | inl c ↦ let m : q.0 + 1 ≡ f.next = ap (λ (x : Found). x.next) (same_ok _ f c.1) in omega (arith, m, line_within q.0 c.0)
        | inr c ↦ names_within n (seen ++ (word_part text p.0 ∷ [])) q.0 f c.1
      ]

  own_within : (f : Found) → own_at text ≡ Ok f → f.next ≤ length text
  unfolding own_at
  own_within f e =
      elim (cond_cases (is_own_spec (key_at text 0)) _ _ (Ok f) e)
      [ inl h ↦ names_within 66 [] 3 f h.1 | inr h ↦ let m : 0 ≡ f.next = ap (λ (x : Found). x.next) (same_ok _ f h.1) in omega (arith, m) ]

  -- the line with the number of cells
  pub record CellsText (t : List ℕ) : Type 0 where
    pub many : ℕ
    pub number : List ℕ
    pub counts : IsNumber many number
    pub is : t ≡ codes "cells " ++ (number ++ (10 ∷ []))

  abbrev Number : List ℕ → Type 0
  Number t = (s : ℕ) × IsNumber s t

  zero_number : Number (codes "0")
  unfolding each_byte decimal
  zero_number = (0, record { some = omega arith; bytes = refl; value = refl })

  abbrev NumberEnd : List ℕ → Type 0
  NumberEnd = Both Number (Just (codes "\n"))

  number-end : NumberEnd (codes "0\n")
  number-end = record { left = codes "0"; right = codes "\n"; one = zero_number; two = refl; is = refl }

  cells_from : (t : List ℕ) → Both (Just (codes "cells ")) NumberEnd t → CellsText t
  cells_from t b =
      record {
        many = b.two.one.0;
        number = b.two.left;
        counts = b.two.one.1;
        is = b.is ∙ ap (λ m. m ++ b.right) b.one ∙ ap (λ m. codes "cells " ++ m) (b.two.is ∙ ap (λ m. b.two.left ++ m) b.two.two);
      }

  got_number : (j : ℕ) → digit (get_or text j 0) ≡ true → Got text Number j (j + run_of digit (drop j text))
  got_number j d =
      let n : 1 ≤ run_of digit (drop j text) = run-some digit text j refl d in
      let m : length (take (run_of digit (drop j text)) (drop j text)) ≡ run_of digit (drop j text) = run_length digit text j in
      record {
        bytes = take (run_of digit (drop j text)) (drop j text);
        is = (number_part text j, record { some = omega arith; bytes = run-each digit (drop j text); value = refl });
        here = run-splits digit text j;
        end_is = omega arith;
      }

  abbrev number_at : ℕ → ℕ → Result Head Refusal
  number_at i j =
      cond (digit (get_or text j 0))
      (cond (ltb 16384 (number_part text j)) (Err (ManyCells j))
      (cond (ltb 1024 ((j + run_of digit (drop j text)) - i)) (Err (Long (i + 1024)))
      (and_then (bytes_at text (codes "\n") (j + run_of digit (drop j text))) (λ n. Ok (record { many = number_part text j; next = n })))))
      (Err (Shape j))

  abbrev number_done : ℕ → ℕ → Result Head Refusal
  number_done j n = Ok (record { many = number_part text j; next = n })

  front-number : (i j p : ℕ) → number_at i j ≡ Err (Shape p) → Front text NumberEnd j p
  front-number i j p e =
      elim (cond_cases (digit (get_or text j 0)) _ _ (Err (Shape p)) e) [
        | inr h ↦ let x = h.1 in let n : j ≡ p = cc in rw (sym n) (front_none text NumberEnd j (codes "0\n") number-end)
        | inl h ↦ elim (cond_cases (ltb 16384 (number_part text j)) _ _ (Err (Shape p)) h.1) [
          | inl q ↦ let x = q.1 in let z : ◌≡◌ {A = ℕ} 0 1 = cc in absurd (omega arith)
          | inr q ↦ elim (cond_cases (ltb 1024 ((j + run_of digit (drop j text)) - i)) _ _ (Err (Shape p)) q.1) [
            | inl k ↦ let x = k.1 in let z : ◌≡◌ {A = ℕ} 0 1 = cc in absurd (omega arith)
            | inr k ↦
                elim (then-fails (bytes_at text (codes "\n") (j + run_of digit (drop j text))) (number_done j) (Shape p) k.1) [
                  | inl y ↦ front_second text Number (Just (codes "\n")) j (j + run_of digit (drop j text)) p (got_number j h.0) (front_bytes text (codes "\n") (j + run_of digit (drop j text)) p y)
                  | inr y ↦ let x = y.2 in let z : ◌≡◌ {A = ℕ} 0 1 = cc in absurd (omega arith)
                ]
          ]
        ]
      ]

  front-cells : (i p : ℕ) → cells_at text i ≡ Err (Shape p) → Front text CellsText i p
  unfolding cells_at
  front-cells i p e =
      elim (cond_cases (is_cells_spec (key_at text i)) _ _ (Err (Shape p)) e) [
        | inl h ↦
            front_map text (Both (Just (codes "cells ")) NumberEnd) CellsText i p cells_from
            (front_then text (Just (codes "cells ")) NumberEnd (λ j. j) i p (codes "0\n") (bytes_at text (codes "cells ") i) _ number-end (λ q. front_bytes text (codes "cells ") i q) (λ j. got_bytes text (codes "cells ") i j) (λ j _. front-number i j p) h.1)
        | inr h ↦ let x = h.1 in let z : ◌≡◌ {A = ℕ} 0 1 = cc in absurd (omega arith)
      ]

  cells_rest : (t : List ℕ) → CellsText t → Rest t
  unfolding SpellsBody
  cells_rest t c = record { shared = c.many; cells = t; cells_line = inr (c.number, c.counts, c.is); lines = []; body = end; spells = refl; is = sym (append-nil t) }

  cells-within : (i : ℕ) (h : Head) → cells_at text i ≡ Ok h → i ≤ length text → h.next ≤ length text
  unfolding cells_at
  cells-within i h e l =
      elim (cond_cases (is_cells_spec (key_at text i)) _ _ (Ok h) e) [
        | inr p ↦ let m : i ≡ h.next = ap (λ (x : Head). x.next) (same_ok _ h p.1) in omega (arith, m)
        | inl p ↦
            let a = then-parts (bytes_at text (codes "cells ") i) _ h p.1 in
            let j : ℕ = a.0 in
            elim (cond_cases (digit (get_or text j 0)) _ _ (Ok h) a.2) [
              | inr q ↦ absurd (not_err (Shape j) h q.1)
              | inl q ↦
                  elim (cond_cases (ltb 16384 (number_part text j)) _ _ (Ok h) q.1) [
                    | inl r ↦ absurd (not_err (ManyCells j) h r.1)
                    | inr r ↦
                        elim (cond_cases (ltb 1024 ((j + run_of digit (drop j text)) - i)) _ _ (Ok h) r.1) [
                          | inl s ↦ absurd (not_err (Long (i + 1024)) h s.1)
                          | inr s ↦
                              let b = then-parts (bytes_at text (codes "\n") (j + run_of digit (drop j text))) _ h s.1 in
                              let c = bytes-sound text (codes "\n") (j + run_of digit (drop j text)) b.0 b.1 in
                              let m : b.0 ≡ h.next = ap (λ (x : Head). x.next) (same_ok _ h b.2) in
                              omega (arith, m, c.1, ap length c.0, length-drop (j + run_of digit (drop j text)) text, length-drop b.0 text)
                        ]
                  ]
            ]
      ]

  -- the lines
  abbrev CelledThen : List ℕ → Type 0
  CelledThen = Both (λ c. (s : ℕ) × CellsLine s c) Bodied

  celled-rest : (t : List ℕ) → CelledThen t → Rest t
  celled-rest t b = record { shared = b.one.0; cells = b.left; cells_line = b.one.1; lines = b.right; body = b.two.lines; spells = b.two.spells; is = b.is }

  got-cells : (i : ℕ) (h : Head) → Celled text i h → i ≤ length text → h.next ≤ length text → Got text (λ c. (s : ℕ) × CellsLine s c) i h.next
  got-cells i h c l m =
      record { bytes = c.part; is = (h.many, c.line); here = c.here; end_is = omega (arith, ap length c.here, length-append c.part (drop h.next text), length-drop i text, length-drop h.next text) }

  whole_front : (o : ℕ) (find : List ℕ → Option ℕ) (finds : (k : ℕ) (u : List ℕ) → find u ≡ Some k → AnyName k u × (k < o)) (i left p : ℕ) (E : Ending) (s : Stop) → s.ending ≡ E → Gone text find o finds i false left s → must_as Text E s ≡ Err (Shape p) → Front text Bodied i p
  whole_front o find finds i left p Text s q g e = let z : ◌≡◌ {A = ℕ} 0 1 = cc in absurd (omega arith)
  whole_front o find finds i left p Else s q g e =
      let n : s.next - 1 ≡ p = cc in
      rw (sym n) (lines_then text find o finds i s.pos (s.next - 1) g.lines (word_front text find o finds kw.Else s.pos s.next (rw q at g.ending)))
  whole_front o find finds i left p End s q g e =
      let n : s.next - 1 ≡ p = cc in
      rw (sym n) (lines_then text find o finds i s.pos (s.next - 1) g.lines (word_front text find o finds kw.End s.pos s.next (rw q at g.ending)))

  pub read-viable : (p : ℕ) → read_at text ≡ Err (Shape p) → Begun p
  unfolding read_at
  read-viable p e =
      elim (then-fails (own_at text) _ (Shape p) e) [
        | inl a ↦ own_viable p a
        | inr a ↦
            let f = a.0 in
            let w = own-sound text f a.1 in
            let b = own_within f a.1 in
            let finds : (k : ℕ) (u : List ℕ) → place_in f.names u ≡ Some k → AnyName k u × (k < length f.names) = λ k u q. let n = place-named f.names u k q in (named-name f.names text w.names_in k u n, n.0) in
            viable f.names w.part f.next p w.line w.names_in.names w.here b
            (elim (then-fails (cells_at text f.next) _ (Shape p) a.2) [
              | inl c ↦ front_map text CellsText Rest f.next p cells_rest (front-cells f.next p c)
              | inr c ↦
                  let h = c.0 in
                  let d = cells-within f.next h c.1 b in
                  let k = block_walk text (place_in f.names) (length f.names) finds 1025 16 (1024 - head_lines_spec f.next h.next) h.next false (omega arith) in
                  front_map text CelledThen Rest f.next p celled-rest
                  (front_second text (λ c. (s : ℕ) × CellsLine s c) Bodied f.next h.next p (got-cells f.next h (cells-sound text f.next h c.1) b d)
                  (elim (then-fails (block_at (place_in f.names) text 1025 16 (1024 - head_lines_spec f.next h.next) h.next false) _ (Shape p) c.2) [
                    | inl m ↦ k.bad p m
                    | inr m ↦
                        elim (then-fails (whole m.0) _ (Shape p) m.2) [
                          | inl y ↦ whole_front (length f.names) (place_in f.names) finds h.next (1024 - head_lines_spec f.next h.next) p m.0.ending m.0 refl (k.good m.0 m.1) y
                          | inr y ↦ let x = y.2 in let z : ◌≡◌ {A = ℕ} 0 1 = cc in absurd (omega arith)
                        ]
                  ]))
            ])
      ]
