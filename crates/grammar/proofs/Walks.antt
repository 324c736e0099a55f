-- What the code finds at an index is what the functions of specs/Walk say.
use Rattle.std.proofs.Common.{◌≡◌, ℕ, zero, suc, ◌+◌, ◌-◌, ◌<◌, ◌≤◌, ◌≢◌, Bool, true, false, cond, ◌⊎◌, List, [], ◌∷◌, length, leb, get_or, take, drop, Some, None, Ok, Err, codes, Decides, Option, sym, refl, ap, ◌∙◌, inl, inr, arith, rules, MatchOption}
use Rattle.std.proofs.lemmas.List.{take-append-drop, length-take-le, length-drop, drop_all, at_drop_more, get_or_past}
use Rattle.std.proofs.lemmas.Slice.Eq.{compares_Decides}
use Rattle.std.proofs.lemmas.Bool.Decides.{nat_tests}
use Rattle.std.proofs.lemmas.Bool.{eq-eqb, ne_eqb, cases_lt, cases_Bool, cond-true, cond-false}
use Rattle.grammar.specs.Spelling.{letter, word_byte, each_byte, same_bytes}
use Rattle.grammar.specs.Runs.{run_of, written}
use Rattle.grammar.specs.Words.{WordEnd}
use Rattle.grammar.specs.Names.{PlaceOf, FirstAt}
use Rattle.grammar.specs.Walk.{place_in, key_of, one_more, short_word_at, word_at, word_part, key_at, and_then, some_token, stands, same_at, bytes_at}
use Rattle.grammar.specs.declared.refusals.Refusal.TheVariants.{Shape}
use Rattle.grammar.specs.declared.keywords.Keyword.{Keyword}
use Rattle.grammar.specs.declared.keywords.Keyword.TheVariants.{Own, Cells, Cell, Field, Barrier, If, Else, End, While, Lane, Group, Lanes}
use Rattle.grammar.proofs.Atoms.{then-err, then_ok}
use Rattle.grammar.specs.declared.refusals.Refusal.{Refusal}
use Rattle.grammar.proofs.Runs.{run_step, run-stop, run-nil, run_is}
use Rattle.grammar.proofs.Scanned.{byte_at, at_part, behind-part, word-ends}
use Rattle.std.specs.List.{prefix_len, zip}

-- the same bytes
pub same-decides : (u w : List ℕ) → Decides (same_bytes u w) (u ≡ w)
unfolding same_bytes
same-decides u w = compares_Decides same_bytes (search rules) u w

either_way : (b : Bool) → (b ≡ true) ⊎ (b ≡ false)
either_way true = inl refl
either_way false = inr refl

pub same_not : (u w : List ℕ) → (w ≡ u → ⊥) → same_bytes u w ≡ false
same_not u w h = elim (either_way (same_bytes u w)) [ inl p ↦ absurd (h (sym ((same-decides u w).0 p))) | inr p ↦ p ]

-- a run
each_step : (f : ℕ → Bool) (b : ℕ) (bs : List ℕ) (x : Bool) → f b ≡ x → each_byte f (take (run_of f bs) bs) ≡ true → each_byte f (take (run_of f (b ∷ bs)) (b ∷ bs)) ≡ true
unfolding each_byte
each_step f b bs true e h = rw (run_step f b bs e) (rw e h)
each_step f b bs false e h = rw (run-stop f b bs e) refl

pub run-each : (f : ℕ → Bool) (l : List ℕ) → each_byte f (take (run_of f l) l) ≡ true
unfolding each_byte
run-each f [] = rw (run-nil f) refl
run-each f (b ∷ bs) = each_step f b bs (f b) refl (run-each f bs)

le_step : (f : ℕ → Bool) (b : ℕ) (bs : List ℕ) (x : Bool) → f b ≡ x → run_of f bs ≤ length bs → run_of f (b ∷ bs) ≤ length (b ∷ bs)
le_step f b bs true e h = omega (arith, run_step f b bs e, h)
le_step f b bs false e h = omega (arith, run-stop f b bs e)

pub run-le : (f : ℕ → Bool) (l : List ℕ) → run_of f l ≤ length l
run-le f [] = omega (arith, run-nil f)
run-le f (b ∷ bs) = le_step f b bs (f b) refl (run-le f bs)

apart-step : (f : ℕ → Bool) (b : ℕ) (bs : List ℕ) (x : Bool) → f b ≡ x → f (get_or (drop (run_of f bs) bs) 0 0) ≡ false → f (get_or (drop (run_of f (b ∷ bs)) (b ∷ bs)) 0 0) ≡ false
apart-step f b bs true e h = rw (run_step f b bs e) h
apart-step f b bs false e h = rw (run-stop f b bs e) e

pub run-apart : (f : ℕ → Bool) → f 0 ≡ false → (l : List ℕ) → f (get_or (drop (run_of f l) l) 0 0) ≡ false
run-apart f z [] = rw (run-nil f) z
run-apart f z (b ∷ bs) = apart-step f b bs (f b) refl (run-apart f z bs)

pub word_end_run : (text : List ℕ) (i r : ℕ) → WordEnd text i r → r ≡ i + run_of word_byte (drop i text)
word_end_run text i r w =
    let n : ℕ = run_of word_byte (drop i text) in
    let e = word-ends text i r (take n (drop i text)) (drop n (drop i text)) w (sym (take-append-drop n (drop i text))) (run-each word_byte (drop i text)) (run-apart word_byte refl (drop i text)) in
    omega (arith, e, length-take-le n (drop i text) (run-le word_byte (drop i text)))

-- A run of letters and digits is a word that ends.
pub word_ended : (text : List ℕ) (i : ℕ) → WordEnd text i (i + prefix_len word_byte (drop i text))
word_ended text i =
    let r : List ℕ = drop i text in
    let n : ℕ = run_of word_byte r in
    rw (← run_is word_byte r) (record {
      from = omega arith;
      within = λ h. omega (arith, h, run-le word_byte r, length-drop i text);
      word = λ k a b.
          let l : k - i < length (take n r) = omega (arith, a, b, length-take-le n r (run-le word_byte r)) in
          let e : get_or text (i + (k - i)) 0 ≡ get_or (take n r) (k - i) 0 = at_part text (take n r) (drop n r) i (k - i) (sym (take-append-drop n r)) l in
          ap (λ m. word_byte (get_or text m 0)) (omega (arith, a)) ∙ ap word_byte e ∙ byte_at word_byte (take n r) (k - i) (run-each word_byte r) l;
      apart =
          let e : get_or text (i + (length (take n r) + 0)) 0 ≡ get_or (drop n r) 0 0 = behind-part text (take n r) (drop n r) i 0 (sym (take-append-drop n r)) in
          ap (λ m. word_byte (get_or text m 0)) (omega (arith, length-take-le n r (run-le word_byte r))) ∙ ap word_byte e ∙ run-apart word_byte refl r;
    })

-- a word of the language
abbrev pub Keyed : List ℕ → Option Keyword → Type 0
Keyed w r = MatchOption r ((k : Keyword) → w ≡ written k → ⊥) (λ k. w ≡ written k)

pub key-written : (k : Keyword) → key_of (written k) ≡ Some k
unfolding key_of same_bytes
key-written Own = refl
key-written Cells = refl
key-written Cell = refl
key-written Field = refl
key-written Barrier = refl
key-written If = refl
key-written Else = refl
key-written End = refl
key-written While = refl
key-written Lane = refl
key-written Group = refl
key-written Lanes = refl

key-none : (w : List ℕ) → ((k : Keyword) → w ≡ written k → ⊥) → key_of w ≡ None
unfolding key_of
key-none w h =
    rw (
      same_not (codes "own") w (h Own),
      same_not (codes "cells") w (h Cells),
      same_not (codes "cell") w (h Cell),
      same_not (codes "field") w (h Field),
      same_not (codes "barrier") w (h Barrier),
      same_not (codes "if") w (h If),
      same_not (codes "else") w (h Else),
      same_not (codes "end") w (h End),
      same_not (codes "while") w (h While),
      same_not (codes "lane") w (h Lane),
      same_not (codes "group") w (h Group),
      same_not (codes "lanes") w (h Lanes),
    )

pub key_is : (w : List ℕ) (r : Option Keyword) → Keyed w r → r ≡ key_of w
key_is w None h = sym (key-none w h)
key_is w (Some k) h = rw h (sym (key-written k))

-- the place of a name
place-cons : (n : List ℕ) (ns : List (List ℕ)) (u : List ℕ) (x : Bool) → same_bytes n u ≡ x → place_in (n ∷ ns) u ≡ cond x (Some 0) (one_more (place_in ns u))
unfolding place_in
place-cons n ns u x e = rw e

later : (n : List ℕ) (ns : List (List ℕ)) (u : List ℕ) (k : ℕ) → FirstAt (n ∷ ns) u (suc k) → FirstAt ns u k
later n ns u k p = record { there = omega (arith, p.there); is = p.is; first = λ j h. p.first (suc j) (omega arith) }

place-step : (n : List ℕ) (ns : List (List ℕ)) (u : List ℕ) (r : Option ℕ) → ((s : Option ℕ) → PlaceOf ns u s → s ≡ place_in ns u) → PlaceOf (n ∷ ns) u r → r ≡ place_in (n ∷ ns) u
place-step n ns u None ih p =
    elim (either_way (same_bytes n u)) [
      | inl e ↦ absurd (p 0 (omega arith) ((same-decides n u).0 e))
      | inr e ↦ rw (place-cons n ns u false e, ← ih None (λ k h. p (suc k) (omega arith))) refl
    ]
place-step n ns u (Some zero) ih p = rw (place-cons n ns u true ((same-decides n u).1 p.is)) refl
place-step n ns u (Some (suc k)) ih p =
    elim (either_way (same_bytes n u)) [
      | inl e ↦ absurd (p.first 0 (omega arith) ((same-decides n u).0 e))
      | inr e ↦ rw (place-cons n ns u false e, ← ih (Some k) (later n ns u k p)) refl
    ]

place-nil : (u : List ℕ) (r : Option ℕ) → PlaceOf [] u r → r ≡ place_in [] u
unfolding place_in
place-nil u None p = refl
place-nil u (Some k) p = absurd (omega (arith, p.there))

pub place_is : (ns : List (List ℕ)) (u : List ℕ) (r : Option ℕ) → PlaceOf ns u r → r ≡ place_in ns u
place_is [] u r p = place-nil u r p
place_is (n ∷ ns) u r p = place-step n ns u r (place_is ns u) p

pub key_here : (text : List ℕ) (i r : ℕ) (k : Option Keyword) → WordEnd text i r → Keyed (take (r - i) (drop i text)) k → k ≡ key_at text i
key_here text i r k w q = key_is (take (r - i) (drop i text)) k q ∙ ap (λ m. key_of (take m (drop i text))) (omega (arith, word_end_run text i r w))

-- the word at a byte
module _ (text : List ℕ) (i : ℕ) where
  pub word_by : (find : List ℕ → Option ℕ) → word_at find text i ≡ and_then (short_word_at text i) (λ r. some_token (key_at text i) (find (word_part text i)) i r)
  unfolding word_at short_word_at
  word_by find =
      elim (cases_Bool (letter (get_or text i 0))) [
        | inl p ↦ elim (cases_Bool (leb 9 (run_of word_byte (drop i text)))) [ inl q ↦ rw (p, q) refl | inr q ↦ rw (p, q) refl ]
        | inr p ↦ rw p refl
      ]

  pub word_err : (find : List ℕ → Option ℕ) (e : Refusal) → Err e ≡ short_word_at text i → Err e ≡ word_at find text i
  word_err find e h = rw (word_by find) (then-err (short_word_at text i) _ e h)

  pub word_is : (find : List ℕ → Option ℕ) (r : ℕ) (k : Option Keyword) (o : Option ℕ) → Ok r ≡ short_word_at text i → WordEnd text i r
      → Keyed (take (r - i) (drop i text)) k → o ≡ find (take (r - i) (drop i text)) → some_token k o i r ≡ word_at find text i
  word_is find r k o h w q e =
      let g : k ≡ key_at text i = key_here text i r k w q in
      let f : o ≡ find (word_part text i) = e ∙ ap (λ m. find (take m (drop i text))) (omega (arith, word_end_run text i r w)) in
      rw (g, f, word_by find) (then_ok (short_word_at text i) (λ m. some_token (key_at text i) (find (word_part text i)) i m) r h)

-- wanted bytes
pub bytes-more : (text : List ℕ) (bs : List ℕ) (b i : ℕ) → get_or text i 0 ≡ b → (b ≡ 0 → ⊥) → bytes_at text (b ∷ bs) i ≡ bytes_at text bs (i + 1)
unfolding bytes_at
bytes-more text bs b i e z = rw (eq-eqb (get_or text i 0) b e, ne_eqb b 0 z)

none_stand : (l : List ℕ) → prefix_len stands (zip l []) ≡ 0
none_stand [] = refl
none_stand (x ∷ xs) = refl

past_stands : (x b : ℕ) → x ≡ 0 → stands (x, b) ≡ false
past_stands x b z = grind (arith, nat_tests)

same_step : (text bs : List ℕ) (b i : ℕ) → same_at text i (b ∷ bs) ≡ cond (stands (get_or text i 0, b)) (1 + same_at text (i + 1) bs) 0
same_step text bs b i =
    elim (cases_lt i (length text)) [
      | inl lt ↦ at_drop_more (λ l. prefix_len stands (zip l (b ∷ bs))) text i 0 lt
      | inr le ↦ rw (drop_all i text le) (rw (past_stands (get_or text i 0) b (get_or_past text i 0 le)) refl)
    ]

same_on : (text bs : List ℕ) (b i : ℕ) → stands (get_or text i 0, b) ≡ true → same_at text i (b ∷ bs) ≡ 1 + same_at text (i + 1) bs
same_on text bs b i p = same_step text bs b i ∙ cond-true (stands (get_or text i 0, b)) (1 + same_at text (i + 1) bs) 0 p

same_off : (text bs : List ℕ) (b i : ℕ) → stands (get_or text i 0, b) ≡ false → same_at text i (b ∷ bs) ≡ 0
same_off text bs b i p = same_step text bs b i ∙ cond-false (stands (get_or text i 0, b)) (1 + same_at text (i + 1) bs) 0 p

pub bytes_all : (text bs : List ℕ) (i n : ℕ) → n ≡ same_at text i bs → n ≡ length bs → Ok (i + n) ≡ bytes_at text bs i
unfolding bytes_at
bytes_all text [] i n s e = ap Ok (omega arith)
bytes_all text (b ∷ bs) i n s e =
    elim (cases_Bool (stands (get_or text i 0, b))) [
      | inl p ↦ rw p (ap Ok (omega arith) ∙ bytes_all text bs (i + 1) (n - 1) (omega (arith, same_on text bs b i p)) (omega arith))
      | inr p ↦ absurd (omega (arith, same_off text bs b i p))
    ]

pub bytes_part : (text bs : List ℕ) (i n : ℕ) → n ≡ same_at text i bs → n ≢ length bs → Err (Shape (i + n)) ≡ bytes_at text bs i
unfolding bytes_at
bytes_part text [] i n s e = absurd (e (s ∙ none_stand (drop i text)))
bytes_part text (b ∷ bs) i n s e =
    elim (cases_Bool (stands (get_or text i 0, b))) [
      | inl p ↦ rw p (ap (λ m. Err (Shape m)) (omega (arith, same_on text bs b i p)) ∙ bytes_part text bs (i + 1) (n - 1) (omega (arith, same_on text bs b i p)) (λ q. e (omega (arith, q, same_on text bs b i p))))
      | inr p ↦ rw p (ap (λ m. Err (Shape m)) (omega (arith, same_off text bs b i p)))
    ]

key-nil : None ≡ key_of (take (run_of word_byte []) [])
unfolding key_of same_bytes run_of
key-nil = refl

pub key-past : (text : List ℕ) (i : ℕ) → length text ≤ i → None ≡ key_at text i
key-past text i h = rw (drop_all i text h) key-nil
