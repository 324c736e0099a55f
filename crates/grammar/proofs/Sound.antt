-- What is read as an expression spells one.
use Rattle.std.proofs.Common.{◌≡◌, ℕ, ◌+◌, ◌≤◌, Bool, true, false, cond, not, ◌&&◌, eqb, leb, ◌⊎◌, List, [], ◌∷◌, ◌++◌, length, get_or, take, drop, Some, None, Ok, Err, codes, Option, Result, sym, refl, ap, ◌∙◌, inl, inr, add-zero, arith}
use Rattle.std.proofs.lemmas.List.{take-append-drop, drop-drop, drop_more, get_or_past, get_or-drop, length-take-le, get_or-take}
use Rattle.std.proofs.lemmas.Bool.{and_parts, cases_lt, leb-false, eqb-true, eqb-false, not-true, cond_both}
use Rattle.std.proofs.lemmas.Bool.Decides.{nat_tests}
use Rattle.grammar.specs.Spelling.{letter, word_byte, same_bytes}
use Rattle.grammar.specs.Runs.{run_of, written}
use Rattle.grammar.specs.Walk.{key_of, key_at, word_part, word_at, some_token, bytes_at, and_then}
use Rattle.grammar.specs.declared.refusals.Refusal.{Refusal}
use Rattle.grammar.specs.declared.refusals.Refusal.TheVariants.{Shape, Unknown}
use Rattle.grammar.specs.declared.keywords.Keyword.{Keyword}
use Rattle.grammar.specs.declared.tokens.Token.{Token}
use Rattle.grammar.specs.declared.tokens.Word.{Word}
use Rattle.grammar.specs.declared.tokens.Word.TheVariants as word
use Rattle.grammar.proofs.Runs.{run_step}
use Rattle.grammar.proofs.Walks.{same-decides, run-le}

-- a test that was passed or not
pub cond_cases : {A : Type 0} (b : Bool) (x y v : A) → cond b x y ≡ v → ((b ≡ true) × (x ≡ v)) ⊎ ((b ≡ false) × (y ≡ v))
cond_cases true x y v e = inl (refl, e)
cond_cases false x y v e = inr (refl, e)

-- two steps that went well
pub then-parts : {X Y : Type 0} (r : Result X Refusal) (f : X → Result Y Refusal) (y : Y) → and_then r f ≡ Ok y → (x : X) × (r ≡ Ok x) × (f x ≡ Ok y)
then-parts (Ok x) f y e = (x, refl, e)
then-parts (Err d) f y e = let z : ◌≡◌ {A = ℕ} 0 1 = cc in absurd (omega arith)

pub not_err : {X : Type 0} (d : Refusal) (x : X) → Err d ≡ Ok x → ⊥
not_err d x e = let z : ◌≡◌ {A = ℕ} 0 1 = cc in omega arith

pub same_ok : {X : Type 0} (x y : X) → ◌≡◌ {A = Result X Refusal} (Ok x) (Ok y) → x ≡ y
same_ok x y e = cc

-- a byte that is not 0 is there
pub peel : (text : List ℕ) (i : ℕ) → (get_or text i 0 ≡ 0 → ⊥) → drop i text ≡ get_or text i 0 ∷ drop (i + 1) text
peel text i h = elim (cases_lt i (length text)) [ inl p ↦ drop_more text i 0 p | inr p ↦ absurd (h (get_or_past text i 0 p)) ]

pub bytes-sound : (text : List ℕ) (w : List ℕ) (i j : ℕ) → bytes_at text w i ≡ Ok j → (drop i text ≡ w ++ drop j text) × (j ≡ i + length w)
unfolding bytes_at
bytes-sound text [] i j e = let q : i ≡ j = same_ok i j e in (ap (λ m. drop m text) q, omega arith)
bytes-sound text (b ∷ w) i j e =
    elim (cond_cases (eqb (get_or text i 0) b && not (eqb b 0)) (bytes_at text w (i + 1)) (Err (Shape i)) (Ok j) e) [
      | inl p ↦
          let q = and_parts (eqb (get_or text i 0) b) (not (eqb b 0)) p.0 in
          let s : get_or text i 0 ≡ b = eqb-true (get_or text i 0) b q.0 in
          let n : eqb b 0 ≡ false = not-true (eqb b 0) q.1 in
          let t : (get_or text i 0 ≡ 0 → ⊥) = λ z. eqb-false b 0 n (sym s ∙ z) in
          let r = bytes-sound text w (i + 1) j p.1 in
          (peel text i t ∙ ap (λ m. m ∷ drop (i + 1) text) s ∙ ap (λ m. b ∷ m) r.0, omega (arith, r.1))
      | inr p ↦ absurd (not_err (Shape i) j p.1)
    ]

-- a run of bytes, and what is behind it
pub run-splits : (f : ℕ → Bool) (text : List ℕ) (i : ℕ) → drop i text ≡ take (run_of f (drop i text)) (drop i text) ++ drop (i + run_of f (drop i text)) text
run-splits f text i = sym (take-append-drop (run_of f (drop i text)) (drop i text)) ∙ ap (λ t. take (run_of f (drop i text)) (drop i text) ++ t) (drop-drop (run_of f (drop i text)) i text)

pub run_length : (f : ℕ → Bool) (text : List ℕ) (i : ℕ) → length (take (run_of f (drop i text)) (drop i text)) ≡ run_of f (drop i text)
run_length f text i = length-take-le (run_of f (drop i text)) (drop i text) (run-le f (drop i text))

pub run-some : (f : ℕ → Bool) (text : List ℕ) (i : ℕ) → f 0 ≡ false → f (get_or text i 0) ≡ true → 1 ≤ run_of f (drop i text)
run-some f text i z h =
    let n : (get_or text i 0 ≡ 0 → ⊥) = λ e. let q : ◌≡◌ {A = Bool} true false = sym h ∙ ap f e ∙ z in grind arith in
    omega (arith, ap (λ t. run_of f t) (peel text i n) ∙ run_step f (get_or text i 0) (drop (i + 1) text) h)

run-first : (f : ℕ → Bool) (text : List ℕ) (i : ℕ) → 1 ≤ run_of f (drop i text) → get_or (take (run_of f (drop i text)) (drop i text)) 0 0 ≡ get_or text i 0
run-first f text i h = get_or-take (run_of f (drop i text)) (drop i text) 0 0 h ∙ get_or-drop i text 0 0 ∙ ap (λ m. get_or text m 0) (add-zero i)

-- a word of the language is written so
abbrev KeySays : List ℕ → Option Keyword → Type 0
KeySays u None = Unit {0}
KeySays u (Some k) = u ≡ written k

key-says : (u : List ℕ) → KeySays u (key_of u)
unfolding key_of
key-says u =
    let P : Option Keyword → Type 0 = KeySays u in
    cond_both (same_bytes (codes "own") u) _ _ P (λ h. sym ((same-decides (codes "own") u).0 h)) (λ _.
    cond_both (same_bytes (codes "cells") u) _ _ P (λ h. sym ((same-decides (codes "cells") u).0 h)) (λ _.
    cond_both (same_bytes (codes "cell") u) _ _ P (λ h. sym ((same-decides (codes "cell") u).0 h)) (λ _.
    cond_both (same_bytes (codes "field") u) _ _ P (λ h. sym ((same-decides (codes "field") u).0 h)) (λ _.
    cond_both (same_bytes (codes "barrier") u) _ _ P (λ h. sym ((same-decides (codes "barrier") u).0 h)) (λ _.
    cond_both (same_bytes (codes "if") u) _ _ P (λ h. sym ((same-decides (codes "if") u).0 h)) (λ _.
    cond_both (same_bytes (codes "else") u) _ _ P (λ h. sym ((same-decides (codes "else") u).0 h)) (λ _.
    cond_both (same_bytes (codes "end") u) _ _ P (λ h. sym ((same-decides (codes "end") u).0 h)) (λ _.
    cond_both (same_bytes (codes "while") u) _ _ P (λ h. sym ((same-decides (codes "while") u).0 h)) (λ _.
    cond_both (same_bytes (codes "lane") u) _ _ P (λ h. sym ((same-decides (codes "lane") u).0 h)) (λ _.
    cond_both (same_bytes (codes "group") u) _ _ P (λ h. sym ((same-decides (codes "group") u).0 h)) (λ _.
    cond_both (same_bytes (codes "lanes") u) _ _ P (λ h. sym ((same-decides (codes "lanes") u).0 h)) (λ _. tt))))))))))))

pub key-sound : (u : List ℕ) (k : Keyword) → key_of u ≡ Some k → u ≡ written k
key-sound u k e = rw e at (key-says u)

-- the word at a byte
abbrev pub WordSays : (List ℕ → Option ℕ) → List ℕ → Word → Type 0
WordSays find u (word.Own k) = (key_of u ≡ None) × (find u ≡ Some k)
WordSays find u (word.Key k) = u ≡ written k

pub record Worded (find : List ℕ → Option ℕ) (text : List ℕ) (i : ℕ) (t : Token) : Type 0 where
  pub here : drop i text ≡ word_part text i ++ drop t.end text
  pub end_is : t.end ≡ i + length (word_part text i)
  pub says : WordSays find (word_part text i) t.word
  pub some : 1 ≤ length (word_part text i)
  pub short : length (word_part text i) ≤ 8
  pub begins : letter (get_or (word_part text i) 0 0) ≡ true

token-says : (find : List ℕ → Option ℕ) (u : List ℕ) (k : Option Keyword) (o : Option ℕ) (i j : ℕ) (t : Token) → key_of u ≡ k → find u ≡ o → some_token k o i j ≡ Ok t → (t.end ≡ j) × WordSays find u t.word
token-says find u None None i j t p q e = absurd (not_err (Unknown i) t e)
token-says find u None (Some m) i j t p q e = let r = same_ok _ t e in rw (sym r) (refl, (p, q))
token-says find u (Some k) o i j t p q e = let r = same_ok _ t e in rw (sym r) (refl, key-sound u k p)

letter-word : (b : ℕ) → letter b ≡ true → word_byte b ≡ true
letter-word b h = grind (arith, nat_tests)

module _ (find : List ℕ → Option ℕ) (text : List ℕ) where
  worded : (i : ℕ) (t : Token) → letter (get_or text i 0) ≡ true → leb 9 (run_of word_byte (drop i text)) ≡ false
      → some_token (key_at text i) (find (word_part text i)) i (i + run_of word_byte (drop i text)) ≡ Ok t → Worded find text i t
  worded i t l s e =
      let q = token-says find (word_part text i) (key_at text i) (find (word_part text i)) i (i + run_of word_byte (drop i text)) t refl refl e in
      let n : 1 ≤ run_of word_byte (drop i text) = run-some word_byte text i refl (letter-word (get_or text i 0) l) in
      let m : length (word_part text i) ≡ run_of word_byte (drop i text) = run_length word_byte text i in
      record {
        here = run-splits word_byte text i ∙ ap (λ m. word_part text i ++ drop m text) (sym q.0);
        end_is = omega (arith, q.0);
        says = q.1;
        some = omega arith;
        short = omega (arith, leb-false 9 (run_of word_byte (drop i text)) s);
        begins = ap letter (run-first word_byte text i n) ∙ l;
      }

  pub word_sound : (i : ℕ) (t : Token) → word_at find text i ≡ Ok t → Worded find text i t
  unfolding word_at
  word_sound i t e =
      elim (cond_cases (letter (get_or text i 0)) _ _ (Ok t) e) [
        | inl p ↦ elim (cond_cases (leb 9 (run_of word_byte (drop i text))) _ _ (Ok t) p.1) [ inl q ↦ absurd (not_err (Shape (i + 8)) t q.1) | inr q ↦ worded i t p.0 q.0 q.1 ]
        | inr p ↦ absurd (not_err (Shape i) t p.1)
      ]
