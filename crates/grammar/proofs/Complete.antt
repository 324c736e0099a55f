-- What is spelled at a byte is read there.
use Rattle.std.proofs.Common.{◌≡◌, ℕ, suc, ◌+◌, ◌≤◌, Bool, true, false, not, eqb, List, [], ◌∷◌, ◌++◌, length, get_or, take, drop, None, Ok, codes, Option, sym, refl, ap, ◌∙◌, add-zero, arith}
use Rattle.std.proofs.lemmas.List.{drop-drop, drop_at, take_at, get_or-drop}
use Rattle.std.proofs.lemmas.Bool.{and_parts, or_parts, lt-leb, eq-eqb}
use Rattle.std.proofs.lemmas.Bool.Decides.{nat_tests}
use Rattle.grammar.specs.Spelling.{letter, digit, word_byte, each_byte, same_bytes, one_of, keywords}
use Rattle.grammar.specs.Stands.{Apart}
use Rattle.grammar.specs.Runs.{run_of}
use Rattle.grammar.specs.Walk.{key_of, word_part, word_at, some_token, bytes_at}
use Rattle.grammar.specs.declared.keywords.Keyword.{Keyword}
use Rattle.grammar.proofs.Runs.{run_step, run_none}

-- reading on in a text
pub first_byte : (text : List ℕ) (i b : ℕ) (z : List ℕ) → drop i text ≡ b ∷ z → get_or text i 0 ≡ b
first_byte text i b z e = ap (λ m. get_or text m 0) (sym (add-zero i)) ∙ sym (get_or-drop i text 0 0) ∙ ap (λ t. get_or t 0 0) e

pub past : (text : List ℕ) (i : ℕ) (u z : List ℕ) → drop i text ≡ u ++ z → drop (i + length u) text ≡ z
past text i u z e = sym (drop-drop (length u) i text) ∙ ap (λ t. drop (length u) t) e ∙ drop_at u z (length u) refl

pub past-byte : (text : List ℕ) (i b : ℕ) (z : List ℕ) → drop i text ≡ b ∷ z → drop (i + 1) text ≡ z
past-byte text i b z e = past text i (b ∷ []) z e

-- wanted bytes
abbrev pub nonzero_byte : ℕ → Bool
nonzero_byte b = not (eqb b 0)

bytes-step : (text : List ℕ) (i b : ℕ) (w : List ℕ) → nonzero_byte b ≡ true → get_or text i 0 ≡ b → bytes_at text (b ∷ w) i ≡ bytes_at text w (i + 1)
unfolding bytes_at
bytes-step text i b w n e = rw (eq-eqb (get_or text i 0) b e, n) refl

bytes-nil : (text : List ℕ) (i : ℕ) → bytes_at text [] i ≡ Ok (i + 0)
unfolding bytes_at
bytes-nil text i = ap (λ m. Ok m) (sym (add-zero i))

pub bytes-done : (text : List ℕ) (i : ℕ) (w z : List ℕ) → each_byte nonzero_byte w ≡ true → drop i text ≡ w ++ z → bytes_at text w i ≡ Ok (i + length w)
unfolding each_byte
bytes-done text i [] z n e = bytes-nil text i
bytes-done text i (b ∷ w) z n e =
    bytes-step text i b w (and_parts (nonzero_byte b) (each_byte nonzero_byte w) n).0 (first_byte text i b (w ++ z) e)
    ∙ bytes-done text (i + 1) w z (and_parts (nonzero_byte b) (each_byte nonzero_byte w) n).1 (past-byte text i b (w ++ z) e)
    ∙ ap (λ m. Ok m) (omega arith)

-- a run of bytes
pub run-append : (f : ℕ → Bool) (u z : List ℕ) → each_byte f u ≡ true → f (get_or z 0 0) ≡ false → run_of f (u ++ z) ≡ length u
unfolding each_byte
run-append f [] z h a = run_none f z 0 a
run-append f (b ∷ u) z h a =
    run_step f b (u ++ z) (and_parts (f b) (each_byte f u) h).0 ∙ ap (λ m. suc m) (run-append f u z (and_parts (f b) (each_byte f u) h).1 a)

pub run-here : (f : ℕ → Bool) (text : List ℕ) (i : ℕ) (u z : List ℕ) → each_byte f u ≡ true → f (get_or z 0 0) ≡ false → drop i text ≡ u ++ z → run_of f (drop i text) ≡ length u
run-here f text i u z h a e = ap (λ t. run_of f t) e ∙ run-append f u z h a

pub part-here : (f : ℕ → Bool) (text : List ℕ) (i : ℕ) (u z : List ℕ) → each_byte f u ≡ true → f (get_or z 0 0) ≡ false → drop i text ≡ u ++ z → take (run_of f (drop i text)) (drop i text) ≡ u
part-here f text i u z h a e = rw (run-here f text i u z h a e) (ap (λ t. take (length u) t) e ∙ take_at u z (length u) refl)

-- a name is no word of the language
pub key-free : (u : List ℕ) → one_of keywords u ≡ false → key_of u ≡ None
unfolding key_of one_of keywords
key-free u h =
    let a0 = or_parts (same_bytes (codes "own") u) _ h in
    let a1 = or_parts (same_bytes (codes "cells") u) _ a0.1 in
    let a2 = or_parts (same_bytes (codes "cell") u) _ a1.1 in
    let a3 = or_parts (same_bytes (codes "field") u) _ a2.1 in
    let a4 = or_parts (same_bytes (codes "barrier") u) _ a3.1 in
    let a5 = or_parts (same_bytes (codes "if") u) _ a4.1 in
    let a6 = or_parts (same_bytes (codes "else") u) _ a5.1 in
    let a7 = or_parts (same_bytes (codes "end") u) _ a6.1 in
    let a8 = or_parts (same_bytes (codes "while") u) _ a7.1 in
    let a9 = or_parts (same_bytes (codes "lane") u) _ a8.1 in
    let b0 = or_parts (same_bytes (codes "group") u) _ a9.1 in
    let b1 = or_parts (same_bytes (codes "lanes") u) _ b0.1 in
    rw (a0.0, a1.0, a2.0, a3.0, a4.0, a5.0, a6.0, a7.0, a8.0, a9.0, b0.0, b1.0) refl

begins-word : (u z : List ℕ) → 1 ≤ length u → get_or (u ++ z) 0 0 ≡ get_or u 0 0
begins-word [] z h = absurd (omega arith)
begins-word (b ∷ u) z h = refl

pub byte_of : (text : List ℕ) (i : ℕ) (u z : List ℕ) → 1 ≤ length u → drop i text ≡ u ++ z → get_or text i 0 ≡ get_or u 0 0
byte_of text i u z h e = ap (λ m. get_or text m 0) (sym (add-zero i)) ∙ sym (get_or-drop i text 0 0) ∙ ap (λ t. get_or t 0 0) e ∙ begins-word u z h

module _ (find : List ℕ → Option ℕ) (text : List ℕ) (i : ℕ) (u z : List ℕ) (some : 1 ≤ length u) (begins : letter (get_or u 0 0) ≡ true) (bytes : each_byte word_byte u ≡ true) (short : length u ≤ 8)
    (e : drop i text ≡ u ++ z) (a : Apart z) where
  pub word-done : (k : Option Keyword) (o : Option ℕ) → key_of u ≡ k → find u ≡ o → word_at find text i ≡ some_token k o i (i + length u)
  unfolding word_at
  word-done k o p q =
      let l : letter (get_or text i 0) ≡ true = ap letter (byte_of text i u z some e) ∙ begins in
      let r : run_of word_byte (drop i text) ≡ length u = run-here word_byte text i u z bytes a e in
      let w : word_part text i ≡ u = part-here word_byte text i u z bytes a e in
      rw (l, w, r, lt-leb 9 (length u) (omega arith), p, q) refl

pub digit-not_letter : (b : ℕ) → letter b ≡ true → digit b ≡ false
digit-not_letter b h = grind (arith, nat_tests)

pub not-open : (b : ℕ) → word_byte b ≡ true → eqb b 40 ≡ false
not-open b h = grind (arith, nat_tests)
