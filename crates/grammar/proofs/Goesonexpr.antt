-- Words, bytes and expressions are read by the bytes up to where they end, or are refused.
use Rattle.std.proofs.Common.{◌≡◌, ℕ, zero, suc, ◌+◌, ◌<◌, ◌≤◌, true, false, cond, not, ◌&&◌, eqb, ltb, leb, List, [], ◌∷◌, drop, Some, None, Ok, Err, Option, Result, refl, ap, ◌∙◌, inl, inr, arith}
use Rattle.std.proofs.lemmas.Bool.{cases_Bool, leb-true, le-leb}
use Rattle.grammar.specs.Spelling.{letter, digit, word_byte}
use Rattle.grammar.specs.Runs.{run_of}
use Rattle.grammar.specs.Walk.{key_at, word_part, word_at, word_atom, some_token, bytes_at, atom_at, operator_at, is_operator_spec, is_atom_spec, expr_at, number_part}
use Rattle.grammar.specs.declared.refusals.Refusal.{Refusal}
use Rattle.grammar.specs.declared.refusals.Refusal.TheVariants.{Shape, Unknown, Large, Long}
use Rattle.grammar.specs.declared.keywords.Keyword.{Keyword}
use Rattle.grammar.specs.declared.tokens.Token.{Token}
use Rattle.grammar.specs.declared.tokens.Word.{Word}
use Rattle.grammar.specs.declared.tokens.Word.TheVariants as word
use Rattle.grammar.proofs.Sound.{cond_cases, not_err, same_ok}
use Rattle.grammar.proofs.Goeson.{Agree, agree_less, agree-drop, run_at, run-least, SameRead, same_end, same_shape, same_then, same_cond, same_from, same_other}

abbrev pub itself : ℕ → ℕ
itself j = j

abbrev pub token_end : Token → ℕ
token_end t = t.end

module _ (text t : List ℕ) where
  pub bytes_same : (w : List ℕ) (i : ℕ) → SameRead text t itself i (bytes_at text w i) (bytes_at t w i)
  unfolding bytes_at
  bytes_same [] i = same_end text t itself i i (omega arith)
  bytes_same (b ∷ w) i =
      same_cond text t itself i _ _ (bytes_at text w (i + 1)) (Err (Shape i)) (bytes_at t w (i + 1)) (Err (Shape i))
      (λ a. ap (λ m. eqb m b && not (eqb b 0)) (a.bytes i (omega arith)))
      (same_from text t itself i (i + 1) _ _ (omega arith) (bytes_same w (i + 1)))
      (same_shape text t itself i i (omega arith))

  module _ (find : List ℕ → Option ℕ) where
    -- the token's end is the run's end, where there is one
    token-ok : (k : Option Keyword) (o : Option ℕ) (i j : ℕ) (x : Token) → some_token k o i j ≡ Ok x → j ≡ x.end
    token-ok None None i j x e = absurd (not_err (Unknown i) x e)
    token-ok None (Some m) i j x e = ap (λ (y : Token). y.end) (same_ok _ x e)
    token-ok (Some k) o i j x e = ap (λ (y : Token). y.end) (same_ok _ x e)

    token-err : (k : Option Keyword) (o : Option ℕ) (i j q : ℕ) → some_token k o i j ≡ Err (Shape q) → ⊥
    token-err None None i j q e = let z : ◌≡◌ {A = ℕ} 0 1 = cc in omega arith
    token-err None (Some m) i j q e = let z : ◌≡◌ {A = ℕ} 0 1 = cc in omega arith
    token-err (Some k) o i j q e = let z : ◌≡◌ {A = ℕ} 0 1 = cc in omega arith

    -- a word of up to 8 bytes
    abbrev token_of : List ℕ → ℕ → Result Token Refusal
    token_of s i = some_token (key_at s i) (find (word_part s i)) i (i + run_of word_byte (drop i s))

    token-same : (i : ℕ) → Agree (i + run_of word_byte (drop i text)) text t → token_of t i ≡ token_of text i
    token-same i a =
        let q = run_at text t word_byte refl i (i + run_of word_byte (drop i text)) (omega arith) a in
        rw (q.1, q.0) refl

    abbrev long_or : List ℕ → ℕ → Result Token Refusal
    long_or s i = cond (leb 9 (run_of word_byte (drop i s))) (Err (Shape (i + 8))) (token_of s i)

    short-same : (i : ℕ) → leb 9 (run_of word_byte (drop i text)) ≡ false → Agree (i + run_of word_byte (drop i text)) text t → long_or t i ≡ token_of text i
    short-same i h a =
        let q = run_at text t word_byte refl i (i + run_of word_byte (drop i text)) (omega arith) a in
        rw (q.1, q.0, h) refl

    long_same : (i : ℕ) → leb 9 (run_of word_byte (drop i text)) ≡ true → Agree (i + 8) text t → long_or t i ≡ Err (Shape (i + 8))
    long_same i h a =
        let q : 8 < run_of word_byte (drop i t) = run-least word_byte refl (drop i text) (drop i t) 8 (omega (arith, leb-true 9 (run_of word_byte (drop i text)) h)) (agree-drop (i + 8) i 8 text t (omega arith) a) in
        rw (le-leb 9 (run_of word_byte (drop i t)) (omega arith)) refl

    long-read : (i : ℕ) → SameRead text t token_end i (long_or text i) (long_or t i)
    long-read i =
        elim (cases_Bool (leb 9 (run_of word_byte (drop i text)))) [
          | inl h ↦ rw h (record {
            ok = λ x e. absurd (not_err (Shape (i + 8)) x e);
            err = λ q e. let n : i + 8 ≡ q = cc in let l : i ≤ q = omega arith in (l, λ a. long_same i h (agree_less q (i + 8) text t (omega arith) a) ∙ e);
          })
          | inr h ↦ rw h (record {
            ok = λ x e. let n = token-ok (key_at text i) (find (word_part text i)) i (i + run_of word_byte (drop i text)) x e in
                let l : i ≤ x.end = omega arith in
                (l, λ a. short-same i h (agree_less x.end (i + run_of word_byte (drop i text)) text t (omega arith) a) ∙ e);
            err = λ q e. absurd (token-err (key_at text i) (find (word_part text i)) i (i + run_of word_byte (drop i text)) q e);
          })
        ]

    pub word_same : (i : ℕ) → SameRead text t token_end i (word_at find text i) (word_at find t i)
    unfolding word_at
    word_same i =
        same_cond text t token_end i _ _ (long_or text i) (Err (Shape i)) (long_or t i) (Err (Shape i)) (λ a. ap letter (a.bytes i (omega arith))) (long-read i) (same_shape text t token_end i i (omega arith))

    -- numbers
    abbrev number_of : List ℕ → ℕ → Result ℕ Refusal
    number_of s i = cond (ltb (number_part s i) 4294967296) (Ok (i + run_of digit (drop i s))) (Err (Large i))

    number_same : (i : ℕ) → Agree (i + run_of digit (drop i text)) text t → number_of t i ≡ number_of text i
    number_same i a =
        let q = run_at text t digit refl i (i + run_of digit (drop i text)) (omega arith) a in
        rw (q.1, q.0) refl

    number_read : (i : ℕ) → SameRead text t itself i (number_of text i) (number_of t i)
    number_read i =
        record {
          ok = λ x e. elim (cond_cases (ltb (number_part text i) 4294967296) _ _ (Ok x) e) [
            | inl p ↦ let n : i + run_of digit (drop i text) ≡ x = same_ok _ x p.1 in let l : i ≤ x = omega arith in (l, λ a. number_same i (agree_less x (i + run_of digit (drop i text)) text t (omega arith) a) ∙ e)
            | inr p ↦ absurd (not_err (Large i) x p.1)
          ];
          err = λ q e. elim (cond_cases (ltb (number_part text i) 4294967296) _ _ (Err (Shape q)) e) [
            | inl p ↦ let z : ◌≡◌ {A = ℕ} 0 1 = (let h = p.1 in cc) in absurd (omega arith)
            | inr p ↦ let z : ◌≡◌ {A = ℕ} 0 1 = (let h = p.1 in cc) in absurd (omega arith)
          ];
        }

    atom-word : (w : Word) (j : ℕ) → SameRead text t itself j (word_atom w j) (word_atom w j)
    atom-word (word.Own k) j = same_end text t itself j j (omega arith)
    atom-word (word.Key k) j = same_cond text t itself j (is_atom_spec k) (is_atom_spec k) (Ok j) (Err (Shape j)) (Ok j) (Err (Shape j)) (λ a. refl) (same_end text t itself j j (omega arith)) (same_shape text t itself j j (omega arith))

    pub atom-same : (i : ℕ) → SameRead text t itself i (atom_at find text i) (atom_at find t i)
    unfolding atom_at
    atom-same i =
        same_cond text t itself i _ _ (number_of text i) _ (number_of t i) _ (λ a. ap digit (a.bytes i (omega arith))) (number_read i)
        (same_then text t token_end itself i (word_at find text i) (word_at find t i) _ _ (word_same i) (λ x. atom-word x.word x.end))

    pub operator-same : (i : ℕ) → SameRead text t itself i (operator_at text i) (operator_at t i)
    unfolding operator_at
    operator-same i =
        same_then text t itself itself i (bytes_at text (32 ∷ []) i) (bytes_at t (32 ∷ []) i) _ _ (bytes_same (32 ∷ []) i)
        (λ j. same_cond text t itself j _ _ (bytes_at text (32 ∷ []) (j + 1)) (Err (Shape j)) (bytes_at t (32 ∷ []) (j + 1)) (Err (Shape j)) (λ a. ap is_operator_spec (a.bytes j (omega arith)))
        (same_from text t itself j (j + 1) _ _ (omega arith) (bytes_same (32 ∷ []) (j + 1))) (same_shape text t itself j j (omega arith)))

    pub expr-same : (n i : ℕ) → SameRead text t itself i (expr_at find text n i) (expr_at find t n i)
    unfolding expr_at
    expr-same zero i =
        same_cond text t itself i _ _ (Err (Long i)) (atom_at find text i) (Err (Long i)) (atom_at find t i) (λ a. ap (λ m. eqb m 40) (a.bytes i (omega arith)))
        (same_other text t itself i (Long i) _ (λ q e. let z : ◌≡◌ {A = ℕ} 0 1 = cc in omega arith)) (atom-same i)
    expr-same (suc n) i =
        same_cond text t itself i _ _ _ (atom_at find text i) _ (atom_at find t i) (λ a. ap (λ m. eqb m 40) (a.bytes i (omega arith)))
        (same_from text t itself i (i + 1) _ _ (omega arith) (same_then text t itself itself (i + 1) (expr_at find text n (i + 1)) (expr_at find t n (i + 1)) _ _ (expr-same n (i + 1))
        (λ j. same_then text t itself itself j (operator_at text j) (operator_at t j) _ _ (operator-same j)
        (λ k. same_then text t itself itself k (expr_at find text n k) (expr_at find t n k) _ _ (expr-same n k) (λ l. bytes_same (41 ∷ []) l)))))
        (atom-same i)
