-- A line is read by the bytes up to where it ends, or is refused.
use Rattle.std.proofs.Common.{◌≡◌, ℕ, zero, suc, ◌+◌, ◌-◌, ◌<◌, ◌≤◌, Bool, true, false, cond, eqb, ltb, leb, ◌⊎◌, List, length, get_or, take, drop, Some, None, Ok, Err, codes, Option, Result, sym, refl, ap, ◌∙◌, inl, inr, add-zero, arith}
use Rattle.std.proofs.lemmas.List.{get_or-drop, get_or-take}
use Rattle.std.proofs.lemmas.Bool.{cases_Bool, leb-true, both_ways}
use Rattle.std.proofs.lemmas.Bool.Decides.{nat_tests}
use Rattle.grammar.specs.Spelling.{letter, word_byte}
use Rattle.grammar.specs.Refusals.{place_of}
use Rattle.grammar.specs.Runs.{run_of, written}
use Rattle.grammar.specs.Walk.{key_of, key_at, word_part, word_at, word_atom, some_token, bytes_at, atom_at, is_atom_spec, expr_at, and_then}
use Rattle.grammar.specs.WalkLine.{cell_kind_spec, with_expr_spec, closed, assign_at, assign_by, write_at, by_key, by_word, bare_at, within_line_spec, line_at}
use Rattle.grammar.specs.declared.refusals.Refusal.{Refusal}
use Rattle.grammar.specs.declared.refusals.Refusal.TheVariants.{Shape, Long}
use Rattle.grammar.specs.declared.keywords.Keyword.{Keyword}
use Rattle.grammar.specs.declared.keywords.Keyword.TheVariants as kw
use Rattle.grammar.specs.declared.tokens.Token.{Token}
use Rattle.grammar.specs.declared.tokens.Word.{Word}
use Rattle.grammar.specs.declared.tokens.Word.TheVariants as word
use Rattle.grammar.specs.declared.lines.Line.{Line}
use Rattle.grammar.specs.declared.lines.Line.TheVariants as line
use Rattle.grammar.specs.declared.lines.Lined.{Lined}
use Rattle.grammar.proofs.Complete.{digit-not_letter, not-open}
use Rattle.grammar.proofs.Sound.{cond_cases, then-parts, not_err, same_ok, run_length, key-sound, word_sound}
use Rattle.grammar.proofs.Goeson.{Agree, agree_less, agree-drop, run_at, run-least, SameRead, same_end, same_shape, same_then, same_cond}
use Rattle.grammar.proofs.Goesonexpr.{itself, token_end, bytes_same, word_same, expr-same}

-- two steps that went wrong: the first, or the second
pub then-fails : {X Y : Type 0} (r : Result X Refusal) (f : X → Result Y Refusal) (d : Refusal) → and_then r f ≡ Err d → (r ≡ Err d) ⊎ ((x : X) × (r ≡ Ok x) × (f x ≡ Err d))
then-fails (Ok x) f d e = inr (x, refl, e)
then-fails (Err c) f d e = let q : c ≡ d = cc in inl (ap (λ m. Err m) q)

-- words of the language have up to 8 bytes, and begin with a letter
pub written-word : (k : Keyword) → (length (written k) ≤ 8) × (letter (get_or (written k) 0 0) ≡ true)
written-word kw.Own = (omega arith, refl)
written-word kw.Cells = (omega arith, refl)
written-word kw.Cell = (omega arith, refl)
written-word kw.Field = (omega arith, refl)
written-word kw.Barrier = (omega arith, refl)
written-word kw.If = (omega arith, refl)
written-word kw.Else = (omega arith, refl)
written-word kw.End = (omega arith, refl)
written-word kw.While = (omega arith, refl)
written-word kw.Lane = (omega arith, refl)
written-word kw.Group = (omega arith, refl)
written-word kw.Lanes = (omega arith, refl)

no-key-by : (u : List ℕ) (o : Option Keyword) → key_of u ≡ o → (9 ≤ length u) ⊎ (letter (get_or u 0 0) ≡ false) → o ≡ None
no-key-by u None e h = refl
no-key-by u (Some k) e (inl h) = absurd (omega (arith, ap length (key-sound u k e), (written-word k).0))
no-key-by u (Some k) e (inr h) = absurd (both_ways (letter (get_or u 0 0)) h (ap (λ w. letter (get_or w 0 0)) (key-sound u k e) ∙ (written-word k).1))

pub no_key : (u : List ℕ) → (9 ≤ length u) ⊎ (letter (get_or u 0 0) ≡ false) → key_of u ≡ None
no_key u h = no-key-by u (key_of u) refl h

first_of : (r : ℕ) (t : List ℕ) (j : ℕ) → letter (get_or t j 0) ≡ false → letter (get_or (take r (drop j t)) 0 0) ≡ false
first_of zero t j h = refl
first_of (suc r) t j h = ap letter (get_or-take (suc r) (drop j t) 0 0 (omega arith) ∙ get_or-drop j t 0 0 ∙ ap (λ m. get_or t m 0) (add-zero j)) ∙ h

pub no-key-here : (t : List ℕ) (j : ℕ) → letter (get_or t j 0) ≡ false → key_at t j ≡ None
no-key-here t j h = no_key (word_part t j) (inr (first_of (run_of word_byte (drop j t)) t j h))

pub no-key-long : (t : List ℕ) (j : ℕ) → 9 ≤ run_of word_byte (drop j t) → key_at t j ≡ None
no-key-long t j h = no_key (word_part t j) (inl (omega (arith, run_length word_byte t j)))

-- the byte 10 that ends a line
abbrev pub next_of : Lined → ℕ
next_of l = l.next - 1

-- an expression ends, or is refused, at q
abbrev pub Ends : Result ℕ Refusal → ℕ → Type 0
Ends r q = (r ≡ Ok q) ⊎ (r ≡ Err (Shape q))

letter-word : (b : ℕ) → letter b ≡ true → word_byte b ≡ true
letter-word b h = grind (arith, nat_tests)

module _ (find : List ℕ → Option ℕ) (text : List ℕ) where
  -- the first word of an expression is seen to its end, or to its ninth byte
  abbrev pub Reach : ℕ → ℕ → Type 0
  Reach j q = (j + run_of word_byte (drop j text) ≤ q) ⊎ (((9 ≤ run_of word_byte (drop j text)) × (j + 8 ≤ q)) ⊎ ((letter (get_or text j 0) ≡ false) × (j ≤ q)))

  pub word-refused : (j q : ℕ) → letter (get_or text j 0) ≡ true → word_at find text j ≡ Err (Shape q) → (9 ≤ run_of word_byte (drop j text)) × (j + 8 ≡ q)
  unfolding word_at
  word-refused j q l e =
      elim (cond_cases (letter (get_or text j 0)) _ _ (Err (Shape q)) e) [
        | inl p ↦
            elim (cond_cases (leb 9 (run_of word_byte (drop j text))) _ _ (Err (Shape q)) p.1) [
              | inl h ↦ let x = h.1 in let n : j + 8 ≡ q = cc in (leb-true 9 (run_of word_byte (drop j text)) h.0, n)
              | inr h ↦ absurd (token-err (key_at text j) (find (word_part text j)) j (j + run_of word_byte (drop j text)) q h.1)
            ]
        | inr p ↦ absurd (both_ways (letter (get_or text j 0)) p.0 l)
      ]
    where
      token-err : (k : Option Keyword) (o : Option ℕ) (i j q : ℕ) → some_token k o i j ≡ Err (Shape q) → ⊥
      token-err None None i j q e = let z : ◌≡◌ {A = ℕ} 0 1 = cc in omega arith
      token-err None (Some m) i j q e = let z : ◌≡◌ {A = ℕ} 0 1 = cc in omega arith
      token-err (Some k) o i j q e = let z : ◌≡◌ {A = ℕ} 0 1 = cc in omega arith

  atom-ends : (w : Word) (j q : ℕ) → Ends (word_atom w j) q → j ≡ q
  atom-ends (word.Own k) j q (inl e) = same_ok j q e
  atom-ends (word.Own k) j q (inr e) = let z : ◌≡◌ {A = ℕ} 0 1 = cc in absurd (omega arith)
  atom-ends (word.Key k) j q (inl e) = elim (cond_cases (is_atom_spec k) _ _ (Ok q) e) [ inl p ↦ same_ok j q p.1 | inr p ↦ absurd (not_err (Shape j) q p.1) ]
  atom-ends (word.Key k) j q (inr e) =
      elim (cond_cases (is_atom_spec k) _ _ (Err (Shape q)) e) [ inl p ↦ let x = p.1 in let z : ◌≡◌ {A = ℕ} 0 1 = cc in absurd (omega arith) | inr p ↦ let x = p.1 in cc ]

  word-reach : (j q : ℕ) (r : Result Token Refusal) → letter (get_or text j 0) ≡ true → word_at find text j ≡ r → Ends (and_then r (λ x. word_atom x.word x.end)) q → Reach j q
  word-reach j q (Ok x) l e h = let w = word_sound find text j x e in inl (omega (arith, w.end_is, run_length word_byte text j, atom-ends x.word x.end q h))
  word-reach j q (Err d) l e (inl h) = absurd (not_err d q h)
  word-reach j q (Err d) l e (inr h) = let n : d ≡ Shape q = cc in let p = word-refused j q l (e ∙ ap (λ m. Err m) n) in inr (inl (p.0, omega (arith, p.1)))

  by-letter : (n j : ℕ) → letter (get_or text j 0) ≡ true → expr_at find text n j ≡ and_then (word_at find text j) (λ x. word_atom x.word x.end)
  unfolding expr_at atom_at
  by-letter zero j l = rw (not-open (get_or text j 0) (letter-word (get_or text j 0) l), digit-not_letter (get_or text j 0) l) refl
  by-letter (suc n) j l = rw (not-open (get_or text j 0) (letter-word (get_or text j 0) l), digit-not_letter (get_or text j 0) l) refl

  ends-from : (n j q : ℕ) → Ends (expr_at find text n j) q → j ≤ q
  ends-from n j q (inl e) = ((expr-same text text find n j).ok q e).0
  ends-from n j q (inr e) = ((expr-same text text find n j).err q e).0

  pub reach : (n j q : ℕ) → Ends (expr_at find text n j) q → Reach j q
  reach n j q e =
      elim (cases_Bool (letter (get_or text j 0))) [
        | inl l ↦ word-reach j q (word_at find text j) l refl (rw (by-letter n j l) at e)
        | inr l ↦ inr (inr (l, ends-from n j q e))
      ]

  pub reach-more : (j q p : ℕ) → q ≤ p → Reach j q → Reach j p
  reach-more j q p h (inl a) = inl (omega arith)
  reach-more j q p h (inr (inl a)) = inr (inl (a.0, omega (arith, a.1)))
  reach-more j q p h (inr (inr a)) = inr (inr (a.0, omega (arith, a.1)))

  pub key-same : (t : List ℕ) (j q : ℕ) → Reach j q → Agree q text t → key_at t j ≡ key_at text j
  key-same t j q (inl h) a = let p = run_at text t word_byte refl j q h a in ap key_of p.1
  key-same t j q (inr (inl h)) a =
      let n : 8 < run_of word_byte (drop j t) = run-least word_byte refl (drop j text) (drop j t) 8 (omega (arith, h.0)) (agree-drop q j 8 text t h.1 a) in
      no-key-long t j (omega arith) ∙ sym (no-key-long text j h.0)
  key-same t j q (inr (inr h)) a = no-key-here t j (ap letter (sym (a.bytes j h.1)) ∙ h.0) ∙ sym (no-key-here text j h.0)

  pub first_reach : (j q : ℕ) → word_at find text j ≡ Err (Shape q) → Reach j q
  first_reach j q e =
      elim (cases_Bool (letter (get_or text j 0))) [
        | inl l ↦ let p = word-refused j q l e in inr (inl (p.0, omega (arith, p.1)))
        | inr l ↦ inr (inr (l, ((word_same text text find j).err q e).0))
      ]

module _ (find : List ℕ → Option ℕ) (text t : List ℕ) where
  pub closed_is : (s : List ℕ) (l : Line) (i : ℕ) → closed s l i ≡ cond (eqb (get_or s i 0) 10) (Ok (record { line = l; next = i + 1 })) (Err (Shape i))
  unfolding closed bytes_at
  closed_is s l i = elim (cases_Bool (eqb (get_or s i 0) 10)) [ inl h ↦ rw h refl | inr h ↦ rw h refl ]

  pub closed_same : (l : Line) (i : ℕ) → SameRead text t next_of i (closed text l i) (closed t l i)
  closed_same l i =
      rw (closed_is text l i, closed_is t l i)
      (same_cond text t next_of i _ _ (Ok (record { line = l; next = i + 1 })) (Err (Shape i)) (Ok (record { line = l; next = i + 1 })) (Err (Shape i)) (λ a. ap (λ m. eqb m 10) (a.bytes i (omega arith)))
      (same_end text t next_of i (record { line = l; next = i + 1 }) (omega arith)) (same_shape text t next_of i i (omega arith)))

  pub with-same : (l : Line) (i : ℕ) → SameRead text t next_of i (with_expr_spec find text l i) (with_expr_spec find t l i)
  unfolding with_expr_spec
  with-same l i = same_then text t itself next_of i (expr_at find text 1024 i) (expr_at find t 1024 i) _ _ (expr-same text t find 1024 i) (λ j. closed_same l j)

  with-ok : (l : Line) (j : ℕ) (x : Lined) → with_expr_spec find text l j ≡ Ok x → Reach find text j (next_of x)
  unfolding with_expr_spec
  with-ok l j x e =
      let p = then-parts (expr_at find text 1024 j) _ x e in
      reach-more find text j p.0 (next_of x) ((closed_same l p.0).ok x p.2).0 (reach find text 1024 j p.0 (inl p.1))

  with-err : (l : Line) (j q : ℕ) → with_expr_spec find text l j ≡ Err (Shape q) → Reach find text j q
  unfolding with_expr_spec
  with-err l j q e =
      elim (then-fails (expr_at find text 1024 j) _ (Shape q) e) [
        | inl p ↦ reach find text 1024 j q (inr p)
        | inr p ↦ reach-more find text j p.0 q ((closed_same l p.0).err q p.2).0 (reach find text 1024 j p.0 (inl p.1))
      ]

  -- `cell` or `field`, and then the byte m
  kinded : Bool → ℕ → List ℕ → ℕ → Result Lined Refusal
  kinded f k s m = and_then (bytes_at s (codes " ") m) (λ e. with_expr_spec find s (line.Read f k e) e)

  kinded-same : (f : Bool) (k m : ℕ) → SameRead text t next_of m (kinded f k text m) (kinded f k t m)
  unfolding kinded
  kinded-same f k m = same_then text t itself next_of m (bytes_at text (codes " ") m) (bytes_at t (codes " ") m) _ _ (bytes_same text t (codes " ") m) (λ e. with-same (line.Read f k e) e)

  read_same : (f : Bool) (k j : ℕ) → cell_kind_spec (key_at text j) ≡ Some f → Agree (j + run_of word_byte (drop j text)) text t
      → assign_by find t k j (cell_kind_spec (key_at t j)) ≡ kinded f k t (j + run_of word_byte (drop j text))
  unfolding kinded
  read_same f k j h a =
      let p = run_at text t word_byte refl j (j + run_of word_byte (drop j text)) (omega arith) a in
      let c : cell_kind_spec (key_at t j) ≡ Some f = ap (λ u. cell_kind_spec (key_of u)) p.1 ∙ h in
      rw (c, p.0) refl

  read_is : (f : Bool) (k j : ℕ) → assign_by find text k j (Some f) ≡ kinded f k text (j + run_of word_byte (drop j text))
  unfolding kinded
  read_is f k j = refl

  by-same : (k j : ℕ) (c : Option Bool) → cell_kind_spec (key_at text j) ≡ c → SameRead text t next_of j (assign_by find text k j c) (assign_by find t k j (cell_kind_spec (key_at t j)))
  by-same k j None h =
      record {
        ok = λ x e. let q = (with-same (line.Put k j) j).ok x e in (q.0, λ a. rw (ap cell_kind_spec (key-same find text t j (next_of x) (with-ok (line.Put k j) j x e) a) ∙ h) (q.1 a));
        err = λ m e. let q = (with-same (line.Put k j) j).err m e in (q.0, λ a. rw (ap cell_kind_spec (key-same find text t j m (with-err (line.Put k j) j m e) a) ∙ h) (q.1 a));
      }
  by-same k j (Some f) h =
      let n : ℕ = j + run_of word_byte (drop j text) in
      record {
        ok = λ x e. let q = (kinded-same f k n).ok x (sym (read_is f k j) ∙ e) in let l : j ≤ next_of x = omega (arith, q.0) in
            (l, λ a. read_same f k j h (agree_less (next_of x) n text t q.0 a) ∙ q.1 a);
        err = λ m e. let q = (kinded-same f k n).err m (sym (read_is f k j) ∙ e) in let l : j ≤ m = omega (arith, q.0) in
            (l, λ a. read_same f k j h (agree_less m n text t q.0 a) ∙ q.1 a);
      }

  assign-same : (k i : ℕ) → SameRead text t next_of i (assign_at find text k i) (assign_at find t k i)
  unfolding assign_at
  assign-same k i = same_then text t itself next_of i (bytes_at text (codes " = ") i) (bytes_at t (codes " = ") i) _ _ (bytes_same text t (codes " = ") i) (λ j. by-same k j (cell_kind_spec (key_at text j)) refl)

  write_same : (f : Bool) (i : ℕ) → SameRead text t next_of i (write_at find text f i) (write_at find t f i)
  unfolding write_at
  write_same f i =
      same_then text t itself next_of i (bytes_at text (codes " ") i) (bytes_at t (codes " ") i) _ _ (bytes_same text t (codes " ") i)
      (λ p. same_then text t itself next_of p (expr_at find text 1024 p) (expr_at find t 1024 p) _ _ (expr-same text t find 1024 p)
      (λ j. same_then text t itself next_of j (bytes_at text (codes " = ") j) (bytes_at t (codes " = ") j) _ _ (bytes_same text t (codes " = ") j) (λ v. with-same (line.Write f p v) v)))

  head-same : (l : ℕ → Line) (i : ℕ)
      → SameRead text t next_of i (and_then (bytes_at text (codes " ") i) (λ e. with_expr_spec find text (l e) e)) (and_then (bytes_at t (codes " ") i) (λ e. with_expr_spec find t (l e) e))
  head-same l i = same_then text t itself next_of i (bytes_at text (codes " ") i) (bytes_at t (codes " ") i) _ _ (bytes_same text t (codes " ") i) (λ e. with-same (l e) e)

  keyed-same : (k : Keyword) (i : ℕ) → SameRead text t next_of i (by_key find text k i) (by_key find t k i)
  unfolding by_key
  keyed-same kw.Own i = same_shape text t next_of i i (omega arith)
  keyed-same kw.Cells i = same_shape text t next_of i i (omega arith)
  keyed-same kw.Cell i = write_same false i
  keyed-same kw.Field i = write_same true i
  keyed-same kw.Barrier i = closed_same line.Barrier i
  keyed-same kw.If i = head-same line.If i
  keyed-same kw.Else i = closed_same line.Else i
  keyed-same kw.End i = closed_same line.End i
  keyed-same kw.While i = head-same line.While i
  keyed-same kw.Lane i = same_shape text t next_of i i (omega arith)
  keyed-same kw.Group i = same_shape text t next_of i i (omega arith)
  keyed-same kw.Lanes i = same_shape text t next_of i i (omega arith)

  by-word-same : (w : Word) (i : ℕ) → SameRead text t next_of i (by_word find text w i) (by_word find t w i)
  by-word-same (word.Own k) i = assign-same k i
  by-word-same (word.Key k) i = keyed-same k i

  pub bare-same : (i : ℕ) → SameRead text t next_of i (bare_at find text i) (bare_at find t i)
  unfolding bare_at
  bare-same i = same_then text t token_end next_of i (word_at find text i) (word_at find t i) _ _ (word_same text t find i) (λ x. by-word-same x.word x.end)

  within_same : (i : ℕ) (r s : Result Lined Refusal) → SameRead text t next_of i r s → SameRead text t next_of i (within_line_spec i r) (within_line_spec i s)
  within_same i (Ok l) s a =
      record {
        ok = λ x e. elim (cond_cases (ltb 1025 (l.next - i)) _ _ (Ok x) e) [
          | inl p ↦ absurd (not_err (Long (i + 1024)) x p.1)
          | inr p ↦ let n : l ≡ x = same_ok l x p.1 in let q = a.ok x (ap (λ m. Ok m) n) in let c : ltb 1025 (x.next - i) ≡ false = rw n at p.0 in (q.0, λ g. rw (q.1 g, c) refl)
        ];
        err = λ m e. elim (cond_cases (ltb 1025 (l.next - i)) _ _ (Err (Shape m)) e)
            [ inl p ↦ let x = p.1 in let z : ◌≡◌ {A = ℕ} 0 1 = cc in absurd (omega arith) | inr p ↦ let x = p.1 in let z : ◌≡◌ {A = ℕ} 0 1 = cc in absurd (omega arith) ];
      }
  within_same i (Err d) s a =
      record {
        ok = λ x e. elim (cond_cases (ltb 1024 (place_of d - i)) _ _ (Ok x) e) [ inl p ↦ absurd (not_err (Long (i + 1024)) x p.1) | inr p ↦ absurd (not_err d x p.1) ];
        err = λ m e. elim (cond_cases (ltb 1024 (place_of d - i)) _ _ (Err (Shape m)) e) [
          | inl p ↦ let x = p.1 in let z : ◌≡◌ {A = ℕ} 0 1 = cc in absurd (omega arith)
          | inr p ↦ let x = p.1 in let n : d ≡ Shape m = cc in let q = a.err m (ap (λ y. Err y) n) in let c : ltb 1024 (m - i) ≡ false = ap (λ y. ltb 1024 (place_of y - i)) (sym n) ∙ p.0 in (q.0, λ g. rw (q.1 g, c) refl)
        ];
      }

  -- the line at a byte
  pub line_same : (i : ℕ) → SameRead text t next_of i (line_at find text i) (line_at find t i)
  unfolding line_at
  line_same i = within_same i (bare_at find text i) (bare_at find t i) (bare-same i)

-- the first word of a line is seen to its end, or to its ninth byte
module _ (find : List ℕ → Option ℕ) (text : List ℕ) where
  token-at : (i q : ℕ) (x : Token) → word_at find text i ≡ Ok x → x.end ≤ q → Reach find text i q
  token-at i q x e h = inl (omega (arith, (word_sound find text i x e).end_is, run_length word_byte text i))

  bare-reach-ok : (i : ℕ) (x : Lined) → bare_at find text i ≡ Ok x → Reach find text i (next_of x)
  unfolding bare_at
  bare-reach-ok i x e =
      let p = then-parts (word_at find text i) _ x e in
      token-at i (next_of x) p.0 p.1 ((by-word-same find text text p.0.word p.0.end).ok x p.2).0

  bare-reach-err : (i q : ℕ) → bare_at find text i ≡ Err (Shape q) → Reach find text i q
  unfolding bare_at
  bare-reach-err i q e =
      elim (then-fails (word_at find text i) _ (Shape q) e) [
        | inl p ↦ first_reach find text i q p
        | inr p ↦ token-at i q p.0 p.1 ((by-word-same find text text p.0.word p.0.end).err q p.2).0
      ]

  pub within_ok : (i : ℕ) (r : Result Lined Refusal) (x : Lined) → within_line_spec i r ≡ Ok x → r ≡ Ok x
  within_ok i (Ok l) x e =
      elim (cond_cases (ltb 1025 (l.next - i)) _ _ (Ok x) e) [ inl p ↦ absurd (not_err (Long (i + 1024)) x p.1) | inr p ↦ p.1 ]
  within_ok i (Err d) x e =
      elim (cond_cases (ltb 1024 (place_of d - i)) _ _ (Ok x) e) [ inl p ↦ absurd (not_err (Long (i + 1024)) x p.1) | inr p ↦ p.1 ]

  pub within-err : (i q : ℕ) (r : Result Lined Refusal) → within_line_spec i r ≡ Err (Shape q) → r ≡ Err (Shape q)
  within-err i q (Ok l) e =
      elim (cond_cases (ltb 1025 (l.next - i)) _ _ (Err (Shape q)) e)
      [ inl p ↦ let x = p.1 in let z : ◌≡◌ {A = ℕ} 0 1 = cc in absurd (omega arith) | inr p ↦ let x = p.1 in let z : ◌≡◌ {A = ℕ} 0 1 = cc in absurd (omega arith) ]
  within-err i q (Err d) e =
      elim (cond_cases (ltb 1024 (place_of d - i)) _ _ (Err (Shape q)) e)
      [ inl p ↦ let x = p.1 in let z : ◌≡◌ {A = ℕ} 0 1 = cc in absurd (omega arith) | inr p ↦ p.1 ]

  pub line-reach-ok : (i : ℕ) (x : Lined) → line_at find text i ≡ Ok x → Reach find text i (next_of x)
  unfolding line_at
  line-reach-ok i x e = bare-reach-ok i x (within_ok i (bare_at find text i) x e)

  pub line-reach-err : (i q : ℕ) → line_at find text i ≡ Err (Shape q) → Reach find text i q
  unfolding line_at
  line-reach-err i q e = bare-reach-err i q (within-err i q (bare_at find text i) e)
