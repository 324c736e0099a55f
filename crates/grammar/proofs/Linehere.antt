-- A line that stands at a byte is read there, as that line: one kind of line after the other.
use Rattle.std.proofs.Common.{◌≡◌, ℕ, ◌+◌, ◌-◌, ◌≤◌, Bool, true, false, List, [], ◌∷◌, ◌++◌, length, get_or, drop, Some, None, Ok, codes, Option, Result, refl, ap, ◌∙◌, arith}
use Rattle.std.proofs.lemmas.Bool.{le-ltb}
use Rattle.grammar.specs.Spelling.{letter, word_byte, each_byte, IsName}
use Rattle.grammar.specs.Stands.{Apart}
use Rattle.grammar.specs.Runs.{written}
use Rattle.grammar.specs.Walk.{key_of, key_at, bytes_at, and_then}
use Rattle.grammar.specs.WalkLine.{cell_kind_spec, with_expr_spec, closed, assign_at, write_at, by_key, bare_at, line_at}
use Rattle.grammar.specs.Lines.{SomeExpr, LineHere}
use Rattle.grammar.specs.declared.refusals.Refusal.{Refusal}
use Rattle.grammar.specs.declared.keywords.Keyword.{Keyword}
use Rattle.grammar.specs.declared.keywords.Keyword.TheVariants as kw
use Rattle.grammar.specs.declared.lines.Line.{Line}
use Rattle.grammar.specs.declared.lines.Line.TheVariants.{Put, Read, Write, Barrier, If, Else, End, While}
use Rattle.grammar.specs.declared.lines.Lined.{Lined}
use Rattle.grammar.proofs.Walks.{key-written}
use Rattle.grammar.proofs.Complete.{past, past-byte, bytes-done, run-here, part-here, key-free, word-done}
use Rattle.grammar.proofs.Spelled.{ReadsExpr, expr-done}
use Rattle.grammar.proofs.Linedone.{brackets-few, no_cell}

abbrev lined : Line → ℕ → Result Lined Refusal
lined l n = Ok (record { line = l; next = n })

module _ (find : List ℕ → Option ℕ) (text : List ℕ) (N : ℕ → List ℕ → Type 0) (o : ℕ) (named : (k : ℕ) (u : List ℕ) → N k u → IsName u) (found : (k : ℕ) (u : List ℕ) → N k u → find u ≡ Some k) where
  reads : (u : List ℕ) → SomeExpr N o text u → length u ≤ 1024 → ReadsExpr find text 1024 u
  reads u s h = expr-done find text N named (λ k v p. (k, found k v p)) o s.0 1024 u s.1 s.2 (omega (arith, brackets-few N s.0 u s.1))

  closed-done : (l : Line) (i : ℕ) (z : List ℕ) → drop i text ≡ 10 ∷ z → closed text l i ≡ lined l (i + 1)
  unfolding closed each_byte
  closed-done l i z e = rw (bytes-done text i (10 ∷ []) z refl e) refl

  with-done : (l : Line) (i : ℕ) (u z : List ℕ) → SomeExpr N o text u → length u ≤ 1024 → drop i text ≡ u ++ (10 ∷ z) → with_expr_spec find text l i ≡ lined l (i + (length u + 1))
  unfolding with_expr_spec
  with-done l i u z s h e =
      rw (reads u s h i (10 ∷ z) e refl) (closed-done l (i + length u) z (past text i u (10 ∷ z) e) ∙ ap (λ m. lined l m) (omega arith))

  assign-done : (k i : ℕ) (u z : List ℕ) → SomeExpr N o text u → length u ≤ 1024 → drop i text ≡ codes " = " ++ (u ++ (10 ∷ z)) → assign_at find text k i ≡ lined (Put k (i + 3)) ((i + 3) + (length u + 1))
  unfolding assign_at each_byte
  assign-done k i u z s h e =
      let x : drop (i + 3) text ≡ u ++ (10 ∷ z) = past text i (codes " = ") _ e in
      rw (bytes-done text i (codes " = ") _ refl e, no_cell text (i + 3) (10 ∷ z) refl N named s.0 u s.1 x) (with-done (Put k (i + 3)) (i + 3) u z s h x)

  read_done : (f : Bool) (w : List ℕ) (k i : ℕ) (u z : List ℕ) → cell_kind_spec (key_of w) ≡ Some f → each_byte word_byte w ≡ true → SomeExpr N o text u → length u ≤ 1024
      → drop i text ≡ codes " = " ++ (w ++ (32 ∷ (u ++ (10 ∷ z)))) → assign_at find text k i ≡ lined (Read f k ((i + 3) + (length w + 1))) (((i + 3) + (length w + 1)) + (length u + 1))
  unfolding assign_at each_byte
  read_done f w k i u z c b s h e =
      let x : drop (i + 3) text ≡ w ++ (32 ∷ (u ++ (10 ∷ z))) = past text i (codes " = ") _ e in
      let y : drop ((i + 3) + length w) text ≡ 32 ∷ (u ++ (10 ∷ z)) = past text (i + 3) w _ x in
      let v : drop (((i + 3) + length w) + 1) text ≡ u ++ (10 ∷ z) = past-byte text ((i + 3) + length w) 32 _ y in
      let q : cell_kind_spec (key_at text (i + 3)) ≡ Some f = ap (λ t. cell_kind_spec (key_of t)) (part-here word_byte text (i + 3) w _ b refl x) ∙ c in
      let r : ((i + 3) + length w) + 1 ≡ (i + 3) + (length w + 1) = omega arith in
      rw (bytes-done text i (codes " = ") _ refl e, q, run-here word_byte text (i + 3) w _ b refl x, bytes-done text ((i + 3) + length w) (32 ∷ []) _ refl y, r)
      (with-done (Read f k ((i + 3) + (length w + 1))) ((i + 3) + (length w + 1)) u z s h (rw r at v))

  write_done : (f : Bool) (i : ℕ) (u w z : List ℕ) → SomeExpr N o text u → SomeExpr N o text w → length u ≤ 1024 → length w ≤ 1024
      → drop i text ≡ 32 ∷ (u ++ (codes " = " ++ (w ++ (10 ∷ z)))) → write_at find text f i ≡ lined (Write f (i + 1) (((i + 1) + length u) + 3)) ((((i + 1) + length u) + 3) + (length w + 1))
  unfolding write_at each_byte
  write_done f i u w z s t h k e =
      let x : drop (i + 1) text ≡ u ++ (codes " = " ++ (w ++ (10 ∷ z))) = past-byte text i 32 _ e in
      let y : drop ((i + 1) + length u) text ≡ codes " = " ++ (w ++ (10 ∷ z)) = past text (i + 1) u _ x in
      let v : drop (((i + 1) + length u) + 3) text ≡ w ++ (10 ∷ z) = past text ((i + 1) + length u) (codes " = ") _ y in
      rw (bytes-done text i (32 ∷ []) _ refl e, reads u s h (i + 1) _ x refl, bytes-done text ((i + 1) + length u) (codes " = ") _ refl y)
      (with-done (Write f (i + 1) (((i + 1) + length u) + 3)) (((i + 1) + length u) + 3) w z t k v)

  head_done : (l : ℕ → Line) (i : ℕ) (u z : List ℕ) → SomeExpr N o text u → length u ≤ 1024 → drop i text ≡ 32 ∷ (u ++ (10 ∷ z))
      → and_then (bytes_at text (codes " ") i) (λ e. with_expr_spec find text (l e) e) ≡ lined (l (i + 1)) ((i + 1) + (length u + 1))
  unfolding each_byte
  head_done l i u z s h e = rw (bytes-done text i (32 ∷ []) _ refl e) (with-done (l (i + 1)) (i + 1) u z s h (past-byte text i 32 _ e))

  -- the first word: a name, or a word of the language
  name-first : (k i : ℕ) (a z : List ℕ) → N k a → Apart z → drop i text ≡ a ++ z → bare_at find text i ≡ assign_at find text k (i + length a)
  unfolding bare_at
  name-first k i a z n p e =
      let h = named k a n in
      rw (word-done find text i a z h.some h.begins h.bytes h.short e p None (Some k) (key-free a h.free) (found k a n)) refl

  key-first : (k : Keyword) (i : ℕ) (z : List ℕ) → 1 ≤ length (written k) → letter (get_or (written k) 0 0) ≡ true → each_byte word_byte (written k) ≡ true → length (written k) ≤ 8 → Apart z
      → drop i text ≡ written k ++ z → bare_at find text i ≡ by_key find text k (i + length (written k))
  unfolding bare_at
  key-first k i z s b y l p e = rw (word-done find text i (written k) z s b y l e p (Some k) (find (written k)) (key-written k) refl) refl

  to-line : (i : ℕ) (l : Line) (n : ℕ) → n ≤ i + 1025 → bare_at find text i ≡ lined l n → line_at find text i ≡ lined l n
  unfolding line_at
  to-line i l n h e = rw (e, le-ltb 1025 (n - i) (omega arith)) refl

  pub line-done : (i : ℕ) (l : Line) (n : ℕ) → LineHere N o text i l n → n ≤ i + 1025 → line_at find text i ≡ lined l n
  unfolding LineHere by_key each_byte
  line-done i (Put k x) n (a, u, z, nk, s, ex, en, e) h =
      to-line i (Put k x) n h (name-first k i a (codes " = " ++ (u ++ (10 ∷ z))) nk refl e ∙ assign-done k (i + length a) u z s (omega arith) (past text i a _ e)
      ∙ (let q : (i + length a) + 3 ≡ x = omega arith in let r : ((i + length a) + 3) + (length u + 1) ≡ n = omega arith in rw (r, q) refl))
  line-done i (Read false k x) n (a, u, z, nk, s, ex, en, e) h =
      to-line i (Read false k x) n h (name-first k i a (codes " = cell " ++ (u ++ (10 ∷ z))) nk refl e ∙ read_done false (codes "cell") k (i + length a) u z (ap cell_kind_spec (key-written kw.Cell)) refl s (omega arith) (past text i a _ e)
      ∙ (let q : ((i + length a) + 3) + 5 ≡ x = omega arith in let r : (((i + length a) + 3) + 5) + (length u + 1) ≡ n = omega arith in rw (r, q) refl))
  line-done i (Read true k x) n (a, u, z, nk, s, ex, en, e) h =
      to-line i (Read true k x) n h (name-first k i a (codes " = field " ++ (u ++ (10 ∷ z))) nk refl e ∙ read_done true (codes "field") k (i + length a) u z (ap cell_kind_spec (key-written kw.Field)) refl s (omega arith) (past text i a _ e)
      ∙ (let q : ((i + length a) + 3) + 6 ≡ x = omega arith in let r : (((i + length a) + 3) + 6) + (length u + 1) ≡ n = omega arith in rw (r, q) refl))
  line-done i (Write false p v) n (u, w, z, s, t, ep, ev, en, e) h =
      to-line i (Write false p v) n h (key-first kw.Cell i _ (omega arith) refl refl (omega arith) refl e ∙ write_done false (i + 4) u w z s t (omega arith) (omega arith) (past text i (codes "cell") _ e)
      ∙ (let a : (i + 4) + 1 ≡ p = omega arith in let b : ((((i + 4) + 1) + length u) + 3) + (length w + 1) ≡ n = omega arith in let c : (((i + 4) + 1) + length u) + 3 ≡ v = omega arith in rw (b, c, a) refl))
  line-done i (Write true p v) n (u, w, z, s, t, ep, ev, en, e) h =
      to-line i (Write true p v) n h (key-first kw.Field i _ (omega arith) refl refl (omega arith) refl e ∙ write_done true (i + 5) u w z s t (omega arith) (omega arith) (past text i (codes "field") _ e)
      ∙ (let a : (i + 5) + 1 ≡ p = omega arith in let b : ((((i + 5) + 1) + length u) + 3) + (length w + 1) ≡ n = omega arith in let c : (((i + 5) + 1) + length u) + 3 ≡ v = omega arith in rw (b, c, a) refl))
  line-done i Barrier n (z, en, e) h =
      to-line i Barrier n h (key-first kw.Barrier i _ (omega arith) refl refl (omega arith) refl e ∙ closed-done Barrier (i + 7) z (past text i (codes "barrier") _ e) ∙ ap (λ m. lined Barrier m) (omega arith))
  line-done i (If x) n (u, z, s, ex, en, e) h =
      to-line i (If x) n h (key-first kw.If i _ (omega arith) refl refl (omega arith) refl e ∙ head_done If (i + 2) u z s (omega arith) (past text i (codes "if") _ e)
      ∙ (let q : (i + 2) + 1 ≡ x = omega arith in let r : ((i + 2) + 1) + (length u + 1) ≡ n = omega arith in rw (r, q) refl))
  line-done i Else n (z, en, e) h =
      to-line i Else n h (key-first kw.Else i _ (omega arith) refl refl (omega arith) refl e ∙ closed-done Else (i + 4) z (past text i (codes "else") _ e) ∙ ap (λ m. lined Else m) (omega arith))
  line-done i End n (z, en, e) h =
      to-line i End n h (key-first kw.End i _ (omega arith) refl refl (omega arith) refl e ∙ closed-done End (i + 3) z (past text i (codes "end") _ e) ∙ ap (λ m. lined End m) (omega arith))
  line-done i (While x) n (u, z, s, ex, en, e) h =
      to-line i (While x) n h (key-first kw.While i _ (omega arith) refl refl (omega arith) refl e ∙ head_done While (i + 5) u z s (omega arith) (past text i (codes "while") _ e)
      ∙ (let q : (i + 5) + 1 ≡ x = omega arith in let r : ((i + 5) + 1) + (length u + 1) ≡ n = omega arith in rw (r, q) refl))
