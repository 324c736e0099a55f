-- What has the shape of a line is never refused for its shape, and is read as a line of its kind, to its end.
use Rattle.std.proofs.Common.{◌≡◌, ℕ, ◌+◌, ◌-◌, ◌≤◌, Bool, true, false, ltb, List, [], ◌∷◌, ◌++◌, length, get_or, drop, Some, None, Ok, Err, codes, Option, Result, sym, refl, ap, ◌∙◌, arith}
use Rattle.lanes.specs.Syntax.{Expr}
use Rattle.grammar.specs.Spelling.{letter, word_byte, each_byte, IsName, SpellsExpr, AnyName}
use Rattle.grammar.specs.Stands.{Apart}
use Rattle.grammar.specs.Refusals.{place_of}
use Rattle.grammar.specs.Runs.{written}
use Rattle.grammar.specs.Walk.{key_of, key_at, some_token, bytes_at, expr_at, and_then}
use Rattle.grammar.specs.WalkLine.{cell_kind_spec, with_expr_spec, closed, assign_at, write_at, by_key, by_word, bare_at, within_line_spec, line_at}
use Rattle.grammar.specs.declared.refusals.Refusal.{Refusal}
use Rattle.grammar.specs.declared.refusals.Refusal.TheVariants.{Unknown, Long}
use Rattle.grammar.specs.declared.keywords.Keyword.{Keyword}
use Rattle.grammar.specs.declared.keywords.Keyword.TheVariants as kw
use Rattle.grammar.specs.declared.lines.Line.{Line}
use Rattle.grammar.specs.declared.lines.Line.TheVariants.{Put, Read, Write, Barrier, If, Else, End, While}
use Rattle.grammar.specs.declared.lines.Lined.{Lined}
use Rattle.grammar.proofs.Walks.{key-written}
use Rattle.grammar.proofs.Complete.{past, past-byte, bytes-done, run-here, part-here, key-free, word-done}
use Rattle.grammar.proofs.Linedone.{no_cell}
use Rattle.grammar.proofs.Goesonright.{Good, good-ok, good-other, good-then, good-cond, no-unknown, no-long, At, expr-right}

-- the kinds of lines: one that stands alone, the first of an if, an else, an end, the first of a while
pub data Kind : Type 0 where
  alone : Kind
  opens_if : Kind
  other : Kind
  ends : Kind
  opens_while : Kind

abbrev pub kind_of_spec : Line → Kind
kind_of_spec (Put k x) = alone
kind_of_spec (Read f k x) = alone
kind_of_spec (Write f p v) = alone
kind_of_spec Barrier = alone
kind_of_spec (If x) = opens_if
kind_of_spec Else = other
kind_of_spec End = ends
kind_of_spec (While x) = opens_while

-- a line of this kind that ends before byte n
abbrev pub OfKind : Kind → ℕ → Lined → Type 0
OfKind c n l = (kind_of_spec l.line ≡ c) × (l.next ≡ n)

abbrev pub Shaped : List ℕ → Type 0
Shaped u = (e : Expr) × SpellsExpr AnyName e u

any-named : (k : ℕ) (u : List ℕ) → AnyName k u → IsName u
any-named k u h = h

module _ (find : List ℕ → Option ℕ) (text : List ℕ) where
  closed-right : (l : Line) (i : ℕ) (z : List ℕ) → drop i text ≡ 10 ∷ z → Good (closed text l i) (OfKind (kind_of_spec l) (i + 1))
  unfolding closed each_byte
  closed-right l i z e = rw (bytes-done text i (codes "\n") z refl e) (good-ok _ (OfKind (kind_of_spec l) (i + 1)) (refl, refl))

  with-right : (l : Line) (i : ℕ) (u z : List ℕ) → Shaped u → drop i text ≡ u ++ (10 ∷ z) → Good (with_expr_spec find text l i) (OfKind (kind_of_spec l) ((i + length u) + 1))
  unfolding with_expr_spec
  with-right l i u z s e =
      good-then (expr_at find text 1024 i) _ (At find text (i + length u)) (OfKind (kind_of_spec l) ((i + length u) + 1)) (expr-right find text s.0 1024 u s.1 i (10 ∷ z) e refl)
      (λ j ej. rw ej (closed-right l (i + length u) z (past text i u (10 ∷ z) e)))

  assign-right : (k i : ℕ) (u z : List ℕ) → Shaped u → drop i text ≡ codes " = " ++ (u ++ (10 ∷ z)) → Good (assign_at find text k i) (OfKind alone (((i + 3) + length u) + 1))
  unfolding assign_at each_byte
  assign-right k i u z s e =
      let x : drop (i + 3) text ≡ u ++ (10 ∷ z) = past text i (codes " = ") _ e in
      rw (bytes-done text i (codes " = ") _ refl e, no_cell text (i + 3) (10 ∷ z) refl AnyName any-named s.0 u s.1 x) (with-right (Put k (i + 3)) (i + 3) u z s x)

  read_right : (f : Bool) (w : List ℕ) (k i : ℕ) (u z : List ℕ) → cell_kind_spec (key_of w) ≡ Some f → each_byte word_byte w ≡ true → Shaped u
      → drop i text ≡ codes " = " ++ (w ++ (32 ∷ (u ++ (10 ∷ z)))) → Good (assign_at find text k i) (OfKind alone (((((i + 3) + length w) + 1) + length u) + 1))
  unfolding assign_at each_byte
  read_right f w k i u z c b s e =
      let x : drop (i + 3) text ≡ w ++ (32 ∷ (u ++ (10 ∷ z))) = past text i (codes " = ") _ e in
      let y : drop ((i + 3) + length w) text ≡ 32 ∷ (u ++ (10 ∷ z)) = past text (i + 3) w _ x in
      let v : drop (((i + 3) + length w) + 1) text ≡ u ++ (10 ∷ z) = past-byte text ((i + 3) + length w) 32 _ y in
      let q : cell_kind_spec (key_at text (i + 3)) ≡ Some f = ap (λ t. cell_kind_spec (key_of t)) (part-here word_byte text (i + 3) w _ b refl x) ∙ c in
      rw (bytes-done text i (codes " = ") _ refl e, q, run-here word_byte text (i + 3) w _ b refl x, bytes-done text ((i + 3) + length w) (32 ∷ []) _ refl y)
      (with-right (Read f k (((i + 3) + length w) + 1)) (((i + 3) + length w) + 1) u z s v)

  write-right : (f : Bool) (i : ℕ) (u w z : List ℕ) → Shaped u → Shaped w → drop i text ≡ 32 ∷ (u ++ (codes " = " ++ (w ++ (10 ∷ z))))
      → Good (write_at find text f i) (OfKind alone (((((i + 1) + length u) + 3) + length w) + 1))
  unfolding write_at each_byte
  write-right f i u w z s t e =
      let x : drop (i + 1) text ≡ u ++ (codes " = " ++ (w ++ (10 ∷ z))) = past-byte text i 32 _ e in
      let y : drop ((i + 1) + length u) text ≡ codes " = " ++ (w ++ (10 ∷ z)) = past text (i + 1) u _ x in
      let v : drop (((i + 1) + length u) + 3) text ≡ w ++ (10 ∷ z) = past text ((i + 1) + length u) (codes " = ") _ y in
      rw (bytes-done text i (32 ∷ []) _ refl e)
      (good-then (expr_at find text 1024 (i + 1)) _ (At find text ((i + 1) + length u)) (OfKind alone (((((i + 1) + length u) + 3) + length w) + 1)) (expr-right find text s.0 1024 u s.1 (i + 1) _ x refl)
      (λ j ej. rw (ej, bytes-done text ((i + 1) + length u) (codes " = ") _ refl y) (with-right (Write f (i + 1) (((i + 1) + length u) + 3)) (((i + 1) + length u) + 3) w z t v)))

  head-right : (l : ℕ → Line) (c : Kind) (i : ℕ) (u z : List ℕ) → ((m : ℕ) → kind_of_spec (l m) ≡ c) → Shaped u → drop i text ≡ 32 ∷ (u ++ (10 ∷ z))
      → Good (and_then (bytes_at text (codes " ") i) (λ e. with_expr_spec find text (l e) e)) (OfKind c (((i + 1) + length u) + 1))
  unfolding each_byte
  head-right l c i u z k s e = rw (bytes-done text i (32 ∷ []) _ refl e, sym (k (i + 1))) (with-right (l (i + 1)) (i + 1) u z s (past-byte text i 32 _ e))

  -- the first word
  name_by : (o : Option ℕ) (i j : ℕ) (P : Lined → Type 0) → ((k : ℕ) → Good (assign_at find text k j) P) → Good (and_then (some_token None o i j) (λ t. by_word find text t.word t.end)) P
  name_by None i j P h = good-other (Unknown i) P (no-unknown i)
  name_by (Some k) i j P h = h k

  name-first : (i : ℕ) (a z : List ℕ) (P : Lined → Type 0) → IsName a → Apart z → drop i text ≡ a ++ z → ((k : ℕ) → Good (assign_at find text k (i + length a)) P) → Good (bare_at find text i) P
  unfolding bare_at
  name-first i a z P h p e g = rw (word-done find text i a z h.some h.begins h.bytes h.short e p None (find a) (key-free a h.free) refl) (name_by (find a) i (i + length a) P g)

  key-first : (k : Keyword) (i : ℕ) (z : List ℕ) (P : Lined → Type 0) → 1 ≤ length (written k) → letter (get_or (written k) 0 0) ≡ true → each_byte word_byte (written k) ≡ true → length (written k) ≤ 8 → Apart z
      → drop i text ≡ written k ++ z → Good (by_key find text k (i + length (written k))) P → Good (bare_at find text i) P
  unfolding bare_at
  key-first k i z P s b y l p e g = rw (word-done find text i (written k) z s b y l e p (Some k) (find (written k)) (key-written k) refl) g

  good-within : (i : ℕ) (r : Result Lined Refusal) (P : Lined → Type 0) → Good r P → Good (within_line_spec i r) P
  good-within i (Ok l) P g = good-cond (ltb 1025 (l.next - i)) (Err (Long (i + 1024))) (Ok l) P (good-other (Long (i + 1024)) P (no-long (i + 1024))) g
  good-within i (Err d) P g = good-cond (ltb 1024 (place_of d - i)) (Err (Long (i + 1024))) (Err d) P (good-other (Long (i + 1024)) P (no-long (i + 1024))) g

  to-line : (i : ℕ) (P : Lined → Type 0) → Good (bare_at find text i) P → Good (line_at find text i) P
  unfolding line_at
  to-line i P g = good-within i (bare_at find text i) P g

  -- each kind of line, with what is behind it
  pub put-line-right : (i : ℕ) (a u z : List ℕ) → IsName a → Shaped u → drop i text ≡ a ++ (codes " = " ++ (u ++ (10 ∷ z))) → Good (line_at find text i) (OfKind alone ((((i + length a) + 3) + length u) + 1))
  put-line-right i a u z h s e = to-line i _ (name-first i a _ _ h refl e (λ k. assign-right k (i + length a) u z s (past text i a _ e)))

  pub read-cell-right : (i : ℕ) (a u z : List ℕ) → IsName a → Shaped u → drop i text ≡ a ++ (codes " = cell " ++ (u ++ (10 ∷ z))) → Good (line_at find text i) (OfKind alone ((((((i + length a) + 3) + 4) + 1) + length u) + 1))
  unfolding each_byte
  read-cell-right i a u z h s e = to-line i _ (name-first i a _ _ h refl e (λ k. read_right false (codes "cell") k (i + length a) u z (ap cell_kind_spec (key-written kw.Cell)) refl s (past text i a _ e)))

  pub read-field-right : (i : ℕ) (a u z : List ℕ) → IsName a → Shaped u → drop i text ≡ a ++ (codes " = field " ++ (u ++ (10 ∷ z))) → Good (line_at find text i) (OfKind alone ((((((i + length a) + 3) + 5) + 1) + length u) + 1))
  unfolding each_byte
  read-field-right i a u z h s e = to-line i _ (name-first i a _ _ h refl e (λ k. read_right true (codes "field") k (i + length a) u z (ap cell_kind_spec (key-written kw.Field)) refl s (past text i a _ e)))

  pub write-cell-right : (i : ℕ) (u w z : List ℕ) → Shaped u → Shaped w → drop i text ≡ codes "cell " ++ (u ++ (codes " = " ++ (w ++ (10 ∷ z)))) → Good (line_at find text i) (OfKind alone ((((((i + 4) + 1) + length u) + 3) + length w) + 1))
  unfolding each_byte by_key
  write-cell-right i u w z s t e = to-line i _ (key-first kw.Cell i _ _ (omega arith) refl refl (omega arith) refl e (write-right false (i + 4) u w z s t (past text i (codes "cell") _ e)))

  pub write-field-right : (i : ℕ) (u w z : List ℕ) → Shaped u → Shaped w → drop i text ≡ codes "field " ++ (u ++ (codes " = " ++ (w ++ (10 ∷ z)))) → Good (line_at find text i) (OfKind alone ((((((i + 5) + 1) + length u) + 3) + length w) + 1))
  unfolding each_byte by_key
  write-field-right i u w z s t e = to-line i _ (key-first kw.Field i _ _ (omega arith) refl refl (omega arith) refl e (write-right true (i + 5) u w z s t (past text i (codes "field") _ e)))

  pub barrier-right : (i : ℕ) (z : List ℕ) → drop i text ≡ codes "barrier" ++ (10 ∷ z) → Good (line_at find text i) (OfKind alone ((i + 7) + 1))
  unfolding each_byte by_key
  barrier-right i z e = to-line i _ (key-first kw.Barrier i _ _ (omega arith) refl refl (omega arith) refl e (closed-right Barrier (i + 7) z (past text i (codes "barrier") _ e)))

  pub else-right : (i : ℕ) (z : List ℕ) → drop i text ≡ codes "else" ++ (10 ∷ z) → Good (line_at find text i) (OfKind other ((i + 4) + 1))
  unfolding each_byte by_key
  else-right i z e = to-line i _ (key-first kw.Else i _ _ (omega arith) refl refl (omega arith) refl e (closed-right Else (i + 4) z (past text i (codes "else") _ e)))

  pub end-right : (i : ℕ) (z : List ℕ) → drop i text ≡ codes "end" ++ (10 ∷ z) → Good (line_at find text i) (OfKind ends ((i + 3) + 1))
  unfolding each_byte by_key
  end-right i z e = to-line i _ (key-first kw.End i _ _ (omega arith) refl refl (omega arith) refl e (closed-right End (i + 3) z (past text i (codes "end") _ e)))

  pub if-right : (i : ℕ) (u z : List ℕ) → Shaped u → drop i text ≡ codes "if " ++ (u ++ (10 ∷ z)) → Good (line_at find text i) (OfKind opens_if ((((i + 2) + 1) + length u) + 1))
  unfolding each_byte by_key
  if-right i u z s e = to-line i _ (key-first kw.If i _ _ (omega arith) refl refl (omega arith) refl e (head-right If opens_if (i + 2) u z (λ m. refl) s (past text i (codes "if") _ e)))

  pub while-right : (i : ℕ) (u z : List ℕ) → Shaped u → drop i text ≡ codes "while " ++ (u ++ (10 ∷ z)) → Good (line_at find text i) (OfKind opens_while ((((i + 5) + 1) + length u) + 1))
  unfolding each_byte by_key
  while-right i u z s e = to-line i _ (key-first kw.While i _ _ (omega arith) refl refl (omega arith) refl e (head-right While opens_while (i + 5) u z (λ m. refl) s (past text i (codes "while") _ e)))
