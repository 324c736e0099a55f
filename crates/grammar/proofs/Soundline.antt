-- What is read as a line is that line.
use Rattle.std.proofs.Common.{◌≡◌, ℕ, ◌+◌, ◌-◌, ◌<◌, ◌≤◌, Bool, true, false, ltb, ◌⊎◌, List, ◌∷◌, ◌++◌, length, drop, IfOk, Some, None, Ok, Err, codes, Option, Result, sym, refl, ap, ◌∙◌, inl, inr, arith}
use Rattle.std.proofs.lemmas.Bool.{ltb-false}
use Rattle.grammar.specs.Spelling.{word_byte}
use Rattle.grammar.specs.Refusals.{place_of}
use Rattle.grammar.specs.Runs.{run_of, written}
use Rattle.grammar.specs.Walk.{key_at, word_at, word_part, bytes_at, expr_at, and_then}
use Rattle.grammar.specs.WalkLine.{cell_kind_spec, with_expr_spec, closed, assign_at, assign_by, write_at, by_key, by_word, bare_at, within_line_spec, line_at}
use Rattle.grammar.specs.Lines.{SomeExpr, LineHere}
use Rattle.grammar.specs.declared.refusals.Refusal.{Refusal}
use Rattle.grammar.specs.declared.refusals.Refusal.TheVariants.{Shape, Long}
use Rattle.grammar.specs.declared.keywords.Keyword.{Keyword}
use Rattle.grammar.specs.declared.keywords.Keyword.TheVariants as kw
use Rattle.grammar.specs.declared.tokens.Word.{Word}
use Rattle.grammar.specs.declared.tokens.Word.TheVariants as word
use Rattle.grammar.specs.declared.lines.Line.{Line}
use Rattle.grammar.specs.declared.lines.Line.TheVariants.{Put, Read, Write, Barrier, If, Else, End, While}
use Rattle.grammar.specs.declared.lines.Lined.{Lined}
use Rattle.grammar.proofs.Sound.{cond_cases, then-parts, not_err, same_ok, bytes-sound, run-splits, run_length, key-sound, WordSays, word_sound}
use Rattle.grammar.proofs.Soundexpr.{expr_sound}

-- only the two words have a kind
pub kind-cell : (k : Option Keyword) (f : Bool) → cell_kind_spec k ≡ Some f → ((k ≡ Some kw.Cell) × (f ≡ false)) ⊎ ((k ≡ Some kw.Field) × (f ≡ true))
kind-cell None f e = let z : ◌≡◌ {A = ℕ} 0 1 = cc in absurd (omega arith)
kind-cell (Some kw.Own) f e = let z : ◌≡◌ {A = ℕ} 0 1 = cc in absurd (omega arith)
kind-cell (Some kw.Cells) f e = let z : ◌≡◌ {A = ℕ} 0 1 = cc in absurd (omega arith)
kind-cell (Some kw.Cell) f e = inl (refl, cc)
kind-cell (Some kw.Field) f e = inr (refl, cc)
kind-cell (Some kw.Barrier) f e = let z : ◌≡◌ {A = ℕ} 0 1 = cc in absurd (omega arith)
kind-cell (Some kw.If) f e = let z : ◌≡◌ {A = ℕ} 0 1 = cc in absurd (omega arith)
kind-cell (Some kw.Else) f e = let z : ◌≡◌ {A = ℕ} 0 1 = cc in absurd (omega arith)
kind-cell (Some kw.End) f e = let z : ◌≡◌ {A = ℕ} 0 1 = cc in absurd (omega arith)
kind-cell (Some kw.While) f e = let z : ◌≡◌ {A = ℕ} 0 1 = cc in absurd (omega arith)
kind-cell (Some kw.Lane) f e = let z : ◌≡◌ {A = ℕ} 0 1 = cc in absurd (omega arith)
kind-cell (Some kw.Group) f e = let z : ◌≡◌ {A = ℕ} 0 1 = cc in absurd (omega arith)
kind-cell (Some kw.Lanes) f e = let z : ◌≡◌ {A = ℕ} 0 1 = cc in absurd (omega arith)

module _ (find : List ℕ → Option ℕ) (text : List ℕ) (N : ℕ → List ℕ → Type 0) (o : ℕ) (finds : (k : ℕ) (u : List ℕ) → find u ≡ Some k → N k u × (k < o)) where
  closed-sound : (l : Line) (i : ℕ) (r : Lined) → closed text l i ≡ Ok r → (r.line ≡ l) × (r.next ≡ i + 1) × (drop i text ≡ 10 ∷ drop r.next text)
  unfolding closed
  closed-sound l i r e =
      let p = then-parts (bytes_at text (codes "\n") i) _ r e in
      let s = bytes-sound text (codes "\n") i p.0 p.1 in
      let q : record { line = l; next = p.0 } ≡ r = same_ok _ r p.2 in
      rw (sym q) (refl, s.1, s.0)

  -- an expression, and the end of the line
  record Ended (l : Line) (i : ℕ) (r : Lined) : Type 0 where
    spelling : List ℕ
    is : SomeExpr N o text spelling
    line_is : r.line ≡ l
    next_is : r.next ≡ i + (length spelling + 1)
    here : drop i text ≡ spelling ++ (10 ∷ drop r.next text)

  with_sound : (l : Line) (i : ℕ) (r : Lined) → with_expr_spec find text l i ≡ Ok r → Ended l i r
  unfolding with_expr_spec
  with_sound l i r e =
      let p = then-parts (expr_at find text 1024 i) _ r e in
      let x = expr_sound find text N o finds 1024 i p.0 p.1 in
      let c = closed-sound l p.0 r p.2 in
      record { spelling = x.spelling; is = x.is; line_is = c.0; next_is = omega (arith, c.1, x.end_is); here = x.here ∙ ap (λ t. x.spelling ++ t) c.2 }

  assign_cell : (k i j : ℕ) (f : Bool) (r : Lined) → cell_kind_spec (key_at text j) ≡ Some f → j ≡ i + 3
      → and_then (bytes_at text (codes " ") (j + run_of word_byte (drop j text))) (λ e. with_expr_spec find text (Read f k e) e) ≡ Ok r
      → (w : List ℕ) × (((w ≡ codes "cell") × (f ≡ false)) ⊎ ((w ≡ codes "field") × (f ≡ true))) × (drop j text ≡ w ++ (32 ∷ drop (j + (length w + 1)) text)) × Ended (Read f k (j + (length w + 1))) (j + (length w + 1)) r
  assign_cell k i j f r q _ e =
      let p = then-parts (bytes_at text (codes " ") (j + run_of word_byte (drop j text))) _ r e in
      let s = bytes-sound text (codes " ") (j + run_of word_byte (drop j text)) p.0 p.1 in
      let w : List ℕ = word_part text j in
      let n : p.0 ≡ j + (length w + 1) = omega (arith, s.1, run_length word_byte text j) in
      let x = with_sound (Read f k p.0) p.0 r p.2 in (
        w,
        elim (kind-cell (key_at text j) f q) [ inl h ↦ inl (key-sound w kw.Cell h.0, h.1) | inr h ↦ inr (key-sound w kw.Field h.0, h.1) ],
        run-splits word_byte text j ∙ ap (λ t. w ++ t) s.0 ∙ ap (λ m. w ++ (32 ∷ drop m text)) n,
        rw n at x,
      )

  -- the line that begins with the name a
  module _ (i k : ℕ) (a : List ℕ) (j : ℕ) (nk : N k a) (ha : drop i text ≡ a ++ drop j text) (ej : j ≡ i + length a) where
    put_here : (r : Lined) (m : ℕ) → m ≡ j + 3 → drop j text ≡ codes " = " ++ drop m text → Ended (Put k m) m r → LineHere N o text i r.line r.next
    unfolding LineHere
    put_here r m em hm x =
        rw x.line_is (a, x.spelling, drop r.next text, nk, x.is, omega arith, x.next_is, ha ∙ ap (λ t. a ++ t) (hm ∙ ap (λ t. codes " = " ++ t) x.here))

    read_cell : (r : Lined) (m : ℕ) (f : Bool) → f ≡ false → m ≡ j + 8 → drop j text ≡ codes " = cell " ++ drop m text → Ended (Read f k m) m r → LineHere N o text i r.line r.next
    unfolding LineHere
    read_cell r m f ef em hm x =
        rw (x.line_is, ef) (a, x.spelling, drop r.next text, nk, x.is, omega arith, x.next_is, ha ∙ ap (λ t. a ++ t) (hm ∙ ap (λ t. codes " = cell " ++ t) x.here))

    read-field : (r : Lined) (m : ℕ) (f : Bool) → f ≡ true → m ≡ j + 9 → drop j text ≡ codes " = field " ++ drop m text → Ended (Read f k m) m r → LineHere N o text i r.line r.next
    unfolding LineHere
    read-field r m f ef em hm x =
        rw (x.line_is, ef) (a, x.spelling, drop r.next text, nk, x.is, omega arith, x.next_is, ha ∙ ap (λ t. a ++ t) (hm ∙ ap (λ t. codes " = field " ++ t) x.here))

    assign_by_sound : (m : ℕ) (c : Option Bool) (r : Lined) → m ≡ j + 3 → drop j text ≡ codes " = " ++ drop m text → cell_kind_spec (key_at text m) ≡ c → assign_by find text k m c ≡ Ok r → LineHere N o text i r.line r.next
    assign_by_sound m None r em hm q e = put_here r m em hm (with_sound (Put k m) m r e)
    assign_by_sound m (Some f) r em hm q e =
        let x = assign_cell k j m f r q em e in
        elim x.1 [
          | inl p ↦
              let n : m + (length x.0 + 1) ≡ m + 5 = rw p.0 refl in
              read_cell r (m + 5) f p.1 (omega arith) (hm ∙ ap (λ t. codes " = " ++ t) (x.2 ∙ ap (λ t. t ++ (32 ∷ drop (m + (length x.0 + 1)) text)) p.0 ∙ ap (λ t. codes "cell" ++ (32 ∷ drop t text)) n)) (rw n at x.3)
          | inr p ↦
              let n : m + (length x.0 + 1) ≡ m + 6 = rw p.0 refl in
              read-field r (m + 6) f p.1 (omega arith) (hm ∙ ap (λ t. codes " = " ++ t) (x.2 ∙ ap (λ t. t ++ (32 ∷ drop (m + (length x.0 + 1)) text)) p.0 ∙ ap (λ t. codes "field" ++ (32 ∷ drop t text)) n)) (rw n at x.3)
        ]

    assign_sound : (r : Lined) → assign_at find text k j ≡ Ok r → LineHere N o text i r.line r.next
    unfolding assign_at
    assign_sound r e =
        let p = then-parts (bytes_at text (codes " = ") j) _ r e in
        let s = bytes-sound text (codes " = ") j p.0 p.1 in
        assign_by_sound p.0 (cell_kind_spec (key_at text p.0)) r s.1 s.0 refl p.2

  -- a line that begins with a word of the language, which ends at j
  record Written (l : Bool → ℕ → ℕ → Line) (f : Bool) (j : ℕ) (r : Lined) : Type 0 where
    first : List ℕ
    second : List ℕ
    first_is : SomeExpr N o text first
    second_is : SomeExpr N o text second
    line_is : r.line ≡ l f (j + 1) ((j + 1) + (length first + 3))
    next_is : r.next ≡ ((j + 1) + (length first + 3)) + (length second + 1)
    here : drop j text ≡ 32 ∷ (first ++ (codes " = " ++ (second ++ (10 ∷ drop r.next text))))

  write_sound : (f : Bool) (j : ℕ) (r : Lined) → write_at find text f j ≡ Ok r → Written Write f j r
  unfolding write_at
  write_sound f j r e =
      let p = then-parts (bytes_at text (codes " ") j) _ r e in
      let s = bytes-sound text (codes " ") j p.0 p.1 in
      let q = then-parts (expr_at find text 1024 p.0) _ r p.2 in
      let x = expr_sound find text N o finds 1024 p.0 q.0 q.1 in
      let t = then-parts (bytes_at text (codes " = ") q.0) _ r q.2 in
      let y = bytes-sound text (codes " = ") q.0 t.0 t.1 in
      let z = with_sound (Write f p.0 t.0) t.0 r t.2 in
      let a : p.0 ≡ j + 1 = s.1 in
      let b : t.0 ≡ (j + 1) + (length x.spelling + 3) = omega (arith, y.1, x.end_is, s.1) in
      record {
        first = x.spelling;
        second = z.spelling;
        first_is = x.is;
        second_is = z.is;
        line_is = z.line_is ∙ ap (λ m. Write f m t.0) a ∙ ap (λ m. Write f (j + 1) m) b;
        next_is = z.next_is ∙ ap (λ m. m + (length z.spelling + 1)) b;
        here = s.0 ∙ ap (λ m. 32 ∷ m) (x.here ∙ ap (λ m. x.spelling ++ m) (y.0 ∙ ap (λ m. codes " = " ++ m) z.here));
      }

  record Headed (l : ℕ → Line) (j : ℕ) (r : Lined) : Type 0 where
    spelling : List ℕ
    is : SomeExpr N o text spelling
    line_is : r.line ≡ l (j + 1)
    next_is : r.next ≡ (j + 1) + (length spelling + 1)
    here : drop j text ≡ 32 ∷ (spelling ++ (10 ∷ drop r.next text))

  head_sound : (l : ℕ → Line) (j : ℕ) (r : Lined) → and_then (bytes_at text (codes " ") j) (λ e. with_expr_spec find text (l e) e) ≡ Ok r → Headed l j r
  head_sound l j r e =
      let p = then-parts (bytes_at text (codes " ") j) _ r e in
      let s = bytes-sound text (codes " ") j p.0 p.1 in
      let x = with_sound (l p.0) p.0 r p.2 in
      record {
        spelling = x.spelling;
        is = x.is;
        line_is = x.line_is ∙ ap l s.1;
        next_is = x.next_is ∙ ap (λ m. m + (length x.spelling + 1)) s.1;
        here = s.0 ∙ ap (λ m. 32 ∷ m) x.here;
      }

  key_line : (k : Keyword) (i j : ℕ) (r : Lined) → drop i text ≡ written k ++ drop j text → j ≡ i + length (written k) → by_key find text k j ≡ Ok r → LineHere N o text i r.line r.next
  unfolding by_key LineHere
  key_line kw.Own i j r h n e = absurd (not_err (Shape j) r e)
  key_line kw.Cells i j r h n e = absurd (not_err (Shape j) r e)
  key_line kw.Cell i j r h n e =
      let x = write_sound false j r e in
      rw x.line_is (x.first, x.second, drop r.next text, x.first_is, x.second_is, omega arith, omega arith, x.next_is, h ∙ ap (λ t. codes "cell" ++ t) x.here)
  key_line kw.Field i j r h n e =
      let x = write_sound true j r e in
      rw x.line_is (x.first, x.second, drop r.next text, x.first_is, x.second_is, omega arith, omega arith, x.next_is, h ∙ ap (λ t. codes "field" ++ t) x.here)
  key_line kw.Barrier i j r h n e = let x = closed-sound Barrier j r e in rw x.0 (drop r.next text, omega (arith, x.1), h ∙ ap (λ t. codes "barrier" ++ t) x.2)
  key_line kw.If i j r h n e =
      let x = head_sound If j r e in
      rw x.line_is (x.spelling, drop r.next text, x.is, omega arith, x.next_is, h ∙ ap (λ t. codes "if" ++ t) x.here)
  key_line kw.Else i j r h n e = let x = closed-sound Else j r e in rw x.0 (drop r.next text, omega (arith, x.1), h ∙ ap (λ t. codes "else" ++ t) x.2)
  key_line kw.End i j r h n e = let x = closed-sound End j r e in rw x.0 (drop r.next text, omega (arith, x.1), h ∙ ap (λ t. codes "end" ++ t) x.2)
  key_line kw.While i j r h n e =
      let x = head_sound While j r e in
      rw x.line_is (x.spelling, drop r.next text, x.is, omega arith, x.next_is, h ∙ ap (λ t. codes "while" ++ t) x.here)
  key_line kw.Lane i j r h n e = absurd (not_err (Shape j) r e)
  key_line kw.Group i j r h n e = absurd (not_err (Shape j) r e)
  key_line kw.Lanes i j r h n e = absurd (not_err (Shape j) r e)

  word_line : (i : ℕ) (u : List ℕ) (w : Word) (j : ℕ) (r : Lined) → WordSays find u w → drop i text ≡ u ++ drop j text → j ≡ i + length u → by_word find text w j ≡ Ok r → LineHere N o text i r.line r.next
  word_line i u (word.Own k) j r s h n e = assign_sound i k u j (finds k u s.1).0 h n r e
  word_line i u (word.Key k) j r s h n e = key_line k i j r (h ∙ ap (λ t. t ++ drop j text) s) (n ∙ ap (λ t. i + length t) s) e

  pub bare_sound : (i : ℕ) (r : Lined) → bare_at find text i ≡ Ok r → LineHere N o text i r.line r.next
  unfolding bare_at
  bare_sound i r e =
      let p = then-parts (word_at find text i) _ r e in
      let w = word_sound find text i p.0 p.1 in
      word_line i (word_part text i) p.0.word p.0.end r w.says w.here w.end_is p.2

  -- a line that is taken has 1,024 bytes at most
  within_ok : (i : ℕ) (r : Result Lined Refusal) (l : Lined) → within_line_spec i r ≡ Ok l → (r ≡ Ok l) × (l.next - i ≤ 1025)
  within_ok i (Ok m) l e =
      elim (cond_cases (ltb 1025 (m.next - i)) _ _ (Ok l) e)
      [ inl p ↦ absurd (not_err (Long (i + 1024)) l p.1) | inr p ↦ let q : m ≡ l = same_ok m l p.1 in (ap (λ x. Ok x) q, rw (sym q) (ltb-false 1025 (m.next - i) p.0)) ]
  within_ok i (Err d) l e =
      elim (cond_cases (ltb 1024 (place_of d - i)) _ _ (Ok l) e) [ inl p ↦ absurd (not_err (Long (i + 1024)) l p.1) | inr p ↦ absurd (not_err d l p.1) ]

  pub line_sound : (i : ℕ) (r : Lined) → line_at find text i ≡ Ok r → LineHere N o text i r.line r.next × (r.next ≤ i + 1025)
  unfolding line_at
  line_sound i r e = let p = within_ok i (bare_at find text i) r e in (bare_sound i r p.0, omega (arith, p.1))

  pub line_made : (i : ℕ) (r : Result Lined Refusal) → r ≡ line_at find text i → IfOk r (λ l. LineHere N o text i l.line l.next × (l.next ≤ i + 1025))
  line_made i (Ok l) e = line_sound i l (sym e)
  line_made i (Err d) e = tt
