-- What is refused for its shape can go on up to the place where it is refused: lines. A line that is begun goes on to a body of one line,
-- or to an if or a while with its end.
use Rattle.std.proofs.Common.{◌≡◌, ℕ, ◌+◌, ◌<◌, Bool, true, false, eqb, ◌≢◌, ◌⊎◌, List, [], ◌∷◌, ◌++◌, length, get_or, drop, Some, None, Ok, Err, codes, Option, Result, sym, refl, ap, ◌∙◌, inl, inr, arith}
use Rattle.std.proofs.lemmas.List.{append_assoc, length-append}
use Rattle.lanes.specs.Syntax.{Expr, Body, end, put, read_shared, write_shared, read_all, write_all, barrier, when, while}
use Rattle.grammar.specs.Spelling.{word_byte, IsName, SpellsBody, AnyName}
use Rattle.grammar.specs.Runs.{run_of, written}
use Rattle.grammar.specs.Walk.{key_at, word_part, word_at, bytes_at, expr_at, and_then}
use Rattle.grammar.specs.WalkLine.{cell_kind_spec, with_expr_spec, closed, assign_at, assign_by, write_at, by_key, by_word, bare_at, line_at}
use Rattle.grammar.specs.Lines.{LineHere}
use Rattle.grammar.specs.declared.refusals.Refusal.{Refusal}
use Rattle.grammar.specs.declared.refusals.Refusal.TheVariants.{Shape}
use Rattle.grammar.specs.declared.keywords.Keyword.{Keyword}
use Rattle.grammar.specs.declared.keywords.Keyword.TheVariants as kw
use Rattle.grammar.specs.declared.tokens.Word.{Word}
use Rattle.grammar.specs.declared.tokens.Word.TheVariants as word
use Rattle.grammar.specs.declared.lines.Line.{Line}
use Rattle.grammar.specs.declared.lines.Line.TheVariants.{Put, Read, Write, Barrier, If, Else, End, While}
use Rattle.grammar.specs.declared.lines.Lined.{Lined}
use Rattle.grammar.proofs.Complete.{past}
use Rattle.grammar.proofs.Sound.{cond_cases, run-splits, run_length, key-sound, WordSays, word_sound}
use Rattle.grammar.proofs.Soundline.{kind-cell, line_sound}
use Rattle.grammar.proofs.Goesonline.{then-fails, closed_is, within-err}
use Rattle.grammar.proofs.Goesonlines.{Shaped}
use Rattle.grammar.proofs.Goesonfront.{Just, Both, Front, Got, front_map, got_map, front_none, front_first, front_second, front_then, got_bytes, front_bytes, front_word, front_key, got_word, got-expr, front-expr, shaped-zero}

-- lines, one at least, with what they end
pub record Bodied (t : List ℕ) : Type 0 where
  pub lines : Body
  pub spells : SpellsBody AnyName lines t
  pub some : lines ≢ end

abbrev pub Ended : List ℕ → Type 0
Ended = Both Shaped (Just (codes "\n"))

abbrev CellWord : List ℕ → Type 0
CellWord t = (t ≡ codes "cell") ⊎ (t ≡ codes "field")

abbrev RightSide : List ℕ → Type 0
RightSide t = Ended t ⊎ Both CellWord (Both (Just (codes " ")) Ended) t

abbrev Assigned : List ℕ → Type 0
Assigned = Both (Just (codes " = ")) RightSide

abbrev WrittenTo : List ℕ → Type 0
WrittenTo = Both (Just (codes " ")) (Both Shaped (Both (Just (codes " = ")) Ended))

abbrev Headed : List ℕ → Type 0
Headed = Both (Just (codes " ")) Ended

ended_is : (t : List ℕ) (b : Ended t) → t ≡ b.left ++ (10 ∷ [])
ended_is t b = b.is ∙ ap (λ r. b.left ++ r) b.two

just-is : (w : List ℕ) (M : List ℕ → Type 0) (t : List ℕ) (b : Both (Just w) M t) → t ≡ w ++ b.right
just-is w M t b = b.is ∙ ap (λ l. l ++ b.right) b.one

ended-zero : Ended (codes "0\n")
ended-zero = record { left = codes "0"; right = codes "\n"; one = shaped-zero; two = refl; is = refl }

assigned-zero : Assigned (codes " = 0\n")
assigned-zero = record { left = codes " = "; right = codes "0\n"; one = refl; two = inl ended-zero; is = refl }

not-end-put : (k : ℕ) (e : Expr) (b : Body) → put k e b ≢ end
not-end-put k e b q = let z : ◌≡◌ {A = ℕ} 0 1 = cc in omega arith

not-end-read : (k : ℕ) (e : Expr) (b : Body) → read_shared k e b ≢ end
not-end-read k e b q = let z : ◌≡◌ {A = ℕ} 0 1 = cc in omega arith

not-end-read-all : (k : ℕ) (e : Expr) (b : Body) → read_all k e b ≢ end
not-end-read-all k e b q = let z : ◌≡◌ {A = ℕ} 0 1 = cc in omega arith

not-end-write : (e f : Expr) (b : Body) → write_shared e f b ≢ end
not-end-write e f b q = let z : ◌≡◌ {A = ℕ} 0 1 = cc in omega arith

not-end-write_all : (e f : Expr) (b : Body) → write_all e f b ≢ end
not-end-write_all e f b q = let z : ◌≡◌ {A = ℕ} 0 1 = cc in omega arith

pub not-end-barrier : (b : Body) → barrier b ≢ end
not-end-barrier b q = let z : ◌≡◌ {A = ℕ} 0 1 = cc in omega arith

pub not-end-when : (e : Expr) (c d b : Body) → when e c d b ≢ end
not-end-when e c d b q = let z : ◌≡◌ {A = ℕ} 0 1 = cc in omega arith

pub not-end-while : (e : Expr) (c b : Body) → while e c b ≢ end
not-end-while e c b q = let z : ◌≡◌ {A = ℕ} 0 1 = cc in omega arith

-- lines from their parts
put-body : (a u t : List ℕ) → IsName a → Shaped u → t ≡ a ++ (codes " = " ++ (u ++ (10 ∷ []))) → Bodied t
unfolding SpellsBody
put-body a u t h (e, s) q = record { lines = put 0 e end; spells = (a, u, [], h, s, refl, q); some = not-end-put 0 e end }

cell-body : (a u t : List ℕ) → IsName a → Shaped u → t ≡ a ++ (codes " = cell " ++ (u ++ (10 ∷ []))) → Bodied t
unfolding SpellsBody
cell-body a u t h (e, s) q = record { lines = read_shared 0 e end; spells = (a, u, [], h, s, refl, q); some = not-end-read 0 e end }

field-body : (a u t : List ℕ) → IsName a → Shaped u → t ≡ a ++ (codes " = field " ++ (u ++ (10 ∷ []))) → Bodied t
unfolding SpellsBody
field-body a u t h (e, s) q = record { lines = read_all 0 e end; spells = (a, u, [], h, s, refl, q); some = not-end-read-all 0 e end }

write-cell-body : (u v t : List ℕ) → Shaped u → Shaped v → t ≡ codes "cell " ++ (u ++ (codes " = " ++ (v ++ (10 ∷ [])))) → Bodied t
unfolding SpellsBody
write-cell-body u v t (e, s) (f, r) q = record { lines = write_shared e f end; spells = (u, v, [], s, r, refl, q); some = not-end-write e f end }

write-field-body : (u v t : List ℕ) → Shaped u → Shaped v → t ≡ codes "field " ++ (u ++ (codes " = " ++ (v ++ (10 ∷ [])))) → Bodied t
unfolding SpellsBody
write-field-body u v t (e, s) (f, r) q = record { lines = write_all e f end; spells = (u, v, [], s, r, refl, q); some = not-end-write_all e f end }

barrier-body : Bodied (codes "barrier\n")
unfolding SpellsBody
barrier-body = record { lines = barrier end; spells = ([], refl, refl); some = not-end-barrier end }

if-body : (u t : List ℕ) → Shaped u → t ≡ codes "if " ++ (u ++ codes "\nend\n") → Bodied t
unfolding SpellsBody
if-body u t (e, s) q = record { lines = when e end end end; spells = (u, [], [], [], s, refl, inl (refl, refl), refl, q); some = not-end-when e end end end }

while-body : (u t : List ℕ) → Shaped u → t ≡ codes "while " ++ (u ++ codes "\nbarrier\nend\n") → Bodied t
unfolding SpellsBody
while-body u t (e, s) q = record { lines = while e (barrier end) end; spells = (u, codes "barrier\n", [], s, ([], refl, refl), not-end-barrier end, refl, q); some = not-end-while e (barrier end) end }

assigned-body : (t : List ℕ) → Both IsName Assigned t → Bodied t
assigned-body t b =
    let a : List ℕ = b.left in
    let c = b.two in
    let q : t ≡ a ++ (codes " = " ++ c.right) = b.is ∙ ap (λ r. a ++ r) (just-is (codes " = ") RightSide b.right c) in
    elim c.two [
      | inl d ↦ put-body a d.left t b.one d.one (q ∙ ap (λ r. a ++ (codes " = " ++ r)) (ended_is c.right d))
      | inr d ↦
          let f = d.two in
          let x : d.right ≡ 32 ∷ (f.two.left ++ (10 ∷ [])) = just-is (codes " ") Ended d.right f ∙ ap (λ r. 32 ∷ r) (ended_is f.right f.two) in
          elim d.one [
            | inl w ↦ cell-body a f.two.left t b.one f.two.one (q ∙ ap (λ r. a ++ (codes " = " ++ r)) (d.is ∙ ap (λ l. l ++ d.right) w ∙ ap (λ r. codes "cell" ++ r) x))
            | inr w ↦ field-body a f.two.left t b.one f.two.one (q ∙ ap (λ r. a ++ (codes " = " ++ r)) (d.is ∙ ap (λ l. l ++ d.right) w ∙ ap (λ r. codes "field" ++ r) x))
          ]
    ]

written_is : (t : List ℕ) (b : WrittenTo t) → t ≡ 32 ∷ (b.two.left ++ (codes " = " ++ (b.two.two.two.left ++ (10 ∷ []))))
written_is t b =
    just-is (codes " ") _ t b ∙ ap (λ r. 32 ∷ r) (b.two.is ∙ ap (λ r. b.two.left ++ r) (just-is (codes " = ") Ended b.two.right b.two.two ∙ ap (λ r. codes " = " ++ r) (ended_is b.two.two.right b.two.two.two)))

cell-written : (t : List ℕ) → Both (Just (codes "cell")) WrittenTo t → Bodied t
cell-written t b =
    write-cell-body b.two.two.left b.two.two.two.two.left t b.two.two.one b.two.two.two.two.one (just-is (codes "cell") WrittenTo t b ∙ ap (λ r. codes "cell" ++ r) (written_is b.right b.two))

field-written : (t : List ℕ) → Both (Just (codes "field")) WrittenTo t → Bodied t
field-written t b =
    write-field-body b.two.two.left b.two.two.two.two.left t b.two.two.one b.two.two.two.two.one (just-is (codes "field") WrittenTo t b ∙ ap (λ r. codes "field" ++ r) (written_is b.right b.two))

headed-is : (t : List ℕ) (b : Headed t) → t ≡ 32 ∷ (b.two.left ++ (10 ∷ []))
headed-is t b = just-is (codes " ") Ended t b ∙ ap (λ r. 32 ∷ r) (ended_is b.right b.two)

headed-with : (w v t : List ℕ) (b : Both (Both (Just w) Headed) (Just v) t) → t ≡ w ++ (32 ∷ (b.one.two.two.left ++ (10 ∷ v)))
headed-with w v t b =
    let u : List ℕ = b.one.two.two.left in
    b.is ∙ ap (λ l. l ++ b.right) (just-is w Headed b.left b.one ∙ ap (λ r. w ++ r) (headed-is b.one.right b.one.two)) ∙ ap (λ r. (w ++ (32 ∷ (u ++ (10 ∷ [])))) ++ r) b.two
    ∙ append_assoc w (32 ∷ (u ++ (10 ∷ []))) v ∙ ap (λ r. w ++ (32 ∷ r)) (append_assoc u (10 ∷ []) v)

if-headed : (t : List ℕ) → Both (Both (Just (codes "if")) Headed) (Just (codes "end\n")) t → Bodied t
if-headed t b = if-body b.one.two.two.left t b.one.two.two.one (headed-with (codes "if") (codes "end\n") t b)

while-headed : (t : List ℕ) → Both (Both (Just (codes "while")) Headed) (Just (codes "barrier\nend\n")) t → Bodied t
while-headed t b = while-body b.one.two.two.left t b.one.two.two.one (headed-with (codes "while") (codes "barrier\nend\n") t b)

assigned-side : Both (Just (codes " = ")) Ended (codes " = 0\n")
assigned-side = record { left = codes " = "; right = codes "0\n"; one = refl; two = ended-zero; is = refl }

written-rest : Both Shaped (Both (Just (codes " = ")) Ended) (codes "0 = 0\n")
written-rest = record { left = codes "0"; right = codes " = 0\n"; one = shaped-zero; two = assigned-side; is = refl }

-- a line that is read
abbrev pub HeadOf : List ℕ → List ℕ → Type 0
HeadOf w t = (u : List ℕ) × Shaped u × (t ≡ w ++ (u ++ (10 ∷ [])))

abbrev pub LineOf : Line → List ℕ → Type 0
LineOf (Put k x) t = Bodied t
LineOf (Read f k x) t = Bodied t
LineOf (Write f p v) t = Bodied t
LineOf Barrier t = Bodied t
LineOf (If x) t = HeadOf (codes "if ") t
LineOf Else t = Just (codes "else\n") t
LineOf End t = Just (codes "end\n") t
LineOf (While x) t = HeadOf (codes "while ") t

module _ (text : List ℕ) (find : List ℕ → Option ℕ) (o : ℕ) (finds : (k : ℕ) (u : List ℕ) → find u ≡ Some k → AnyName k u × (k < o)) where
  closed-place : (l : Line) (i p : ℕ) → closed text l i ≡ Err (Shape p) → i ≡ p
  closed-place l i p e =
      elim (cond_cases (eqb (get_or text i 0) 10) _ _ (Err (Shape p)) (sym (closed_is find text text text l i) ∙ e))
      [ inl h ↦ let x = h.1 in let z : ◌≡◌ {A = ℕ} 0 1 = cc in absurd (omega arith) | inr h ↦ let x = h.1 in cc ]

  front-with : (l : Line) (i p : ℕ) → with_expr_spec find text l i ≡ Err (Shape p) → Front text Ended i p
  unfolding with_expr_spec
  front-with l i p e =
      front_then text Shaped (Just (codes "\n")) (λ j. j) i p (codes "\n") (expr_at find text 1024 i) _ refl (λ q. front-expr text find o finds 1024 i q) (λ j. got-expr text find o finds 1024 i j)
      (λ j _ h. let n : j ≡ p = closed-place l j p h in rw (sym n) (front_none text (Just (codes "\n")) j (codes "\n") refl)) e

  front-headed : (l : ℕ → Line) (i p : ℕ) → and_then (bytes_at text (codes " ") i) (λ e. with_expr_spec find text (l e) e) ≡ Err (Shape p) → Front text Headed i p
  front-headed l i p e =
      front_then text (Just (codes " ")) Ended (λ j. j) i p (codes "0\n") (bytes_at text (codes " ") i) _ ended-zero (λ q. front_bytes text (codes " ") i q) (λ j. got_bytes text (codes " ") i j) (λ j _. front-with (l j) j p) e

  got-cell-word : (j : ℕ) (f : Bool) → cell_kind_spec (key_at text j) ≡ Some f → Got text CellWord j (j + run_of word_byte (drop j text))
  got-cell-word j f h =
      record {
        bytes = word_part text j;
        is = elim (kind-cell (key_at text j) f h) [ inl p ↦ inl (key-sound (word_part text j) kw.Cell p.0) | inr p ↦ inr (key-sound (word_part text j) kw.Field p.0) ];
        here = run-splits word_byte text j;
        end_is = omega (arith, run_length word_byte text j);
      }

  front-side : (k j p : ℕ) (c : Option Bool) → cell_kind_spec (key_at text j) ≡ c → assign_by find text k j c ≡ Err (Shape p) → Front text RightSide j p
  front-side k j p None h e = front_map text Ended RightSide j p (λ t x. inl x) (front-with (Put k j) j p e)
  front-side k j p (Some f) h e =
      front_map text (Both CellWord Headed) RightSide j p (λ t x. inr x)
      (front_second text CellWord Headed j (j + run_of word_byte (drop j text)) p (got-cell-word j f h) (front-headed (λ m. Read f k m) (j + run_of word_byte (drop j text)) p e))

  front-assign : (k i p : ℕ) → assign_at find text k i ≡ Err (Shape p) → Front text Assigned i p
  unfolding assign_at
  front-assign k i p e =
      front_then text (Just (codes " = ")) RightSide (λ j. j) i p (codes "0\n") (bytes_at text (codes " = ") i) _ (inl ended-zero) (λ q. front_bytes text (codes " = ") i q) (λ j. got_bytes text (codes " = ") i j)
      (λ j _. front-side k j p (cell_kind_spec (key_at text j)) refl) e

  front-write : (f : Bool) (i p : ℕ) → write_at find text f i ≡ Err (Shape p) → Front text WrittenTo i p
  unfolding write_at
  front-write f i p e =
      front_then text (Just (codes " ")) (Both Shaped (Both (Just (codes " = ")) Ended)) (λ j. j) i p (codes "0 = 0\n") (bytes_at text (codes " ") i) _ written-rest (λ q. front_bytes text (codes " ") i q) (λ j. got_bytes text (codes " ") i j)
      (λ a _. front_then text Shaped (Both (Just (codes " = ")) Ended) (λ j. j) a p (codes " = 0\n") (expr_at find text 1024 a) _ assigned-side (λ q. front-expr text find o finds 1024 a q) (λ j. got-expr text find o finds 1024 a j)
      (λ j _. front_then text (Just (codes " = ")) Ended (λ m. m) j p (codes "0\n") (bytes_at text (codes " = ") j) _ ended-zero (λ q. front_bytes text (codes " = ") j q) (λ m. got_bytes text (codes " = ") j m)
      (λ v _. front-with (Write f a v) v p))) e

  -- a name that is begun
  pub front-named : (i p : ℕ) → Front text IsName i p → Front text Bodied i p
  front-named i p f = front_map text (Both IsName Assigned) Bodied i p assigned-body (front_first text IsName Assigned i p (codes " = 0\n") f assigned-zero)

  key-named : (k : Keyword) (i j p : ℕ) → Got text (Just (written k)) i j → j ≡ p → Front text Bodied i p
  key-named k i j p g n = rw (sym n) (front-named i j (front_key text find k i j g))

  shape-place : (j p : ℕ) → ◌≡◌ {A = Result Lined Refusal} (Err (Shape j)) (Err (Shape p)) → j ≡ p
  shape-place j p e = cc

  front-by-key : (k : Keyword) (i j p : ℕ) → Got text (Just (written k)) i j → by_key find text k j ≡ Err (Shape p) → Front text Bodied i p
  unfolding by_key
  front-by-key kw.Own i j p g e = key-named kw.Own i j p g (shape-place j p e)
  front-by-key kw.Cells i j p g e = key-named kw.Cells i j p g (shape-place j p e)
  front-by-key kw.Cell i j p g e = front_map text (Both (Just (codes "cell")) WrittenTo) Bodied i p cell-written (front_second text (Just (codes "cell")) WrittenTo i j p g (front-write false j p e))
  front-by-key kw.Field i j p g e = front_map text (Both (Just (codes "field")) WrittenTo) Bodied i p field-written (front_second text (Just (codes "field")) WrittenTo i j p g (front-write true j p e))
  front-by-key kw.Barrier i j p g e = key-named kw.Barrier i j p g (closed-place Barrier j p e)
  front-by-key kw.If i j p g e =
      front_map text (Both (Both (Just (codes "if")) Headed) (Just (codes "end\n"))) Bodied i p if-headed
      (front_first text (Both (Just (codes "if")) Headed) (Just (codes "end\n")) i p (codes "end\n") (front_second text (Just (codes "if")) Headed i j p g (front-headed If j p e)) refl)
  front-by-key kw.Else i j p g e = key-named kw.Else i j p g (closed-place Else j p e)
  front-by-key kw.End i j p g e = key-named kw.End i j p g (closed-place End j p e)
  front-by-key kw.While i j p g e =
      front_map text (Both (Both (Just (codes "while")) Headed) (Just (codes "barrier\nend\n"))) Bodied i p while-headed
      (front_first text (Both (Just (codes "while")) Headed) (Just (codes "barrier\nend\n")) i p (codes "barrier\nend\n") (front_second text (Just (codes "while")) Headed i j p g (front-headed While j p e)) refl)
  front-by-key kw.Lane i j p g e = key-named kw.Lane i j p g (shape-place j p e)
  front-by-key kw.Group i j p g e = key-named kw.Group i j p g (shape-place j p e)
  front-by-key kw.Lanes i j p g e = key-named kw.Lanes i j p g (shape-place j p e)

  front-by-word : (w : Word) (u : List ℕ) (i j p : ℕ) → WordSays find u w → Got text (Just u) i j → by_word find text w j ≡ Err (Shape p) → Front text Bodied i p
  front-by-word (word.Own k) u i j p s g e =
      front_map text (Both IsName Assigned) Bodied i p assigned-body
      (front_second text IsName Assigned i j p (got_map text (Just u) IsName i j (λ t q. rw q (finds k u s.1).0) g) (front-assign k j p e))
  front-by-word (word.Key k) u i j p s g e = front-by-key k i j p (got_map text (Just u) (Just (written k)) i j (λ t q. q ∙ s) g) e

  front-bare : (i p : ℕ) → bare_at find text i ≡ Err (Shape p) → Front text Bodied i p
  unfolding bare_at
  front-bare i p e =
      elim (then-fails (word_at find text i) _ (Shape p) e) [
        | inl q ↦ front-named i p (front_word text find i p q)
        | inr q ↦ front-by-word q.0.word (word_part text i) i q.0.end p (word_sound find text i q.0 q.1).says (got_word text find i q.0 q.1) q.2
      ]

  -- the line at a byte
  pub front-line : (i p : ℕ) → line_at find text i ≡ Err (Shape p) → Front text Bodied i p
  unfolding line_at
  front-line i p e = front-bare i p (within-err find text i p (bare_at find text i) e)

  got-from : (L : List ℕ → Type 0) (i n : ℕ) (w z : List ℕ) → L w → drop i text ≡ w ++ z → n ≡ i + length w → Got text L i n
  got-from L i n w z h e m = let q : drop n text ≡ z = ap (λ k. drop k text) m ∙ past text i w z e in record { bytes = w; is = h; here = e ∙ ap (λ t. w ++ t) (sym q); end_is = m }

  long-line : (a c u : List ℕ) → length (a ++ (c ++ (u ++ (10 ∷ [])))) ≡ length a + (length c + (length u + 1))
  long-line a c u = omega (arith, length-append a (c ++ (u ++ (10 ∷ []))), length-append c (u ++ (10 ∷ [])), length-append u (10 ∷ []))

  split-line : (a c u z : List ℕ) → a ++ (c ++ (u ++ (10 ∷ z))) ≡ (a ++ (c ++ (u ++ (10 ∷ [])))) ++ z
  split-line a c u z = sym (append_assoc a (c ++ (u ++ (10 ∷ []))) z ∙ ap (λ r. a ++ r) (append_assoc c (u ++ (10 ∷ [])) z ∙ ap (λ r. c ++ r) (append_assoc u (10 ∷ []) z)))

  here-line : (i : ℕ) (l : Line) (n : ℕ) → LineHere AnyName o text i l n → Got text (LineOf l) i n
  unfolding LineHere
  here-line i (Put k x) n (a, u, z, h, s, ex, en, e) =
      got-from Bodied i n (a ++ (codes " = " ++ (u ++ (10 ∷ [])))) z (put-body a u _ h (s.0, s.1) refl) (e ∙ split-line a (codes " = ") u z) (omega (arith, long-line a (codes " = ") u))
  here-line i (Read false k x) n (a, u, z, h, s, ex, en, e) =
      got-from Bodied i n (a ++ (codes " = cell " ++ (u ++ (10 ∷ [])))) z (cell-body a u _ h (s.0, s.1) refl) (e ∙ split-line a (codes " = cell ") u z) (omega (arith, long-line a (codes " = cell ") u))
  here-line i (Read true k x) n (a, u, z, h, s, ex, en, e) =
      got-from Bodied i n (a ++ (codes " = field " ++ (u ++ (10 ∷ [])))) z (field-body a u _ h (s.0, s.1) refl) (e ∙ split-line a (codes " = field ") u z) (omega (arith, long-line a (codes " = field ") u))
  here-line i (Write false p v) n (u, w, z, s, r, ep, ev, en, e) =
      got-from Bodied i n (codes "cell " ++ (u ++ (codes " = " ++ (w ++ (10 ∷ []))))) z (write-cell-body u w _ (s.0, s.1) (r.0, r.1) refl)
      (e ∙ ap (λ t. codes "cell " ++ t) (split-line u (codes " = ") w z)) (omega (arith, long-line u (codes " = ") w))
  here-line i (Write true p v) n (u, w, z, s, r, ep, ev, en, e) =
      got-from Bodied i n (codes "field " ++ (u ++ (codes " = " ++ (w ++ (10 ∷ []))))) z (write-field-body u w _ (s.0, s.1) (r.0, r.1) refl)
      (e ∙ ap (λ t. codes "field " ++ t) (split-line u (codes " = ") w z)) (omega (arith, long-line u (codes " = ") w))
  here-line i Barrier n (z, en, e) = got-from Bodied i n (codes "barrier\n") z barrier-body e en
  here-line i (If x) n (u, z, s, ex, en, e) =
      got-from (HeadOf (codes "if ")) i n (codes "if " ++ (u ++ (10 ∷ []))) z (u, (s.0, s.1), refl) (e ∙ split-line [] (codes "if ") u z) (omega (arith, long-line [] (codes "if ") u))
  here-line i Else n (z, en, e) = got-from (Just (codes "else\n")) i n (codes "else\n") z refl e en
  here-line i End n (z, en, e) = got-from (Just (codes "end\n")) i n (codes "end\n") z refl e en
  here-line i (While x) n (u, z, s, ex, en, e) =
      got-from (HeadOf (codes "while ")) i n (codes "while " ++ (u ++ (10 ∷ []))) z (u, (s.0, s.1), refl) (e ∙ split-line [] (codes "while ") u z) (omega (arith, long-line [] (codes "while ") u))

  pub got-line : (i : ℕ) (r : Lined) → line_at find text i ≡ Ok r → Got text (LineOf r.line) i r.next
  got-line i r e = here-line i r.line r.next (line_sound find text AnyName o finds i r e).0
