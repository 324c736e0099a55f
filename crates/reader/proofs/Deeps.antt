-- The lines that are read spell a body.
use Rattle.std.proofs.Common.{◌≡◌, ℕ, zero, suc, ◌+◌, ◌-◌, ◌<◌, ◌≤◌, Bool, true, false, ◌&&◌, eqb, leb, ◌≢◌, ◌⊎◌, List, [], ◌∷◌, ◌++◌, length, drop, Some, Ok, Err, codes, Option, Result, sym, refl, ap, ◌∙◌, subst, inl, inr, arith}
use Rattle.std.proofs.lemmas.List.{append_assoc, length-append}
use Rattle.std.proofs.lemmas.Bool.{leb-true, eqb-false, cases_eq, eq-eqb}
use Rattle.lanes.specs.Syntax.{Expr, Body, end, put, read_shared, write_shared, read_all, write_all, barrier, when, while}
use Rattle.lanes.specs.Told.{ExprFits, BodyFits}
use Rattle.grammar.specs.Spelling.{word_byte, each_byte, IsName, SpellsExpr, SpellsBody}
use Rattle.grammar.specs.Taken.{lines_in, lines_within, depth}
use Rattle.grammar.specs.Refusals.{place_of}
use Rattle.grammar.specs.Lines.{SomeExpr, LineHere}
use Rattle.grammar.specs.Walk.{key_at, key_of}
use Rattle.grammar.specs.WalkLine.{line_at}
use Rattle.grammar.specs.declared.refusals.Refusal.{Refusal}
use Rattle.grammar.specs.declared.refusals.Refusal.TheVariants.{Shape, ManyLines, Deep}
use Rattle.grammar.specs.declared.keywords.Keyword.TheVariants as kw
use Rattle.grammar.specs.declared.lines.Line.{Line}
use Rattle.grammar.specs.declared.lines.Line.TheVariants.{Put, Read, Write, Barrier, If, While}
use Rattle.grammar.specs.declared.lines.Line.TheVariants as line
use Rattle.grammar.specs.declared.lines.Lined.{Lined}
use Rattle.grammar.proofs.Complete.{past, part-here}
use Rattle.grammar.proofs.Walks.{key-written}
use Rattle.grammar.proofs.Sound.{cond_cases, then-parts, not_err, same_ok}
use Rattle.grammar.proofs.Soundline.{line_sound}
use Rattle.reader.specs.Blocks.{opens, kind_of_spec, is_else_spec, too_many, next_at, must_end_spec, must_as, must_loop_spec, must_loop_as, by_kind, block_at}
use Rattle.reader.specs.declared.blocks.Ending.{Ending}
use Rattle.reader.specs.declared.blocks.Ending.TheVariants.{Text, Else, End}
use Rattle.reader.specs.declared.blocks.Kind.{Kind}
use Rattle.reader.specs.declared.blocks.Kind.TheVariants.{Plain, Opens, Loops, Parts, Closes}
use Rattle.reader.specs.declared.blocks.Stop.{Stop}
use Rattle.reader.proofs.Counts.{lines-append, word-lines, expr-lines, OneLine, one_line}

never-many : (i : ℕ) (r : Result Lined Refusal) (l : Lined) → too_many i r ≡ Ok l → ⊥
never-many i (Ok m) l e = not_err (ManyLines i) l e
never-many i (Err d) l e = elim (cond_cases (eqb (place_of d) i) _ _ (Ok l) e) [ inl p ↦ not_err d l p.1 | inr p ↦ not_err (ManyLines i) l p.1 ]

module _ (find : List ℕ → Option ℕ) (text : List ℕ) (N : ℕ → List ℕ → Type 0) (o : ℕ) (finds : (k : ℕ) (u : List ℕ) → find u ≡ Some k → N k u × (k < o)) (named : (k : ℕ) (u : List ℕ) → N k u → IsName u)
    (room : (k : ℕ) (u : List ℕ) → N k u → k < o) where
  abbrev pub EndsAs : Ending → Stop → Type 0
  EndsAs Text s = (length text ≤ s.pos) × (s.next ≡ s.pos)
  EndsAs Else s = drop s.pos text ≡ codes "else" ++ (10 ∷ drop s.next text)
  EndsAs End s = drop s.pos text ≡ codes "end" ++ (10 ∷ drop s.next text)

  pub record Block (deep left i : ℕ) (some : Bool) (s : Stop) : Type 0 where
    pub body : Body
    pub bytes : List ℕ
    pub spells : SpellsBody N body bytes
    pub fits : BodyFits o body
    pub shallow : depth body ≤ deep
    pub here : drop i text ≡ bytes ++ drop s.pos text
    pub count : lines_in (drop i text) + s.left ≡ left + lines_in (drop s.next text)
    pub short : lines_within 1024 0 (drop i text) ≡ lines_within 1024 0 (drop s.next text)
    pub ends : EndsAs s.ending s
    pub lines : s.some ≡ true → (some ≡ true) ⊎ (body ≢ end)

  -- a line that opens nothing, before any body
  record Plainly (i n : ℕ) : Type 0 where
    make : Body → Body
    bytes : List ℕ
    spells : (b : Body) (t : List ℕ) → SpellsBody N b t → SpellsBody N (make b) (bytes ++ (10 ∷ t))
    fits : (b : Body) → BodyFits o b → BodyFits o (make b)
    flat : (b : Body) → depth (make b) ≡ depth b
    more : (b : Body) → make b ≢ end
    here : drop i text ≡ bytes ++ (10 ∷ drop n text)
    free : lines_in bytes ≡ 0
    few : length bytes ≤ 1024

  -- a line that opens a block
  record Opened (word : List ℕ) (i n : ℕ) : Type 0 where
    expr : Expr
    bytes : List ℕ
    spells : SpellsExpr N expr bytes
    fits : ExprFits o expr
    here : drop i text ≡ word ++ (bytes ++ (10 ∷ drop n text))
    free : lines_in (word ++ bytes) ≡ 0
    few : length (word ++ bytes) ≤ 1024

  name_free : (k : ℕ) (a : List ℕ) → N k a → lines_in a ≡ 0
  name_free k a n = word-lines a (named k a n).bytes

  expr_free : (u : List ℕ) → SomeExpr N o text u → lines_in u ≡ 0
  expr_free u s = expr-lines N named s.0 u s.1

  rest_is : (i n : ℕ) (w z : List ℕ) → drop i text ≡ w ++ (10 ∷ z) → n ≡ i + (length w + 1) → drop i text ≡ w ++ (10 ∷ drop n text)
  rest_is i n w z e q =
      let p : drop (i + (length w + 1)) text ≡ z = ap (λ m. drop m text) (omega (arith, length-append w (10 ∷ []))) ∙ past text i (w ++ (10 ∷ [])) z (e ∙ sym (append_assoc w (10 ∷ []) z)) in
      e ∙ ap (λ t. w ++ (10 ∷ t)) (sym p ∙ ap (λ m. drop m text) (sym q))

  two_parts : (a c u : List ℕ) (z : List ℕ) → a ++ (c ++ (u ++ z)) ≡ (a ++ (c ++ u)) ++ z
  two_parts a c u z = sym (append_assoc a (c ++ u) z ∙ ap (λ t. a ++ t) (append_assoc c u z))

  free_two : (a c u : List ℕ) → lines_in a ≡ 0 → lines_in c ≡ 0 → lines_in u ≡ 0 → lines_in (a ++ (c ++ u)) ≡ 0
  free_two a c u p q r = omega (arith, lines-append a (c ++ u), lines-append c u, p, q, r)

  long_two : (a c u : List ℕ) → length (a ++ (c ++ u)) ≡ length a + (length c + length u)
  long_two a c u = omega (arith, length-append a (c ++ u), length-append c u)

  lit_free : lines_in (codes " = ") ≡ 0
  unfolding lines_in
  lit_free = refl

  lit_cell : lines_in (codes " = cell ") ≡ 0
  unfolding lines_in
  lit_cell = refl

  lit_field : lines_in (codes " = field ") ≡ 0
  unfolding lines_in
  lit_field = refl

  lit_c : lines_in (codes "cell ") ≡ 0
  unfolding lines_in
  lit_c = refl

  lit_f : lines_in (codes "field ") ≡ 0
  unfolding lines_in
  lit_f = refl

  lit_b : lines_in (codes "barrier") ≡ 0
  unfolding lines_in
  lit_b = refl

  lit_if : lines_in (codes "if ") ≡ 0
  unfolding lines_in
  lit_if = refl

  lit_while : lines_in (codes "while ") ≡ 0
  unfolding lines_in
  lit_while = refl

  assigned : (mk : ℕ → Expr → Body → Body) (c : List ℕ) (i n k : ℕ) (a u z : List ℕ) → lines_in c ≡ 0 → N k a → (s : SomeExpr N o text u)
      → ((b : Body) (t : List ℕ) → SpellsBody N b t → SpellsBody N (mk k s.0 b) (a ++ (c ++ (u ++ (10 ∷ t)))))
      → ((b : Body) → BodyFits o b → BodyFits o (mk k s.0 b)) → ((b : Body) → depth (mk k s.0 b) ≡ depth b) → ((b : Body) → mk k s.0 b ≢ end)
      → drop i text ≡ a ++ (c ++ (u ++ (10 ∷ z))) → n ≡ i + (length a + (length c + (length u + 1))) → n ≤ i + 1025 → Plainly i n
  assigned mk c i n k a u z lc nk s sp ft fl mo e q h =
      let len = long_two a c u in
      record {
        make = mk k s.0;
        bytes = a ++ (c ++ u);
        spells = λ b t x. subst (SpellsBody N (mk k s.0 b)) (two_parts a c u (10 ∷ t)) (sp b t x);
        fits = ft;
        flat = fl;
        more = mo;
        here = rest_is i n (a ++ (c ++ u)) z (e ∙ two_parts a c u (10 ∷ z)) (omega (arith, len, q));
        free = free_two a c u (name_free k a nk) lc (expr_free u s);
        few = omega (arith, len, q, h);
      }

  written : (mk : Expr → Expr → Body → Body) (c : List ℕ) (i n : ℕ) (u w z : List ℕ) → lines_in c ≡ 0 → (s : SomeExpr N o text u) (t : SomeExpr N o text w)
      → ((b : Body) (y : List ℕ) → SpellsBody N b y → SpellsBody N (mk s.0 t.0 b) (c ++ (u ++ (codes " = " ++ (w ++ (10 ∷ y))))))
      → ((b : Body) → BodyFits o b → BodyFits o (mk s.0 t.0 b)) → ((b : Body) → depth (mk s.0 t.0 b) ≡ depth b) → ((b : Body) → mk s.0 t.0 b ≢ end)
      → drop i text ≡ c ++ (u ++ (codes " = " ++ (w ++ (10 ∷ z)))) → n ≡ i + (length c + (length u + (3 + (length w + 1)))) → n ≤ i + 1025 → Plainly i n
  written mk c i n u w z lc s t sp ft fl mo e q h =
      let x : (y : List ℕ) → c ++ (u ++ (codes " = " ++ (w ++ y))) ≡ (c ++ (u ++ (codes " = " ++ w))) ++ y = λ y. ap (λ m. c ++ m) (two_parts u (codes " = ") w y) ∙ sym (append_assoc c (u ++ (codes " = " ++ w)) y) in
      let len : length (c ++ (u ++ (codes " = " ++ w))) ≡ length c + (length u + (3 + length w)) = omega (arith, length-append c (u ++ (codes " = " ++ w)), long_two u (codes " = ") w) in
      record {
        make = mk s.0 t.0;
        bytes = c ++ (u ++ (codes " = " ++ w));
        spells = λ b y v. subst (SpellsBody N (mk s.0 t.0 b)) (x (10 ∷ y)) (sp b y v);
        fits = ft;
        flat = fl;
        more = mo;
        here = rest_is i n (c ++ (u ++ (codes " = " ++ w))) z (e ∙ x (10 ∷ z)) (omega (arith, len, q));
        free = omega (arith, lines-append c (u ++ (codes " = " ++ w)), free_two u (codes " = ") w (expr_free u s) lit_free (expr_free w t), lc);
        few = omega (arith, len, q, h);
      }

  opened : (c : List ℕ) (i n : ℕ) (u z : List ℕ) → lines_in c ≡ 0 → SomeExpr N o text u → drop i text ≡ c ++ (u ++ (10 ∷ z)) → n ≡ i + (length c + (length u + 1)) → n ≤ i + 1025 → Opened c i n
  opened c i n u z lc s e q h =
      let len = length-append c u in
      record {
        expr = s.0;
        bytes = u;
        spells = s.1;
        fits = s.2;
        here = rest_is i n (c ++ u) z (e ∙ sym (append_assoc c u (10 ∷ z))) (omega (arith, len, q)) ∙ append_assoc c u (10 ∷ drop n text);
        free = omega (arith, lines-append c u, lc, expr_free u s);
        few = omega (arith, len, q, h);
      }

  abbrev LineSays : Kind → ℕ → ℕ → Type 0
  LineSays Plain i n = Plainly i n
  LineSays Opens i n = Opened (codes "if ") i n × (opens (key_at text i) ≡ true)
  LineSays Loops i n = Opened (codes "while ") i n × (opens (key_at text i) ≡ true)
  LineSays Parts i n = drop i text ≡ codes "else" ++ (10 ∷ drop n text)
  LineSays Closes i n = drop i text ≡ codes "end" ++ (10 ∷ drop n text)

  if-opens : (i : ℕ) (z : List ℕ) → drop i text ≡ codes "if" ++ (32 ∷ z) → opens (key_at text i) ≡ true
  unfolding each_byte
  if-opens i z e = ap opens (ap key_of (part-here word_byte text i (codes "if") (32 ∷ z) refl refl e) ∙ key-written kw.If)

  while-opens : (i : ℕ) (z : List ℕ) → drop i text ≡ codes "while" ++ (32 ∷ z) → opens (key_at text i) ≡ true
  unfolding each_byte
  while-opens i z e = ap opens (ap key_of (part-here word_byte text i (codes "while") (32 ∷ z) refl refl e) ∙ key-written kw.While)

  line-says : (i : ℕ) (l : Line) (n : ℕ) → LineHere N o text i l n → n ≤ i + 1025 → LineSays (kind_of_spec l) i n
  unfolding LineHere SpellsBody BodyFits depth
  line-says i (Put k x) n (a, u, z, nk, s, ex, en, e) h =
      assigned put (codes " = ") i n k a u z lit_free nk s (λ b t v. (a, u, t, nk, s.1, v, refl)) (λ b f. (room k a nk, s.2, f)) (λ b. refl) (λ b q. let y : ◌≡◌ {A = ℕ} 0 1 = cc in omega arith) e (omega (arith, ex, en)) h
  line-says i (Read false k x) n (a, u, z, nk, s, ex, en, e) h =
      assigned read_shared (codes " = cell ") i n k a u z lit_cell nk s (λ b t v. (a, u, t, nk, s.1, v, refl)) (λ b f. (room k a nk, s.2, f)) (λ b. refl) (λ b q. let y : ◌≡◌ {A = ℕ} 0 1 = cc in omega arith) e (omega (arith, ex, en)) h
  line-says i (Read true k x) n (a, u, z, nk, s, ex, en, e) h =
      assigned read_all (codes " = field ") i n k a u z lit_field nk s (λ b t v. (a, u, t, nk, s.1, v, refl)) (λ b f. (room k a nk, s.2, f)) (λ b. refl) (λ b q. let y : ◌≡◌ {A = ℕ} 0 1 = cc in omega arith) e (omega (arith, ex, en)) h
  line-says i (Write false p v) n (u, w, z, s, t, ep, ev, en, e) h =
      written write_shared (codes "cell ") i n u w z lit_c s t (λ b y x. (u, w, y, s.1, t.1, x, refl)) (λ b f. (s.2, t.2, f)) (λ b. refl) (λ b q. let y : ◌≡◌ {A = ℕ} 0 1 = cc in omega arith) e (omega (arith, ep, ev, en)) h
  line-says i (Write true p v) n (u, w, z, s, t, ep, ev, en, e) h =
      written write_all (codes "field ") i n u w z lit_f s t (λ b y x. (u, w, y, s.1, t.1, x, refl)) (λ b f. (s.2, t.2, f)) (λ b. refl) (λ b q. let y : ◌≡◌ {A = ℕ} 0 1 = cc in omega arith) e (omega (arith, ep, ev, en)) h
  line-says i Barrier n (z, en, e) h =
      record {
        make = barrier;
        bytes = codes "barrier";
        spells = λ b t v. (t, v, refl);
        fits = λ b f. f;
        flat = λ b. refl;
        more = λ b q. let y : ◌≡◌ {A = ℕ} 0 1 = cc in omega arith;
        here = rest_is i n (codes "barrier") z e (omega (arith, en));
        free = lit_b;
        few = omega arith;
      }
  line-says i (If x) n (u, z, s, ex, en, e) h = (opened (codes "if ") i n u z lit_if s e (omega (arith, ex, en)) h, if-opens i (u ++ (10 ∷ z)) e)
  line-says i line.Else n (z, en, e) h = rest_is i n (codes "else") z e (omega (arith, en))
  line-says i line.End n (z, en, e) h = rest_is i n (codes "end") z e (omega (arith, en))
  line-says i (While x) n (u, z, s, ex, en, e) h = (opened (codes "while ") i n u z lit_while s e (omega (arith, ex, en)) h, while-opens i (u ++ (10 ∷ z)) e)

  -- the line that is read next
  next-says : (deep left i : ℕ) (l : Lined) → next_at find text deep left i ≡ Ok l → (0 < left) × ((eqb deep 0 && opens (key_at text i)) ≡ false) × LineSays (kind_of_spec l.line) i l.next
  unfolding next_at
  next-says deep left i l e =
      elim (cond_cases (eqb left 0) _ _ (Ok l) e) [
        | inl p ↦ absurd (never-many i (line_at find text i) l p.1)
        | inr p ↦
            let n : (left ≡ 0 → ⊥) = eqb-false left 0 p.0 in
            elim (cond_cases (eqb deep 0 && opens (key_at text i)) _ _ (Ok l) p.1) [
              | inl q ↦ absurd (not_err (Deep i) l q.1)
              | inr q ↦ let s = line_sound find text N o finds i l q.1 in (omega (arith, n), q.0, line-says i l.line l.next s.0 s.1)
            ]
      ]

  -- the blocks that a reader of less depth reads
  abbrev Reader : (ℕ → ℕ → ℕ → Bool → Result Stop Refusal) → Type 0
  Reader go = (deep left i : ℕ) (some : Bool) (s : Stop) → go deep left i some ≡ Ok s → Block deep left i some s

  ended : (g : Ending) (s e : Stop) → s.ending ≡ g → must_as End g s ≡ Ok e → (e ≡ s) × (drop s.pos text ≡ drop s.pos text) × (g ≡ End)
  ended Text s e q h = absurd (not_err _ e h)
  ended Else s e q h = absurd (not_err _ e h)
  ended End s e q h = (sym (same_ok s e h), refl, refl)

  looped : (g : Ending) (s e : Stop) → must_loop_as g s ≡ Ok e → (e ≡ s) × (g ≡ End) × (s.some ≡ true)
  looped Text s e h = absurd (not_err _ e h)
  looped Else s e h = absurd (not_err _ e h)
  looped End s e h = elim (cond_cases s.some _ _ (Ok e) h) [ inl p ↦ (sym (same_ok s e p.1), refl, p.0) | inr p ↦ absurd (not_err _ e p.1) ]

  else-as : (g : Ending) → is_else_spec g ≡ true → g ≡ Else
  else-as Text h = let z : ◌≡◌ {A = ℕ} 0 1 = cc in absurd (omega arith)
  else-as Else h = refl
  else-as End h = let z : ◌≡◌ {A = ℕ} 0 1 = cc in absurd (omega arith)

  deep-some : (deep : ℕ) (b : Bool) → b ≡ true → (eqb deep 0 && b) ≡ false → 0 < deep
  deep-some deep true h e = elim (cases_eq deep 0) [ inl p ↦ absurd (let q : ◌≡◌ {A = Bool} true false = sym (rw (eq-eqb deep 0 p) refl) ∙ e in let z : ◌≡◌ {A = ℕ} 0 1 = cc in omega arith) | inr p ↦ omega (arith, p) ]
  deep-some deep false h e = let z : ◌≡◌ {A = ℕ} 0 1 = cc in absurd (omega arith)

  -- plain lines
  plain-block : (deep left i n : ℕ) (some : Bool) (s : Stop) → 0 < left → Plainly i n → Block deep (left - 1) n true s → Block deep left i some s
  plain-block deep left i n some s h p r =
      let q = one_line text i n p.bytes p.free p.few p.here in
      record {
        body = p.make r.body;
        bytes = p.bytes ++ (10 ∷ r.bytes);
        spells = p.spells r.body r.bytes r.spells;
        fits = p.fits r.body r.fits;
        shallow = omega (arith, p.flat r.body, r.shallow);
        here = p.here ∙ ap (λ t. p.bytes ++ (10 ∷ t)) r.here ∙ sym (append_assoc p.bytes (10 ∷ r.bytes) (drop s.pos text));
        count = omega (arith, q.count, r.count, h);
        short = q.short ∙ r.short;
        ends = r.ends;
        lines = λ _. inr (p.more r.body);
      }

  -- an end line
  end_line : (i n : ℕ) → drop i text ≡ codes "end" ++ (10 ∷ drop n text) → OneLine text i n
  unfolding lines_in
  end_line i n e = one_line text i n (codes "end") refl (omega arith) e

  else_line : (i n : ℕ) → drop i text ≡ codes "else" ++ (10 ∷ drop n text) → OneLine text i n
  unfolding lines_in
  else_line i n e = one_line text i n (codes "else") refl (omega arith) e

  -- Block's count and short speak of what is behind the ending line
  while-block : (deep left i n : ℕ) (some : Bool) (c s : Stop) → 0 < left → 0 < deep → Opened (codes "while ") i n → Block (deep - 1) (left - 1) n false c → c.ending ≡ End → c.some ≡ true
      → Block deep c.left c.next true s → Block deep left i some s
  unfolding SpellsBody BodyFits depth
  while-block deep left i n some c s h d p x g m r =
      let q = one_line text i n (codes "while " ++ p.bytes) p.free p.few (p.here ∙ sym (append_assoc (codes "while ") p.bytes (10 ∷ drop n text))) in
      let y : drop c.pos text ≡ codes "end" ++ (10 ∷ drop c.next text) = subst (λ v. EndsAs v c) g x.ends in
      let ne : x.body ≢ end = elim (x.lines m) [ inl w ↦ (λ _. let z : ◌≡◌ {A = ℕ} 0 1 = cc in omega arith) | inr w ↦ w ] in
      record {
        body = while p.expr x.body r.body;
        bytes = codes "while " ++ (p.bytes ++ (10 ∷ (x.bytes ++ (codes "end" ++ (10 ∷ r.bytes)))));
        spells = (p.bytes, x.bytes, r.bytes, p.spells, x.spells, ne, r.spells, refl);
        fits = (p.fits, x.fits, ne, r.fits);
        shallow = omega (arith, x.shallow, r.shallow, d);
        here = p.here ∙ ap (λ t. codes "while " ++ (p.bytes ++ (10 ∷ t))) (x.here ∙ ap (λ t. x.bytes ++ t) (y ∙ ap (λ t. codes "end" ++ (10 ∷ t)) r.here))
            ∙ sym (append_assoc (codes "while ") (p.bytes ++ (10 ∷ (x.bytes ++ (codes "end" ++ (10 ∷ r.bytes))))) (drop s.pos text)
            ∙ ap (λ t. codes "while " ++ t) (append_assoc p.bytes (10 ∷ (x.bytes ++ (codes "end" ++ (10 ∷ r.bytes)))) (drop s.pos text)
            ∙ ap (λ t. p.bytes ++ (10 ∷ t)) (append_assoc x.bytes (codes "end" ++ (10 ∷ r.bytes)) (drop s.pos text))));
        count = omega (arith, q.count, x.count, r.count, h);
        short = q.short ∙ x.short ∙ r.short;
        ends = r.ends;
        lines = λ _. inr (λ e. let z : ◌≡◌ {A = ℕ} 0 1 = cc in omega arith);
      }

  if-block : (deep left i n : ℕ) (some : Bool) (c s : Stop) → 0 < left → 0 < deep → Opened (codes "if ") i n → Block (deep - 1) (left - 1) n false c → c.ending ≡ End → Block deep c.left c.next true s → Block deep left i some s
  unfolding SpellsBody BodyFits depth
  if-block deep left i n some c s h d p x g r =
      let q = one_line text i n (codes "if " ++ p.bytes) p.free p.few (p.here ∙ sym (append_assoc (codes "if ") p.bytes (10 ∷ drop n text))) in
      let y : drop c.pos text ≡ codes "end" ++ (10 ∷ drop c.next text) = subst (λ v. EndsAs v c) g x.ends in
      record {
        body = when p.expr x.body end r.body;
        bytes = codes "if " ++ (p.bytes ++ (10 ∷ (x.bytes ++ (codes "end" ++ (10 ∷ r.bytes)))));
        spells = (p.bytes, x.bytes, [], r.bytes, p.spells, x.spells, inl (refl, refl), r.spells, refl);
        fits = (p.fits, x.fits, tt, r.fits);
        shallow = omega (arith, x.shallow, r.shallow, d);
        here = p.here ∙ ap (λ t. codes "if " ++ (p.bytes ++ (10 ∷ t))) (x.here ∙ ap (λ t. x.bytes ++ t) (y ∙ ap (λ t. codes "end" ++ (10 ∷ t)) r.here))
            ∙ sym (append_assoc (codes "if ") (p.bytes ++ (10 ∷ (x.bytes ++ (codes "end" ++ (10 ∷ r.bytes))))) (drop s.pos text)
            ∙ ap (λ t. codes "if " ++ t) (append_assoc p.bytes (10 ∷ (x.bytes ++ (codes "end" ++ (10 ∷ r.bytes)))) (drop s.pos text)
            ∙ ap (λ t. p.bytes ++ (10 ∷ t)) (append_assoc x.bytes (codes "end" ++ (10 ∷ r.bytes)) (drop s.pos text))));
        count = omega (arith, q.count, x.count, r.count, h);
        short = q.short ∙ x.short ∙ r.short;
        ends = r.ends;
        lines = λ _. inr (λ e. let z : ◌≡◌ {A = ℕ} 0 1 = cc in omega arith);
      }

  else-block : (deep left i n : ℕ) (some : Bool) (c w s : Stop) → 0 < left → 0 < deep → Opened (codes "if ") i n → Block (deep - 1) (left - 1) n false c → c.ending ≡ Else
      → Block (deep - 1) c.left c.next false w → w.ending ≡ End → Block deep w.left w.next true s → Block deep left i some s
  unfolding SpellsBody BodyFits depth
  else-block deep left i n some c w s h d p x g v k r =
      let q = one_line text i n (codes "if " ++ p.bytes) p.free p.few (p.here ∙ sym (append_assoc (codes "if ") p.bytes (10 ∷ drop n text))) in
      let y : drop c.pos text ≡ codes "else" ++ (10 ∷ drop c.next text) = subst (λ m. EndsAs m c) g x.ends in
      let y2 : drop w.pos text ≡ codes "end" ++ (10 ∷ drop w.next text) = subst (λ m. EndsAs m w) k v.ends in
      let tail : List ℕ = codes "end" ++ (10 ∷ r.bytes) in
      let ew : List ℕ = codes "else" ++ (10 ∷ v.bytes) in
      let z : List ℕ = drop s.pos text in
      record {
        body = when p.expr x.body v.body r.body;
        bytes = codes "if " ++ (p.bytes ++ (10 ∷ (x.bytes ++ (ew ++ tail))));
        spells = (p.bytes, x.bytes, ew, r.bytes, p.spells, x.spells, inr (v.bytes, v.spells, refl), r.spells, refl);
        fits = (p.fits, x.fits, v.fits, r.fits);
        shallow = omega (arith, x.shallow, v.shallow, r.shallow, d);
        here = p.here ∙ ap (λ t. codes "if " ++ (p.bytes ++ (10 ∷ t)))
            (x.here ∙ ap (λ t. x.bytes ++ t) (y ∙ ap (λ t. codes "else" ++ (10 ∷ t)) (v.here ∙ ap (λ t. v.bytes ++ t) (y2 ∙ ap (λ t. codes "end" ++ (10 ∷ t)) r.here))))
            ∙ sym (append_assoc (codes "if ") (p.bytes ++ (10 ∷ (x.bytes ++ (ew ++ tail)))) z
            ∙ ap (λ t. codes "if " ++ t) (append_assoc p.bytes (10 ∷ (x.bytes ++ (ew ++ tail))) z
            ∙ ap (λ t. p.bytes ++ (10 ∷ t)) (append_assoc x.bytes (ew ++ tail) z ∙ ap (λ t. x.bytes ++ t) (append_assoc ew tail z ∙ ap (λ t. codes "else" ++ (10 ∷ t)) refl))));
        count = omega (arith, q.count, x.count, v.count, r.count, h);
        short = q.short ∙ x.short ∙ v.short ∙ r.short;
        ends = r.ends;
        lines = λ _. inr (λ e. let z : ◌≡◌ {A = ℕ} 0 1 = cc in omega arith);
      }

  kind-sound : (go : ℕ → ℕ → ℕ → Bool → Result Stop Refusal) → Reader go → (deep left i n : ℕ) (some : Bool) (k : Kind) (s : Stop)
      → 0 < left → (eqb deep 0 && opens (key_at text i)) ≡ false → LineSays k i n → by_kind go deep left i some k n ≡ Ok s → Block deep left i some s
  unfolding SpellsBody BodyFits depth
  kind-sound go rd deep left i n some Plain s h d p e = plain-block deep left i n some s h p (rd deep (left - 1) n true s e)
  kind-sound go rd deep left i n some Opens s h d p e =
      let a = then-parts (go (deep - 1) (left - 1) n false) _ s e in
      let x = rd (deep - 1) (left - 1) n false a.0 a.1 in
      let dd = deep-some deep (opens (key_at text i)) p.1 d in
      elim (cond_cases (is_else_spec a.0.ending) _ _ (Ok s) a.2) [
        | inl q ↦
            let b = then-parts (go (deep - 1) a.0.left a.0.next false) _ s q.1 in
            let y = rd (deep - 1) a.0.left a.0.next false b.0 b.1 in
            let c = then-parts (must_end_spec b.0) _ s b.2 in
            let f = ended b.0.ending b.0 c.0 refl c.1 in
            let r = rd deep c.0.left c.0.next true s c.2 in
            else-block deep left i n some a.0 b.0 s h dd p.0 x (else-as a.0.ending q.0) y f.2 (subst (λ m. Block deep m.left m.next true s) f.0 r)
        | inr q ↦
            let c = then-parts (must_end_spec a.0) _ s q.1 in
            let f = ended a.0.ending a.0 c.0 refl c.1 in
            let r = rd deep c.0.left c.0.next true s c.2 in
            if-block deep left i n some a.0 s h dd p.0 x f.2 (subst (λ m. Block deep m.left m.next true s) f.0 r)
      ]
  kind-sound go rd deep left i n some Loops s h d p e =
      let a = then-parts (go (deep - 1) (left - 1) n false) _ s e in
      let x = rd (deep - 1) (left - 1) n false a.0 a.1 in
      let dd = deep-some deep (opens (key_at text i)) p.1 d in
      let c = then-parts (must_loop_spec a.0) _ s a.2 in
      let f = looped a.0.ending a.0 c.0 c.1 in
      let r = rd deep c.0.left c.0.next true s c.2 in
      while-block deep left i n some a.0 s h dd p.0 x f.1 f.2 (subst (λ m. Block deep m.left m.next true s) f.0 r)
  kind-sound go rd deep left i n some Parts s h d p e =
      let q : record { ending = Else; some = some; pos = i; next = n; left = left - 1 } ≡ s = same_ok _ s e in
      let l = else_line i n p in
      subst (Block deep left i some) q
      (record { body = end; bytes = []; spells = refl; fits = tt; shallow = omega arith; here = refl; count = omega (arith, l.count, h); short = l.short; ends = p; lines = λ m. inl m })
  kind-sound go rd deep left i n some Closes s h d p e =
      let q : record { ending = End; some = some; pos = i; next = n; left = left - 1 } ≡ s = same_ok _ s e in
      let l = end_line i n p in
      subst (Block deep left i some) q
      (record { body = end; bytes = []; spells = refl; fits = tt; shallow = omega arith; here = refl; count = omega (arith, l.count, h); short = l.short; ends = p; lines = λ m. inl m })

  pub block-sound : (f deep left i : ℕ) (some : Bool) (s : Stop) → block_at find text f deep left i some ≡ Ok s → Block deep left i some s
  unfolding block_at SpellsBody BodyFits depth
  block-sound zero deep left i some s e = absurd (not_err (Shape i) s e)
  block-sound (suc f) deep left i some s e =
      elim (cond_cases (leb (length text) i) _ _ (Ok s) e) [
        | inl p ↦
            let q : record { ending = Text; some = some; pos = i; next = i; left = left } ≡ s = same_ok _ s p.1 in
            subst (Block deep left i some) q
            (record { body = end; bytes = []; spells = refl; fits = tt; shallow = omega arith; here = refl; count = omega arith; short = refl; ends = (leb-true (length text) i p.0, refl); lines = λ m. inl m })
        | inr p ↦
            let a = then-parts (next_at find text deep left i) _ s p.1 in
            let n = next-says deep left i a.0 a.1 in
            kind-sound (block_at find text f) (λ d l j b t. block-sound f d l j b t) deep left i a.0.next some (kind_of_spec a.0.line) s n.0 n.1 n.2 a.2
      ]
