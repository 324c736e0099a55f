-- Lines that have their shape are never refused for it, and are read to where they end.
use Rattle.std.proofs.Common.{◌≡◌, ℕ, zero, suc, ◌+◌, ◌-◌, ◌<◌, ◌≤◌, Bool, true, false, ◌&&◌, eqb, leb, ◌≢◌, ◌⊎◌, List, [], ◌∷◌, ◌++◌, length, drop, Ok, Err, codes, Option, Result, sym, refl, ap, ◌∙◌, inl, inr, arith}
use Rattle.std.proofs.lemmas.List.{append_assoc, length-append, length-drop}
use Rattle.std.proofs.lemmas.Bool.{le-leb, lt-leb, eqb-false, cases_Bool}
use Rattle.lanes.specs.Syntax.{Expr, Body, end, put, read_shared, write_shared, read_all, write_all, barrier, when, while}
use Rattle.grammar.specs.Spelling.{SpellsExpr, SpellsBody, AnyName}
use Rattle.grammar.specs.Refusals.{place_of}
use Rattle.grammar.specs.Walk.{key_at}
use Rattle.grammar.specs.WalkLine.{line_at}
use Rattle.grammar.specs.declared.refusals.Refusal.{Refusal}
use Rattle.grammar.specs.declared.refusals.Refusal.TheVariants.{ManyLines, Deep}
use Rattle.grammar.specs.declared.lines.Line.{Line}
use Rattle.grammar.specs.declared.lines.Line.TheVariants as line
use Rattle.grammar.specs.declared.lines.Lined.{Lined}
use Rattle.grammar.proofs.Complete.{past, past-byte}
use Rattle.grammar.proofs.Goesonright.{Good, good-ok, good-other, good-then, good-cond}
use Rattle.grammar.proofs.Goesonlines as lines
use Rattle.grammar.proofs.Goesonlines.{OfKind, Shaped, put-line-right, read-cell-right, read-field-right, write-cell-right, write-field-right, barrier-right, else-right, end-right, if-right, while-right}
use Rattle.reader.proofs.Goesonsame.{no-many, no-deep}
use Rattle.reader.specs.Blocks.{opens, next_at, too_many, block_at, by_kind, kind_of_spec}
use Rattle.reader.specs.declared.blocks.Ending.{Ending}
use Rattle.reader.specs.declared.blocks.Ending.TheVariants.{Text, Else, End}
use Rattle.reader.specs.declared.blocks.Kind.{Kind}
use Rattle.reader.specs.declared.blocks.Kind.TheVariants.{Plain, Opens, Loops, Parts, Closes}
use Rattle.reader.specs.declared.blocks.Stop.{Stop}

-- the kinds of lines
abbrev kind_as : lines.Kind → Kind
kind_as lines.alone = Plain
kind_as lines.opens_if = Opens
kind_as lines.other = Parts
kind_as lines.ends = Closes
kind_as lines.opens_while = Loops

kinds : (l : Line) → kind_of_spec l ≡ kind_as (lines.kind_of_spec l)
kinds (line.Put k x) = refl
kinds (line.Read f k x) = refl
kinds (line.Write f p v) = refl
kinds line.Barrier = refl
kinds (line.If x) = refl
kinds line.Else = refl
kinds line.End = refl
kinds (line.While x) = refl

-- where lines end: z is behind them, and w behind the line that ends them
abbrev pub EndsAs : Ending → List ℕ → List ℕ → Type 0
EndsAs Text z w = (z ≡ []) × (w ≡ [])
EndsAs Else z w = z ≡ codes "else" ++ (10 ∷ w)
EndsAs End z w = z ≡ codes "end" ++ (10 ∷ w)

good-weak : {X : Type 0} (r : Result X Refusal) (P Q : X → Type 0) → ((x : X) → P x → Q x) → Good r P → Good r Q
good-weak r P Q h g = record { ok = λ x e. h x (g.ok x e); shaped = g.shaped }

module _ (find : List ℕ → Option ℕ) (text : List ℕ) where
  pub record Stopped (E : Ending) (w : List ℕ) (left : ℕ) (b : Body) (some : Bool) (s : Stop) : Type 0 where
    pub ending_is : s.ending ≡ E
    pub fewer : s.left ≤ left
    pub rest : drop s.next text ≡ w
    pub had : (b ≢ end) ⊎ (some ≡ true) → s.some ≡ true

  abbrev pub Reads : Body → List ℕ → Type 0
  Reads b u =
      (E : Ending) (z w : List ℕ) (f deep left i : ℕ) (some : Bool) → EndsAs E z w → drop i text ≡ u ++ z → left < f → Good (block_at find text f deep left i some) (Stopped E w left b some)

  not_past : (i : ℕ) (t : List ℕ) → drop i text ≡ t → 1 ≤ length t → leb (length text) i ≡ false
  not_past i t e h = lt-leb (length text) i (omega (arith, ap length e, length-drop i text))

  at_past : (i : ℕ) → drop i text ≡ [] → leb (length text) i ≡ true
  at_past i e = le-leb (length text) i (omega (arith, ap length e, length-drop i text))

  many-none : (i : ℕ) (r : Result Lined Refusal) (P Q : Lined → Type 0) → Good r P → Good (too_many i r) Q
  many-none i (Ok l) P Q g = good-other (ManyLines i) Q (no-many i)
  many-none i (Err d) P Q g = good-cond (eqb (place_of d) i) (Err d) (Err (ManyLines i)) Q (good-other d Q (λ q e. g.shaped q (ap (λ m. Err m) e))) (good-other (ManyLines i) Q (no-many i))

  -- the next line, where one may come
  next-right : (deep left i : ℕ) (P : Lined → Type 0) → Good (line_at find text i) P → Good (next_at find text deep left i) (λ l. P l × (0 < left))
  unfolding next_at
  next-right deep left i P g =
      elim (cases_Bool (eqb left 0)) [
        | inl h ↦ rw h (many-none i (line_at find text i) P (λ l. P l × (0 < left)) g)
        | inr h ↦
            let n : (left ≡ 0 → ⊥) = eqb-false left 0 h in
            let m : 0 < left = omega arith in
            rw h (good-cond (eqb deep 0 && opens (key_at text i)) (Err (Deep i)) (line_at find text i) (λ l. P l × (0 < left)) (good-other (Deep i) (λ l. P l × (0 < left)) (no-deep i)) (good-weak (line_at find text i) P _ (λ l p. (p, m)) g))
      ]

  block_line : (c : lines.Kind) (n f deep left i : ℕ) (some : Bool) (Q : Stop → Type 0) (t : List ℕ) → drop i text ≡ t → 1 ≤ length t → Good (line_at find text i) (OfKind c n)
      → (0 < left → Good (by_kind (block_at find text f) deep left i some (kind_as c) n) Q) → Good (block_at find text (suc f) deep left i some) Q
  unfolding block_at
  block_line c n f deep left i some Q t e h g k =
      rw (not_past i t e h)
      (good-then (next_at find text deep left i) _ (λ l. OfKind c n l × (0 < left)) Q (next-right deep left i (OfKind c n) g)
      (λ l p. let q : kind_of_spec l.line ≡ kind_as c = kinds l.line ∙ ap kind_as p.0.0 in rw (q, p.0.1) (k p.1)))

  stop-weak : (E : Ending) (w : List ℕ) (m left : ℕ) (b x : Body) (some : Bool) (s : Stop) → m ≤ left → Stopped E w m b true s → Stopped E w left x some s
  stop-weak E w m left b x some s h p = record { ending_is = p.ending_is; fewer = omega (arith, p.fewer); rest = p.rest; had = λ _. p.had (inr refl) }

  -- a line that stands alone
  plain_reads : (x b : Body) (u v : List ℕ) → 1 ≤ length u → ((i : ℕ) (z : List ℕ) → drop i text ≡ u ++ z → (n : ℕ) × Good (line_at find text i) (OfKind lines.alone n) × (drop n text ≡ v ++ z)) → Reads b v → Reads x u
  plain_reads x b u v h g r E z w zero deep left i some q e l = absurd (omega arith)
  plain_reads x b u v h g r E z w (suc f) deep left i some q e l =
      let p = g i z e in
      block_line lines.alone p.0 f deep left i some (Stopped E w left x some) (u ++ z) e (omega (arith, length-append u z)) p.1
      (λ m. good-weak (block_at find text f deep (left - 1) p.0 true) (Stopped E w (left - 1) b true) (Stopped E w left x some) (λ s. stop-weak E w (left - 1) left b x some s (omega arith))
      (r E z w f deep (left - 1) p.0 true q p.2 (omega arith)))

  -- no line more
  end_reads : (u : List ℕ) → u ≡ [] → Reads end u
  unfolding block_at
  end_reads u h Text z w zero deep left i some q e l = absurd (omega arith)
  end_reads u h Else z w zero deep left i some q e l = absurd (omega arith)
  end_reads u h End z w zero deep left i some q e l = absurd (omega arith)
  end_reads u h Text z w (suc f) deep left i some q e l =
      let d : drop i text ≡ [] = e ∙ ap (λ t. t ++ z) h ∙ q.0 in
      rw (at_past i d)
      (good-ok _ (Stopped Text w left end some) (record { ending_is = refl; fewer = omega arith; rest = d ∙ sym q.1; had = λ k. elim k [ inl n ↦ absurd (n refl) | inr y ↦ y ] }))
  end_reads u h Else z w (suc f) deep left i some q e l =
      let d : drop i text ≡ codes "else" ++ (10 ∷ w) = e ∙ ap (λ t. t ++ z) h ∙ q in
      block_line lines.other ((i + 4) + 1) f deep left i some (Stopped Else w left end some) (codes "else" ++ (10 ∷ w)) d (omega arith) (else-right find text i w d)
      (λ m. good-ok _ (Stopped Else w left end some) (record { ending_is = refl; fewer = omega arith; rest = past-byte text (i + 4) 10 w (past text i (codes "else") (10 ∷ w) d); had = λ k. elim k [ inl n ↦ absurd (n refl) | inr y ↦ y ] }))
  end_reads u h End z w (suc f) deep left i some q e l =
      let d : drop i text ≡ codes "end" ++ (10 ∷ w) = e ∙ ap (λ t. t ++ z) h ∙ q in
      block_line lines.ends ((i + 3) + 1) f deep left i some (Stopped End w left end some) (codes "end" ++ (10 ∷ w)) d (omega arith) (end-right find text i w d)
      (λ m. good-ok _ (Stopped End w left end some) (record { ending_is = refl; fewer = omega arith; rest = past-byte text (i + 3) 10 w (past text i (codes "end") (10 ∷ w) d); had = λ k. elim k [ inl n ↦ absurd (n refl) | inr y ↦ y ] }))

  -- behind the end of an if or a while
  go_on : (x b : Body) (v : List ℕ) (E : Ending) (z w : List ℕ) (f deep left m i : ℕ) (some : Bool) → Reads b v → EndsAs E z w → drop i text ≡ v ++ z → m < f → m ≤ left
      → Good (block_at find text f deep m i true) (Stopped E w left x some)
  go_on x b v E z w f deep left m i some r q e l k =
      good-weak (block_at find text f deep m i true) (Stopped E w m b true) (Stopped E w left x some) (λ s. stop-weak E w m left b x some s k) (r E z w f deep m i true q e l)

  -- the lines of an if, and of its else
  if-reads : (x c d b : Body) (e : Expr) (t u cx y v : List ℕ) → SpellsExpr AnyName e u → Reads c cx → (((d ≡ end) × (y ≡ [])) ⊎ ((dw : List ℕ) × Reads d dw × (y ≡ codes "else" ++ (10 ∷ dw)))) → Reads b v
      → t ≡ codes "if " ++ (u ++ (10 ∷ (cx ++ (y ++ (codes "end" ++ (10 ∷ v)))))) → Reads x t
  if-reads x c d b e t u cx y v s rc o rb q E z w zero deep left i some ea ei l = absurd (omega arith)
  if-reads x c d b e t u cx y v s rc o rb q E z w (suc f) deep left i some ea ei l =
      let tail : List ℕ = codes "end" ++ (10 ∷ (v ++ z)) in
      let d0 : drop i text ≡ codes "if " ++ (u ++ (10 ∷ (cx ++ (y ++ tail)))) =
      ei ∙ ap (λ k. k ++ z) q ∙ ap (λ k. codes "if " ++ k) (append_assoc u _ z ∙ ap (λ k. u ++ (10 ∷ k)) (append_assoc cx _ z ∙ ap (λ k. cx ++ k) (append_assoc y _ z))) in
      let d1 : drop (((((i + 2) + 1)) + length u) + 1) text ≡ cx ++ (y ++ tail) = past-byte text (((i + 2) + 1) + length u) 10 _ (past text ((i + 2) + 1) u _ (past-byte text (i + 2) 32 _ (past text i (codes "if") _ d0))) in
      let n : ℕ = ((((i + 2) + 1)) + length u) + 1 in
      block_line lines.opens_if n f deep left i some (Stopped E w left x some) (codes "if " ++ (u ++ (10 ∷ (cx ++ (y ++ tail))))) d0 (omega arith) (if-right find text i u (cx ++ (y ++ tail)) (e, s) d0)
      (λ m. elim o [
        | inl p ↦
            good-then (block_at find text f (deep - 1) (left - 1) n false) _ (Stopped End (v ++ z) (left - 1) c false) (Stopped E w left x some)
            (rc End tail (v ++ z) f (deep - 1) (left - 1) n false refl (d1 ∙ ap (λ k. cx ++ (k ++ tail)) p.1) (omega arith))
            (λ a k. rw k.ending_is (go_on x b v E z w f deep left a.left a.next some rb ea k.rest (omega (arith, k.fewer)) (omega (arith, k.fewer))))
        | inr p ↦
            good-then (block_at find text f (deep - 1) (left - 1) n false) _ (Stopped Else (p.0 ++ tail) (left - 1) c false) (Stopped E w left x some)
            (rc Else (codes "else" ++ (10 ∷ (p.0 ++ tail))) (p.0 ++ tail) f (deep - 1) (left - 1) n false refl (d1 ∙ ap (λ k. cx ++ (k ++ tail)) p.2) (omega arith))
            (λ a k. rw k.ending_is
            (good-then (block_at find text f (deep - 1) a.left a.next false) _ (Stopped End (v ++ z) a.left d false) (Stopped E w left x some)
            (p.1 End tail (v ++ z) f (deep - 1) a.left a.next false refl k.rest (omega (arith, k.fewer)))
            (λ a2 k2. rw k2.ending_is (go_on x b v E z w f deep left a2.left a2.next some rb ea k2.rest (omega (arith, k.fewer, k2.fewer)) (omega (arith, k.fewer, k2.fewer))))))
      ])

  while-reads : (x c b : Body) (e : Expr) (t u cx v : List ℕ) → SpellsExpr AnyName e u → Reads c cx → c ≢ end → Reads b v
      → t ≡ codes "while " ++ (u ++ (10 ∷ (cx ++ (codes "end" ++ (10 ∷ v))))) → Reads x t
  while-reads x c b e t u cx v s rc ne rb q E z w zero deep left i some ea ei l = absurd (omega arith)
  while-reads x c b e t u cx v s rc ne rb q E z w (suc f) deep left i some ea ei l =
      let tail : List ℕ = codes "end" ++ (10 ∷ (v ++ z)) in
      let d0 : drop i text ≡ codes "while " ++ (u ++ (10 ∷ (cx ++ tail))) =
      ei ∙ ap (λ k. k ++ z) q ∙ ap (λ k. codes "while " ++ k) (append_assoc u _ z ∙ ap (λ k. u ++ (10 ∷ k)) (append_assoc cx _ z)) in
      let n : ℕ = ((((i + 5) + 1)) + length u) + 1 in
      let d1 : drop n text ≡ cx ++ tail = past-byte text (((i + 5) + 1) + length u) 10 _ (past text ((i + 5) + 1) u _ (past-byte text (i + 5) 32 _ (past text i (codes "while") _ d0))) in
      block_line lines.opens_while n f deep left i some (Stopped E w left x some) (codes "while " ++ (u ++ (10 ∷ (cx ++ tail)))) d0 (omega arith) (while-right find text i u (cx ++ tail) (e, s) d0)
      (λ m. good-then (block_at find text f (deep - 1) (left - 1) n false) _ (Stopped End (v ++ z) (left - 1) c false) (Stopped E w left x some)
      (rc End tail (v ++ z) f (deep - 1) (left - 1) n false refl d1 (omega arith))
      (λ a k. rw (k.ending_is, k.had (inl ne)) (go_on x b v E z w f deep left a.left a.next some rb ea k.rest (omega (arith, k.fewer)) (omega (arith, k.fewer)))))

  four : (a c u v z : List ℕ) → (a ++ (c ++ (u ++ (10 ∷ v)))) ++ z ≡ a ++ (c ++ (u ++ (10 ∷ (v ++ z))))
  four a c u v z = append_assoc a _ z ∙ ap (λ k. a ++ k) (append_assoc c _ z ∙ ap (λ k. c ++ k) (append_assoc u _ z))

  pub body_reads : (b : Body) (t : List ℕ) → SpellsBody AnyName b t → Reads b t
  unfolding SpellsBody
  body_reads end t s = end_reads t s
  body_reads (put k e b) t (a, u, v, h, s, r, q) =
      plain_reads (put k e b) b t v (omega (arith, ap length q, length-append a (codes " = " ++ (u ++ (10 ∷ v))), h.some))
      (λ i z d. let x : drop i text ≡ a ++ (codes " = " ++ (u ++ (10 ∷ (v ++ z)))) = d ∙ ap (λ m. m ++ z) q ∙ four a (codes " = ") u v z in (
        (((i + length a) + 3) + length u) + 1,
        put-line-right find text i a u (v ++ z) h (e, s) x,
        past-byte text (((i + length a) + 3) + length u) 10 _ (past text ((i + length a) + 3) u _ (past text (i + length a) (codes " = ") _ (past text i a _ x))),
      ))
      (body_reads b v r)
  body_reads (read_shared k e b) t (a, u, v, h, s, r, q) =
      plain_reads (read_shared k e b) b t v (omega (arith, ap length q, length-append a (codes " = cell " ++ (u ++ (10 ∷ v))), h.some))
      (λ i z d. let x : drop i text ≡ a ++ (codes " = cell " ++ (u ++ (10 ∷ (v ++ z)))) = d ∙ ap (λ m. m ++ z) q ∙ four a (codes " = cell ") u v z in (
        (((((i + length a) + 3) + 4) + 1) + length u) + 1,
        read-cell-right find text i a u (v ++ z) h (e, s) x,
        past-byte text (((((i + length a) + 3) + 4) + 1) + length u) 10 _ (past text ((((i + length a) + 3) + 4) + 1) u _ (past text (((i + length a) + 3) + 4) (codes " ") _ (past text ((i + length a) + 3) (codes "cell") _ (past text (i + length a) (codes " = ") _ (past text i a _ x))))),
      ))
      (body_reads b v r)
  body_reads (read_all k e b) t (a, u, v, h, s, r, q) =
      plain_reads (read_all k e b) b t v (omega (arith, ap length q, length-append a (codes " = field " ++ (u ++ (10 ∷ v))), h.some))
      (λ i z d. let x : drop i text ≡ a ++ (codes " = field " ++ (u ++ (10 ∷ (v ++ z)))) = d ∙ ap (λ m. m ++ z) q ∙ four a (codes " = field ") u v z in (
        (((((i + length a) + 3) + 5) + 1) + length u) + 1,
        read-field-right find text i a u (v ++ z) h (e, s) x,
        past-byte text (((((i + length a) + 3) + 5) + 1) + length u) 10 _ (past text ((((i + length a) + 3) + 5) + 1) u _ (past text (((i + length a) + 3) + 5) (codes " ") _ (past text ((i + length a) + 3) (codes "field") _ (past text (i + length a) (codes " = ") _ (past text i a _ x))))),
      ))
      (body_reads b v r)
  body_reads (write_shared e g b) t (u, y, v, s, p, r, q) =
      plain_reads (write_shared e g b) b t v (omega (arith, ap length q))
      (λ i z d. let x : drop i text ≡ codes "cell " ++ (u ++ (codes " = " ++ (y ++ (10 ∷ (v ++ z))))) = d ∙ ap (λ m. m ++ z) q ∙ ap (λ m. codes "cell " ++ m) (four u (codes " = ") y v z) in (
        (((((i + 4) + 1) + length u) + 3) + length y) + 1,
        write-cell-right find text i u y (v ++ z) (e, s) (g, p) x,
        past-byte text (((((i + 4) + 1) + length u) + 3) + length y) 10 _ (past text ((((i + 4) + 1) + length u) + 3) y _ (past text (((i + 4) + 1) + length u) (codes " = ") _ (past text ((i + 4) + 1) u _ (past-byte text (i + 4) 32 _ (past text i (codes "cell") _ x))))),
      ))
      (body_reads b v r)
  body_reads (write_all e g b) t (u, y, v, s, p, r, q) =
      plain_reads (write_all e g b) b t v (omega (arith, ap length q))
      (λ i z d. let x : drop i text ≡ codes "field " ++ (u ++ (codes " = " ++ (y ++ (10 ∷ (v ++ z))))) = d ∙ ap (λ m. m ++ z) q ∙ ap (λ m. codes "field " ++ m) (four u (codes " = ") y v z) in (
        (((((i + 5) + 1) + length u) + 3) + length y) + 1,
        write-field-right find text i u y (v ++ z) (e, s) (g, p) x,
        past-byte text (((((i + 5) + 1) + length u) + 3) + length y) 10 _ (past text ((((i + 5) + 1) + length u) + 3) y _ (past text (((i + 5) + 1) + length u) (codes " = ") _ (past text ((i + 5) + 1) u _ (past-byte text (i + 5) 32 _ (past text i (codes "field") _ x))))),
      ))
      (body_reads b v r)
  body_reads (barrier b) t (v, r, q) =
      plain_reads (barrier b) b t v (omega (arith, ap length q))
      (λ i z d. let x : drop i text ≡ codes "barrier" ++ (10 ∷ (v ++ z)) = d ∙ ap (λ m. m ++ z) q in
      ((i + 7) + 1, barrier-right find text i (v ++ z) x, past-byte text (i + 7) 10 _ (past text i (codes "barrier") _ x)))
      (body_reads b v r)
  body_reads (when e c d b) t (u, x, y, v, s, cs, o, r, q) =
      if-reads (when e c d b) c d b e t u x y v s (body_reads c x cs) (elim o [ inl p ↦ inl p | inr p ↦ inr (p.0, body_reads d p.0 p.1, p.2) ]) (body_reads b v r) q
  body_reads (while e c b) t (u, x, v, s, cs, ne, r, q) = while-reads (while e c b) c b e t u x v s (body_reads c x cs) ne (body_reads b v r) q
