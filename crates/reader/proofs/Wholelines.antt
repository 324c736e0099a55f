-- Lines that spell a body within the limits are read, to where they end.
use Rattle.std.proofs.Common.{◌≡◌, ℕ, zero, suc, ◌+◌, ◌-◌, ◌<◌, ◌≤◌, Bool, true, false, cond, ◌&&◌, eqb, ltb, leb, ◌≢◌, ◌⊎◌, List, [], ◌∷◌, ◌++◌, length, drop, Some, None, Ok, codes, Option, Result, sym, refl, ap, ◌∙◌, inl, inr, arith}
use Rattle.std.proofs.lemmas.List.{append_assoc, length-append, length-drop}
use Rattle.std.proofs.lemmas.Bool.{le-leb, lt-leb, ne_eqb, and_parts, ltb-true}
use Rattle.lanes.specs.Syntax.{Expr, Body, end, put, read_shared, write_shared, read_all, write_all, barrier, when, while}
use Rattle.lanes.specs.Told.{ExprFits, BodyFits}
use Rattle.grammar.specs.Spelling.{word_byte, each_byte, IsName, SpellsExpr, SpellsBody}
use Rattle.grammar.specs.Stands.{Apart}
use Rattle.grammar.specs.Taken.{depth, lines_in, lines_within}
use Rattle.grammar.specs.Lines.{LineHere}
use Rattle.grammar.specs.Walk.{key_at, key_of, and_then}
use Rattle.grammar.specs.declared.refusals.Refusal.{Refusal}
use Rattle.grammar.specs.declared.keywords.Keyword.{Keyword}
use Rattle.grammar.specs.declared.keywords.Keyword.TheVariants as kw
use Rattle.grammar.specs.declared.lines.Line.{Line}
use Rattle.grammar.specs.declared.lines.Line.TheVariants as line
use Rattle.grammar.proofs.Walks.{key-written}
use Rattle.grammar.proofs.Complete.{past, past-byte, part-here, key-free}
use Rattle.grammar.proofs.Linehere.{line-done}
use Rattle.reader.proofs.Counts.{lines-append, lines_cons, lines_end, word-lines, expr-lines}
use Rattle.reader.specs.Blocks.{opens, next_at, block_at, by_kind, kind_of_spec, must_end_spec}
use Rattle.reader.specs.declared.blocks.Ending.{Ending}
use Rattle.reader.specs.declared.blocks.Ending.TheVariants.{Text, Else, End}
use Rattle.reader.specs.declared.blocks.Kind.TheVariants.{Plain, Opens}
use Rattle.reader.specs.declared.blocks.Stop.{Stop}

-- a line within the limit
short-byte : (k b : ℕ) (c : Bool) (u : List ℕ) → eqb b 10 ≡ c → lines_in (b ∷ u) ≡ 0 → lines_within 1024 k (b ∷ u) ≡ lines_within 1024 k (b ∷ u) → c ≡ false
unfolding lines_in
short-byte k b true u q h e = absurd (let x : ◌≡◌ {A = ℕ} (cond (eqb b 10) 1 0) 1 = rw q refl in omega (arith, x, h))
short-byte k b false u q h e = refl

pub short_back : (w z : List ℕ) (k : ℕ) → lines_in w ≡ 0 → k ≤ 1024 → lines_within 1024 k (w ++ (10 ∷ z)) ≡ true → (k + length w ≤ 1024) × (lines_within 1024 0 z ≡ true)
unfolding lines_within
short_back [] z k h l e = (omega arith, e)
short_back (b ∷ w) z k h l e =
    let c : eqb b 10 ≡ false = short-byte k b (eqb b 10) w refl h refl in
    let n : lines_in w ≡ 0 = sym (lines_cons b w c) ∙ h in
    let x : (ltb k 1024 && lines_within 1024 (suc k) (w ++ (10 ∷ z))) ≡ true = rw c at e in
    let p = and_parts (ltb k 1024) (lines_within 1024 (suc k) (w ++ (10 ∷ z))) x in
    let m : k < 1024 = ltb-true k 1024 p.0 in
    let r = short_back w z (suc k) n (omega arith) p.1 in
    (omega (arith, r.0), r.1)

no-and : (a b : Bool) → (a ≡ false) ⊎ (b ≡ false) → (a && b) ≡ false
no-and true true (inl h) = h
no-and true true (inr h) = h
no-and true false h = refl
no-and false b h = refl

-- where lines end: z is behind them, and w behind the line that ends them
abbrev pub EndsAs : Ending → List ℕ → List ℕ → Type 0
EndsAs Text z w = (z ≡ []) × (w ≡ [])
EndsAs Else z w = z ≡ codes "else" ++ (10 ∷ w)
EndsAs End z w = z ≡ codes "end" ++ (10 ∷ w)

-- from byte i on there are few lines, and none too long
pub record Room (text : List ℕ) (i left : ℕ) : Type 0 where
  pub few : lines_in (drop i text) ≤ left
  pub short : lines_within 1024 0 (drop i text) ≡ true

pub record Stopped (text : List ℕ) (E : Ending) (w : List ℕ) (left : ℕ) (b : Body) (some : Bool) (s : Stop) : Type 0 where
  pub ending_is : s.ending ≡ E
  pub fewer : s.left ≤ left
  pub rest : drop s.next text ≡ w
  pub had : (b ≢ end) ⊎ (some ≡ true) → s.some ≡ true
  pub room : Room text s.next s.left

pub record Ended (text : List ℕ) (E : Ending) (w : List ℕ) (left : ℕ) (b : Body) (some : Bool) (r : Result Stop Refusal) : Type 0 where
  pub stop : Stop
  pub is : r ≡ Ok stop
  pub stopped : Stopped text E w left b some stop

lit_free : lines_in (codes " = ") ≡ 0
unfolding lines_in
lit_free = refl

lit_cell : lines_in (codes " = cell ") ≡ 0
unfolding lines_in
lit_cell = refl

lit_field : lines_in (codes " = field ") ≡ 0
unfolding lines_in
lit_field = refl

lit_c : lines_in (codes "cell ") ≡ 0
unfolding lines_in
lit_c = refl

lit_f : lines_in (codes "field ") ≡ 0
unfolding lines_in
lit_f = refl

lit_b : lines_in (codes "barrier") ≡ 0
unfolding lines_in
lit_b = refl

lit_if : lines_in (codes "if ") ≡ 0
unfolding lines_in
lit_if = refl

lit_while : lines_in (codes "while ") ≡ 0
unfolding lines_in
lit_while = refl

lit-else : lines_in (codes "else") ≡ 0
unfolding lines_in
lit-else = refl

lit-end : lines_in (codes "end") ≡ 0
unfolding lines_in
lit-end = refl

module _ (find : List ℕ → Option ℕ) (text : List ℕ) (N : ℕ → List ℕ → Type 0) (o : ℕ) (named : (k : ℕ) (u : List ℕ) → N k u → IsName u) (found : (k : ℕ) (u : List ℕ) → N k u → find u ≡ Some k) where
  -- a line, and v behind it
  record StandsLine (i : ℕ) (l : Line) (n : ℕ) (v : List ℕ) : Type 0 where
    here : LineHere N o text i l n
    word : List ℕ
    free : lines_in word ≡ 0
    split : drop i text ≡ word ++ (10 ∷ v)
    size : n ≡ i + (length word + 1)

  behind : (i : ℕ) (l : Line) (n : ℕ) (v : List ℕ) → StandsLine i l n v → drop n text ≡ v
  behind i l n v s =
      let q : (i + length s.word) + 1 ≡ n = omega (arith, s.size) in
      ap (λ m. drop m text) (sym q) ∙ past-byte text (i + length s.word) 10 v (past text i s.word (10 ∷ v) s.split)

  line_room : (i : ℕ) (l : Line) (n : ℕ) (v : List ℕ) (left : ℕ) (s : StandsLine i l n v) → Room text i left → (0 < left) × (n ≤ i + 1025) × Room text n (left - 1)
  line_room i l n v left s r =
      let c : lines_in (drop i text) ≡ suc (lines_in v) = ap lines_in s.split ∙ omega (arith, lines-append s.word (10 ∷ v), lines_end v, s.free) in
      let b = short_back s.word v 0 s.free (omega arith) (ap (λ t. lines_within 1024 0 t) (sym s.split) ∙ r.short) in
      let d : drop n text ≡ v = behind i l n v s in
      let k : lines_in (drop n text) ≡ lines_in v = ap lines_in d in
      (omega (arith, c, r.few), omega (arith, s.size, b.0), record { few = omega (arith, c, k, r.few); short = ap (λ t. lines_within 1024 0 t) d ∙ b.1 })

  next_done : (i deep left : ℕ) (l : Line) (n : ℕ) (v : List ℕ) → StandsLine i l n v → Room text i left → (0 < deep) ⊎ (opens (key_at text i) ≡ false) → next_at find text deep left i ≡ Ok (record { line = l; next = n })
  unfolding next_at
  next_done i deep left l n v s r c =
      let p = line_room i l n v left s r in
      let a : (eqb deep 0 && opens (key_at text i)) ≡ false = no-and (eqb deep 0) (opens (key_at text i)) (elim c [ inl h ↦ inl (ne_eqb deep 0 (λ q. omega (arith, h, q))) | inr h ↦ inr h ]) in
      rw (ne_eqb left 0 (λ q. omega (arith, p.0, q)), a) (line-done find text N o named found i l n s.here p.1)

  not_past : (i : ℕ) (w v : List ℕ) → drop i text ≡ w ++ (10 ∷ v) → leb (length text) i ≡ false
  not_past i w v e = lt-leb (length text) i (omega (arith, ap length e, length-append w (10 ∷ v), length-drop i text))

  at_past : (i : ℕ) → drop i text ≡ [] → leb (length text) i ≡ true
  at_past i e = le-leb (length text) i (omega (arith, ap length e, length-drop i text))

  block_line : (f i deep left : ℕ) (some : Bool) (l : Line) (n : ℕ) (v : List ℕ) → StandsLine i l n v → Room text i left → (0 < deep) ⊎ (opens (key_at text i) ≡ false)
      → block_at find text (suc f) deep left i some ≡ by_kind (block_at find text f) deep left i some (kind_of_spec l) n
  unfolding block_at
  block_line f i deep left some l n v s r c = rw (not_past i s.word v s.split, next_done i deep left l n v s r c) refl

  abbrev pub Reads : Body → List ℕ → Type 0
  Reads b u =
      (E : Ending) (z w : List ℕ) (f deep left i : ℕ) (some : Bool) → EndsAs E z w → drop i text ≡ u ++ z → left < f → depth b ≤ deep → Room text i left → Ended text E w left b some (block_at find text f deep left i some)

  ended-then : (E F : Ending) (w v : List ℕ) (left m : ℕ) (b x : Body) (some any : Bool) (r : Result Stop Refusal) (k : Stop → Result Stop Refusal)
      → Ended text F v m x any r → ((s : Stop) → Stopped text F v m x any s → Ended text E w left b some (k s)) → Ended text E w left b some (and_then r k)
  ended-then E F w v left m b x some any r k e h = rw e.is (h e.stop e.stopped)

  ended-weak : (E : Ending) (w : List ℕ) (m left : ℕ) (b x : Body) (some : Bool) (r : Result Stop Refusal) → m ≤ left → Ended text E w m b true r → Ended text E w left x some r
  ended-weak E w m left b x some r h e =
      let p = e.stopped in
      record { stop = e.stop; is = e.is; stopped = record { ending_is = p.ending_is; fewer = omega (arith, p.fewer); rest = p.rest; had = λ _. p.had (inr refl); room = p.room } }

  record PlainLine (i : ℕ) (v : List ℕ) : Type 0 where
    line : Line
    next : ℕ
    plain : kind_of_spec line ≡ Plain
    stands : StandsLine i line next v
    shut : opens (key_at text i) ≡ false

  plain_reads : (x b : Body) (u v : List ℕ) → depth x ≡ depth b → ((i : ℕ) (z : List ℕ) → drop i text ≡ u ++ z → PlainLine i (v ++ z)) → Reads b v → Reads x u
  plain_reads x b u v d g r E z w zero deep left i some q e l h m = absurd (omega arith)
  plain_reads x b u v d g r E z w (suc f) deep left i some q e l h m =
      let p = g i z e in
      let k = line_room i p.line p.next (v ++ z) left p.stands m in
      rw (block_line f i deep left some p.line p.next (v ++ z) p.stands m (inr p.shut), p.plain)
      (ended-weak E w (left - 1) left b x some _ (omega arith) (r E z w f deep (left - 1) p.next true q (behind i p.line p.next (v ++ z) p.stands) (omega (arith, k.0)) (omega (arith, d, h)) k.2))

  -- no line more
  key_is : (i : ℕ) (a z : List ℕ) (k : Option Keyword) → each_byte word_byte a ≡ true → Apart z → drop i text ≡ a ++ z → key_of a ≡ k → key_at text i ≡ k
  key_is i a z k b p e q = ap key_of (part-here word_byte text i a z b p e) ∙ q

  else_line : (i : ℕ) (v : List ℕ) → drop i text ≡ codes "else" ++ (10 ∷ v) → StandsLine i line.Else (i + 5) v
  unfolding LineHere
  else_line i v e = record { here = (v, refl, e); word = codes "else"; free = lit-else; split = e; size = omega arith }

  end_line : (i : ℕ) (v : List ℕ) → drop i text ≡ codes "end" ++ (10 ∷ v) → StandsLine i line.End (i + 4) v
  unfolding LineHere
  end_line i v e = record { here = (v, refl, e); word = codes "end"; free = lit-end; split = e; size = omega arith }

  end_reads : (u : List ℕ) → u ≡ [] → Reads end u
  unfolding block_at each_byte
  end_reads u h E z w zero deep left i some q e l d m = absurd (omega arith)
  end_reads u h Text z w (suc f) deep left i some q e l d m =
      let x : drop i text ≡ [] = e ∙ ap (λ t. t ++ z) h ∙ q.0 in
      rw (at_past i x)
      (record { stop = _; is = refl; stopped = record { ending_is = refl; fewer = omega arith; rest = x ∙ sym q.1; had = λ k. elim k [ inl n ↦ absurd (n refl) | inr y ↦ y ]; room = m } })
  end_reads u h Else z w (suc f) deep left i some q e l d m =
      let x : drop i text ≡ codes "else" ++ (10 ∷ w) = e ∙ ap (λ t. t ++ z) h ∙ q in
      let s = else_line i w x in
      let k = line_room i line.Else (i + 5) w left s m in
      rw (block_line f i deep left some line.Else (i + 5) w s m (inr (ap opens (key_is i (codes "else") (10 ∷ w) (Some kw.Else) refl refl x (key-written kw.Else)))))
      (record { stop = _; is = refl; stopped = record { ending_is = refl; fewer = omega arith; rest = behind i line.Else (i + 5) w s; had = λ k. elim k [ inl n ↦ absurd (n refl) | inr y ↦ y ]; room = k.2 } })
  end_reads u h End z w (suc f) deep left i some q e l d m =
      let x : drop i text ≡ codes "end" ++ (10 ∷ w) = e ∙ ap (λ t. t ++ z) h ∙ q in
      let s = end_line i w x in
      let k = line_room i line.End (i + 4) w left s m in
      rw (block_line f i deep left some line.End (i + 4) w s m (inr (ap opens (key_is i (codes "end") (10 ∷ w) (Some kw.End) refl refl x (key-written kw.End)))))
      (record { stop = _; is = refl; stopped = record { ending_is = refl; fewer = omega arith; rest = behind i line.End (i + 4) w s; had = λ k. elim k [ inl n ↦ absurd (n refl) | inr y ↦ y ]; room = k.2 } })

  -- behind the end of an if or a while
  go_on : (x b : Body) (v : List ℕ) (E : Ending) (z w : List ℕ) (f deep left : ℕ) (some : Bool) (s : Stop) → Reads b v → EndsAs E z w → drop s.next text ≡ v ++ z → s.left < f → s.left ≤ left → depth b ≤ deep → Room text s.next s.left
      → Ended text E w left x some (block_at find text f deep s.left s.next true)
  go_on x b v E z w f deep left some s r q e l k d m = ended-weak E w s.left left b x some _ k (r E z w f deep s.left s.next true q e l d m)

  head_line : (mk : ℕ → Line) (c : List ℕ) (i n : ℕ) (u v : List ℕ) → LineHere N o text i (mk (i + length c)) n → lines_in c ≡ 0 → lines_in u ≡ 0 → drop i text ≡ c ++ (u ++ (10 ∷ v)) → n ≡ (i + length c) + (length u + 1) → StandsLine i (mk (i + length c)) n v
  head_line mk c i n u v h lc lu e q =
      record { here = h; word = c ++ u; free = omega (arith, lines-append c u, lc, lu); split = e ∙ sym (append_assoc c u (10 ∷ v)); size = omega (arith, length-append c u) }

  if_line : (e : Expr) (i : ℕ) (u v : List ℕ) → SpellsExpr N e u → ExprFits o e → drop i text ≡ codes "if " ++ (u ++ (10 ∷ v)) → StandsLine i (line.If (i + 3)) ((i + 3) + (length u + 1)) v
  unfolding LineHere
  if_line e i u v s f d = head_line line.If (codes "if ") i ((i + 3) + (length u + 1)) u v (u, v, (e, s, f), refl, refl, d) lit_if (expr-lines N named e u s) d refl

  while_line : (e : Expr) (i : ℕ) (u v : List ℕ) → SpellsExpr N e u → ExprFits o e → drop i text ≡ codes "while " ++ (u ++ (10 ∷ v)) → StandsLine i (line.While (i + 6)) ((i + 6) + (length u + 1)) v
  unfolding LineHere
  while_line e i u v s f d = head_line line.While (codes "while ") i ((i + 6) + (length u + 1)) u v (u, v, (e, s, f), refl, refl, d) lit_while (expr-lines N named e u s) d refl

  -- behind the line of an if
  if_none : (x c b : Body) (cx v : List ℕ) (E : Ending) (z w : List ℕ) (f deep left i n : ℕ) (some : Bool) → Reads c cx → Reads b v → EndsAs E z w → drop n text ≡ cx ++ (codes "end" ++ (10 ∷ (v ++ z)))
      → 0 < left → left ≤ f → depth c ≤ deep - 1 → depth b ≤ deep → Room text n (left - 1) → Ended text E w left x some (by_kind (block_at find text f) deep left i some Opens n)
  if_none x c b cx v E z w f deep left i n some rc rb ea d1 l0 l dc db m =
      ended-then E End w (v ++ z) left (left - 1) x c some false (block_at find text f (deep - 1) (left - 1) n false) _
      (rc End (codes "end" ++ (10 ∷ (v ++ z))) (v ++ z) f (deep - 1) (left - 1) n false refl d1 (omega arith) dc m)
      (λ a k. rw k.ending_is (go_on x b v E z w f deep left some a rb ea k.rest (omega (arith, k.fewer)) (omega (arith, k.fewer)) db k.room))

  else_on : (x d b : Body) (dw v : List ℕ) (E : Ending) (z w : List ℕ) (f deep left : ℕ) (some : Bool) (a : Stop) → Reads d dw → Reads b v → EndsAs E z w → drop a.next text ≡ dw ++ (codes "end" ++ (10 ∷ (v ++ z)))
      → a.left < f → a.left ≤ left → depth d ≤ deep - 1 → depth b ≤ deep → Room text a.next a.left
      → Ended text E w left x some (and_then (block_at find text f (deep - 1) a.left a.next false) (λ t. and_then (must_end_spec t) (λ e. block_at find text f deep e.left e.next true)))
  else_on x d b dw v E z w f deep left some a rd rb ea d1 l k dd db m =
      ended-then E End w (v ++ z) left a.left x d some false (block_at find text f (deep - 1) a.left a.next false) _
      (rd End (codes "end" ++ (10 ∷ (v ++ z))) (v ++ z) f (deep - 1) a.left a.next false refl d1 l dd m)
      (λ y j. rw j.ending_is (go_on x b v E z w f deep left some y rb ea j.rest (omega (arith, j.fewer)) (omega (arith, j.fewer)) db j.room))

  if_some : (x c d b : Body) (cx dw v : List ℕ) (E : Ending) (z w : List ℕ) (f deep left i n : ℕ) (some : Bool) → Reads c cx → Reads d dw → Reads b v → EndsAs E z w
      → drop n text ≡ cx ++ (codes "else" ++ (10 ∷ (dw ++ (codes "end" ++ (10 ∷ (v ++ z))))))
      → 0 < left → left ≤ f → depth c ≤ deep - 1 → depth d ≤ deep - 1 → depth b ≤ deep → Room text n (left - 1) → Ended text E w left x some (by_kind (block_at find text f) deep left i some Opens n)
  if_some x c d b cx dw v E z w f deep left i n some rc rd rb ea d1 l0 l dc dd db m =
      ended-then E Else w (dw ++ (codes "end" ++ (10 ∷ (v ++ z)))) left (left - 1) x c some false (block_at find text f (deep - 1) (left - 1) n false) _
      (rc Else (codes "else" ++ (10 ∷ (dw ++ (codes "end" ++ (10 ∷ (v ++ z)))))) (dw ++ (codes "end" ++ (10 ∷ (v ++ z)))) f (deep - 1) (left - 1) n false refl d1 (omega arith) dc m)
      (λ a k. rw k.ending_is (else_on x d b dw v E z w f deep left some a rd rb ea k.rest (omega (arith, k.fewer)) (omega (arith, k.fewer)) dd db k.room))

  abbrev ElseReads : Body → List ℕ → Type 0
  ElseReads d y = ((d ≡ end) × (y ≡ [])) ⊎ ((dw : List ℕ) × Reads d dw × (y ≡ codes "else" ++ (10 ∷ dw)))

  if_on : (x c d b : Body) (cx y v : List ℕ) (E : Ending) (z w : List ℕ) (f deep left i n : ℕ) (some : Bool) → Reads c cx → ElseReads d y → Reads b v → EndsAs E z w
      → drop n text ≡ cx ++ (y ++ (codes "end" ++ (10 ∷ (v ++ z))))
      → 0 < left → left ≤ f → depth c ≤ deep - 1 → depth d ≤ deep - 1 → depth b ≤ deep → Room text n (left - 1) → Ended text E w left x some (by_kind (block_at find text f) deep left i some Opens n)
  if_on x c d b cx y v E z w f deep left i n some rc (inl p) rb ea d1 l0 l dc dd db m =
      if_none x c b cx v E z w f deep left i n some rc rb ea (d1 ∙ ap (λ k. cx ++ (k ++ (codes "end" ++ (10 ∷ (v ++ z))))) p.1) l0 l dc db m
  if_on x c d b cx y v E z w f deep left i n some rc (inr p) rb ea d1 l0 l dc dd db m =
      if_some x c d b cx p.0 v E z w f deep left i n some rc p.1 rb ea (d1 ∙ ap (λ k. cx ++ (k ++ (codes "end" ++ (10 ∷ (v ++ z))))) p.2) l0 l dc dd db m

  if-bytes : (t u cx y v z : List ℕ) → t ≡ codes "if " ++ (u ++ (10 ∷ (cx ++ (y ++ (codes "end" ++ (10 ∷ v)))))) → t ++ z ≡ codes "if " ++ (u ++ (10 ∷ (cx ++ (y ++ (codes "end" ++ (10 ∷ (v ++ z)))))))
  if-bytes t u cx y v z q = ap (λ k. k ++ z) q ∙ ap (λ k. codes "if " ++ k) (append_assoc u _ z ∙ ap (λ k. u ++ (10 ∷ k)) (append_assoc cx _ z ∙ ap (λ k. cx ++ k) (append_assoc y _ z)))

  if-step : (x c d b : Body) (e : Expr) (u cx y v : List ℕ) (E : Ending) (z w : List ℕ) (f deep left i : ℕ) (some : Bool) → SpellsExpr N e u → ExprFits o e → (suc (depth c) ≤ deep) × (suc (depth d) ≤ deep) × (depth b ≤ deep)
      → Reads c cx → ElseReads d y → Reads b v → EndsAs E z w → drop i text ≡ codes "if " ++ (u ++ (10 ∷ (cx ++ (y ++ (codes "end" ++ (10 ∷ (v ++ z))))))) → left ≤ f → Room text i left
      → Ended text E w left x some (block_at find text (suc f) deep left i some)
  if-step x c d b e u cx y v E z w f deep left i some s fe dp rc o2 rb ea d0 l m =
      let st = if_line e i u (cx ++ (y ++ (codes "end" ++ (10 ∷ (v ++ z))))) s fe d0 in
      let rm = line_room i (line.If (i + 3)) ((i + 3) + (length u + 1)) (cx ++ (y ++ (codes "end" ++ (10 ∷ (v ++ z))))) left st m in
      rw (block_line f i deep left some (line.If (i + 3)) ((i + 3) + (length u + 1)) (cx ++ (y ++ (codes "end" ++ (10 ∷ (v ++ z))))) st m (inl (omega (arith, dp.0))))
      (if_on x c d b cx y v E z w f deep left i ((i + 3) + (length u + 1)) some rc o2 rb ea (behind i (line.If (i + 3)) ((i + 3) + (length u + 1)) (cx ++ (y ++ (codes "end" ++ (10 ∷ (v ++ z))))) st)
      rm.0 l (omega (arith, dp.0)) (omega (arith, dp.1)) dp.2 rm.2)

  -- the lines of an if, and of its else
  if-reads : (x c d b : Body) (e : Expr) (t u cx y v : List ℕ) → SpellsExpr N e u → ExprFits o e → (suc (depth c) ≤ depth x) × (suc (depth d) ≤ depth x) × (depth b ≤ depth x)
      → Reads c cx → ElseReads d y → Reads b v
      → t ≡ codes "if " ++ (u ++ (10 ∷ (cx ++ (y ++ (codes "end" ++ (10 ∷ v)))))) → Reads x t
  if-reads x c d b e t u cx y v s fe dp rc o2 rb q E z w zero deep left i some ea ei l h m = absurd (omega arith)
  if-reads x c d b e t u cx y v s fe dp rc o2 rb q E z w (suc f) deep left i some ea ei l h m =
      if-step x c d b e u cx y v E z w f deep left i some s fe (omega (arith, dp.0, h), omega (arith, dp.1, h), omega (arith, dp.2, h)) rc o2 rb ea (ei ∙ if-bytes t u cx y v z q) (omega arith) m

  while-reads : (x c b : Body) (e : Expr) (t u cx v : List ℕ) → SpellsExpr N e u → ExprFits o e → (suc (depth c) ≤ depth x) × (depth b ≤ depth x) → Reads c cx → c ≢ end → Reads b v
      → t ≡ codes "while " ++ (u ++ (10 ∷ (cx ++ (codes "end" ++ (10 ∷ v))))) → Reads x t
  while-reads x c b e t u cx v s fe dp rc ne rb q E z w zero deep left i some ea ei l h m = absurd (omega arith)
  while-reads x c b e t u cx v s fe dp rc ne rb q E z w (suc f) deep left i some ea ei l h m =
      let tail : List ℕ = codes "end" ++ (10 ∷ (v ++ z)) in
      let d0 : drop i text ≡ codes "while " ++ (u ++ (10 ∷ (cx ++ tail))) =
      ei ∙ ap (λ k. k ++ z) q ∙ ap (λ k. codes "while " ++ k) (append_assoc u _ z ∙ ap (λ k. u ++ (10 ∷ k)) (append_assoc cx _ z)) in
      let n : ℕ = (i + 6) + (length u + 1) in
      let st : StandsLine i (line.While (i + 6)) n (cx ++ tail) = while_line e i u (cx ++ tail) s fe d0 in
      let d1 : drop n text ≡ cx ++ tail = behind i (line.While (i + 6)) n (cx ++ tail) st in
      let rm = line_room i (line.While (i + 6)) n (cx ++ tail) left st m in
      let a4 : 0 < deep = omega (arith, dp.0, h) in
      rw (block_line f i deep left some (line.While (i + 6)) n (cx ++ tail) st m (inl a4))
      (ended-then E End w (v ++ z) left (left - 1) x c some false (block_at find text f (deep - 1) (left - 1) n false) _
      (rc End tail (v ++ z) f (deep - 1) (left - 1) n false refl d1 (omega (arith, rm.0)) (omega (arith, dp.0, h)) rm.2)
      (λ a k. rw (k.ending_is, k.had (inl ne)) (go_on x b v E z w f deep left some a rb ea k.rest (omega (arith, k.fewer, rm.0)) (omega (arith, k.fewer)) (omega (arith, dp.1, h)) k.room)))

  -- the lines that stand alone
  name-shut : (k i : ℕ) (a z : List ℕ) → N k a → Apart z → drop i text ≡ a ++ z → opens (key_at text i) ≡ false
  name-shut k i a z nk p e = let h = named k a nk in ap opens (key_is i a z None h.bytes p e (key-free a h.free))

  four : (a c u v z : List ℕ) → (a ++ (c ++ (u ++ (10 ∷ v)))) ++ z ≡ a ++ (c ++ (u ++ (10 ∷ (v ++ z))))
  four a c u v z = append_assoc a _ z ∙ ap (λ k. a ++ k) (append_assoc c _ z ∙ ap (λ k. c ++ k) (append_assoc u _ z))

  named-line : (k : ℕ) (l : Line) (i n : ℕ) (c a u v : List ℕ) → LineHere N o text i l n → kind_of_spec l ≡ Plain → lines_in c ≡ 0 → N k a → lines_in u ≡ 0 → Apart (c ++ (u ++ (10 ∷ v))) → drop i text ≡ a ++ (c ++ (u ++ (10 ∷ v)))
      → n ≡ i + (length a + (length c + (length u + 1))) → PlainLine i v
  named-line k l i n c a u v h pl lc nk lu ap0 d q =
      record {
        line = l;
        next = n;
        plain = pl;
        shut = name-shut k i a (c ++ (u ++ (10 ∷ v))) nk ap0 d;
        stands = record {
          here = h;
          word = a ++ (c ++ u);
          free = omega (arith, lines-append a (c ++ u), lines-append c u, word-lines a (named k a nk).bytes, lc, lu);
          split = d ∙ sym (append_assoc a (c ++ u) (10 ∷ v) ∙ ap (λ m. a ++ m) (append_assoc c u (10 ∷ v)));
          size = omega (arith, length-append a (c ++ u), length-append c u, q);
        };
      }

  put-plain : (k : ℕ) (e : Expr) (i : ℕ) (a u v : List ℕ) → N k a → SpellsExpr N e u → ExprFits o e → drop i text ≡ a ++ (codes " = " ++ (u ++ (10 ∷ v))) → PlainLine i v
  unfolding LineHere
  put-plain k e i a u v nk s f d =
      named-line k (line.Put k (i + (length a + 3))) i ((i + (length a + 3)) + (length u + 1)) (codes " = ") a u v (a, u, v, nk, (e, s, f), refl, refl, d) refl lit_free nk (expr-lines N named e u s) refl d (omega arith)

  cell-plain : (k : ℕ) (e : Expr) (i : ℕ) (a u v : List ℕ) → N k a → SpellsExpr N e u → ExprFits o e → drop i text ≡ a ++ (codes " = cell " ++ (u ++ (10 ∷ v))) → PlainLine i v
  unfolding LineHere
  cell-plain k e i a u v nk s f d =
      named-line k (line.Read false k (i + (length a + 8))) i ((i + (length a + 8)) + (length u + 1)) (codes " = cell ") a u v (a, u, v, nk, (e, s, f), refl, refl, d) refl lit_cell nk (expr-lines N named e u s) refl d (omega arith)

  field_plain : (k : ℕ) (e : Expr) (i : ℕ) (a u v : List ℕ) → N k a → SpellsExpr N e u → ExprFits o e → drop i text ≡ a ++ (codes " = field " ++ (u ++ (10 ∷ v))) → PlainLine i v
  unfolding LineHere
  field_plain k e i a u v nk s f d =
      named-line k (line.Read true k (i + (length a + 9))) i ((i + (length a + 9)) + (length u + 1)) (codes " = field ") a u v (a, u, v, nk, (e, s, f), refl, refl, d) refl lit_field nk (expr-lines N named e u s) refl d (omega arith)

  two_line : (l : Line) (i n : ℕ) (c u y v : List ℕ) → LineHere N o text i l n → kind_of_spec l ≡ Plain → opens (key_at text i) ≡ false → lines_in c ≡ 0 → lines_in u ≡ 0 → lines_in y ≡ 0 → drop i text ≡ c ++ (u ++ (codes " = " ++ (y ++ (10 ∷ v))))
      → n ≡ i + (length c + (length u + (3 + (length y + 1)))) → PlainLine i v
  two_line l i n c u y v h pl sh lc lu ly d q =
      record {
        line = l;
        next = n;
        plain = pl;
        shut = sh;
        stands = record {
          here = h;
          word = c ++ (u ++ (codes " = " ++ y));
          free = omega (arith, lines-append c (u ++ (codes " = " ++ y)), lines-append u (codes " = " ++ y), lines-append (codes " = ") y, lit_free, lc, lu, ly);
          split = d ∙ sym (append_assoc c (u ++ (codes " = " ++ y)) (10 ∷ v) ∙ ap (λ m. c ++ m) (append_assoc u (codes " = " ++ y) (10 ∷ v)));
          size = omega (arith, length-append c (u ++ (codes " = " ++ y)), length-append u (codes " = " ++ y), length-append (codes " = ") y, q);
        };
      }

  write-cell-plain : (e g : Expr) (i : ℕ) (u y v : List ℕ) → SpellsExpr N e u → ExprFits o e → SpellsExpr N g y → ExprFits o g → drop i text ≡ codes "cell " ++ (u ++ (codes " = " ++ (y ++ (10 ∷ v)))) → PlainLine i v
  unfolding LineHere each_byte
  write-cell-plain e g i u y v s fe t fg d =
      two_line (line.Write false (i + 5) ((i + 5) + (length u + 3))) i (((i + 5) + (length u + 3)) + (length y + 1)) (codes "cell ") u y v (u, y, v, (e, s, fe), (g, t, fg), refl, refl, refl, d) refl
      (ap opens (key_is i (codes "cell") _ (Some kw.Cell) refl refl d (key-written kw.Cell))) lit_c (expr-lines N named e u s) (expr-lines N named g y t) d (omega arith)

  write-field-plain : (e g : Expr) (i : ℕ) (u y v : List ℕ) → SpellsExpr N e u → ExprFits o e → SpellsExpr N g y → ExprFits o g → drop i text ≡ codes "field " ++ (u ++ (codes " = " ++ (y ++ (10 ∷ v)))) → PlainLine i v
  unfolding LineHere each_byte
  write-field-plain e g i u y v s fe t fg d =
      two_line (line.Write true (i + 6) ((i + 6) + (length u + 3))) i (((i + 6) + (length u + 3)) + (length y + 1)) (codes "field ") u y v (u, y, v, (e, s, fe), (g, t, fg), refl, refl, refl, d) refl
      (ap opens (key_is i (codes "field") _ (Some kw.Field) refl refl d (key-written kw.Field))) lit_f (expr-lines N named e u s) (expr-lines N named g y t) d (omega arith)

  barrier-plain : (i : ℕ) (v : List ℕ) → drop i text ≡ codes "barrier" ++ (10 ∷ v) → PlainLine i v
  unfolding LineHere each_byte
  barrier-plain i v d =
      record {
        line = line.Barrier;
        next = i + 8;
        plain = refl;
        shut = ap opens (key_is i (codes "barrier") _ (Some kw.Barrier) refl refl d (key-written kw.Barrier));
        stands = record { here = (v, refl, d); word = codes "barrier"; free = lit_b; split = d; size = omega arith };
      }

  pub body_reads : (b : Body) (t : List ℕ) → SpellsBody N b t → BodyFits o b → Reads b t
  unfolding SpellsBody BodyFits depth
  body_reads end t s fi = end_reads t s
  body_reads (put k e b) t (a, u, v, h, s, r, q) fi =
      plain_reads (put k e b) b t v refl (λ i z d. put-plain k e i a u (v ++ z) h s fi.1 (d ∙ ap (λ m. m ++ z) q ∙ four a (codes " = ") u v z)) (body_reads b v r fi.2)
  body_reads (read_shared k e b) t (a, u, v, h, s, r, q) fi =
      plain_reads (read_shared k e b) b t v refl (λ i z d. cell-plain k e i a u (v ++ z) h s fi.1 (d ∙ ap (λ m. m ++ z) q ∙ four a (codes " = cell ") u v z)) (body_reads b v r fi.2)
  body_reads (read_all k e b) t (a, u, v, h, s, r, q) fi =
      plain_reads (read_all k e b) b t v refl (λ i z d. field_plain k e i a u (v ++ z) h s fi.1 (d ∙ ap (λ m. m ++ z) q ∙ four a (codes " = field ") u v z)) (body_reads b v r fi.2)
  body_reads (write_shared e g b) t (u, y, v, s, p, r, q) fi =
      plain_reads (write_shared e g b) b t v refl (λ i z d. write-cell-plain e g i u y (v ++ z) s fi.0 p fi.1 (d ∙ ap (λ m. m ++ z) q ∙ ap (λ m. codes "cell " ++ m) (four u (codes " = ") y v z))) (body_reads b v r fi.2)
  body_reads (write_all e g b) t (u, y, v, s, p, r, q) fi =
      plain_reads (write_all e g b) b t v refl (λ i z d. write-field-plain e g i u y (v ++ z) s fi.0 p fi.1 (d ∙ ap (λ m. m ++ z) q ∙ ap (λ m. codes "field " ++ m) (four u (codes " = ") y v z))) (body_reads b v r fi.2)
  body_reads (barrier b) t (v, r, q) fi =
      plain_reads (barrier b) b t v refl (λ i z d. barrier-plain i (v ++ z) (d ∙ ap (λ m. m ++ z) q)) (body_reads b v r fi)
  body_reads (when e c d b) t (u, x, y, v, s, cs, o2, r, q) fi =
      if-reads (when e c d b) c d b e t u x y v s fi.0 (omega arith, omega arith, omega arith) (body_reads c x cs fi.1) (elim o2 [ inl p ↦ inl p | inr p ↦ inr (p.0, body_reads d p.0 p.1 fi.2, p.2) ]) (body_reads b v r fi.3) q
  body_reads (while e c b) t (u, x, v, s, cs, ne, r, q) fi =
      while-reads (while e c b) c b e t u x v s fi.0 (omega arith, omega arith) (body_reads c x cs fi.1) ne (body_reads b v r fi.3) q
