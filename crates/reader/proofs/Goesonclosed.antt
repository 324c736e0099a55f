-- Lines in each other that are refused for their shape can go on up to there: what is open is closed.
use Rattle.std.proofs.Common.{◌≡◌, ℕ, zero, suc, ◌+◌, ◌-◌, ◌<◌, ◌≤◌, Bool, true, false, cond, ◌&&◌, eqb, leb, ◌≢◌, ◌⊎◌, List, [], ◌∷◌, ◌++◌, length, drop, Some, Ok, Err, codes, Option, Result, sym, refl, ap, ◌∙◌, inl, inr, arith}
use Rattle.std.proofs.lemmas.List.{append_assoc, append-nil}
use Rattle.std.proofs.lemmas.Bool.{leb-true, eqb-false}
use Rattle.lanes.specs.Syntax.{Body, end, put, read_shared, write_shared, read_all, write_all, barrier, when, while, followed}
use Rattle.grammar.specs.Spelling.{SpellsBody, AnyName}
use Rattle.grammar.specs.Refusals.{place_of}
use Rattle.grammar.specs.Runs.{written}
use Rattle.grammar.specs.Walk.{key_at, and_then}
use Rattle.grammar.specs.WalkLine.{line_at}
use Rattle.grammar.specs.declared.refusals.Refusal.{Refusal}
use Rattle.grammar.specs.declared.refusals.Refusal.TheVariants.{Shape, ManyLines, Deep}
use Rattle.grammar.specs.declared.keywords.Keyword.{Keyword}
use Rattle.grammar.specs.declared.keywords.Keyword.TheVariants as kw
use Rattle.grammar.specs.declared.lines.Line.{Line}
use Rattle.grammar.specs.declared.lines.Line.TheVariants as line
use Rattle.grammar.specs.declared.lines.Lined.{Lined}
use Rattle.grammar.proofs.Complete.{past}
use Rattle.grammar.proofs.Sound.{cond_cases, not_err, same_ok}
use Rattle.grammar.proofs.Goesonfront.{Just, Both, Front, Got, front_map, got_map, front_none, front_first, front_second, got_both, longer}
use Rattle.grammar.proofs.Goesonbegun.{Bodied, HeadOf, LineOf, front-named, front-line, got-line, not-end-barrier, not-end-when, not-end-while}
use Rattle.reader.specs.Blocks.{opens, next_at, too_many, block_at, by_kind, kind_of_spec, is_else_spec, must_end_spec, must_as, must_loop_as}
use Rattle.reader.specs.declared.blocks.Ending.{Ending}
use Rattle.reader.specs.declared.blocks.Ending.TheVariants.{Text, Else, End}
use Rattle.reader.specs.declared.blocks.Stop.{Stop}

-- lines, or none
pub record SomeLines (t : List ℕ) : Type 0 where
  pub lines : Body
  pub spells : SpellsBody AnyName lines t

-- lines behind lines
two-lists : (a c u v z : List ℕ) → (a ++ (c ++ (u ++ (10 ∷ v)))) ++ z ≡ a ++ (c ++ (u ++ (10 ∷ (v ++ z))))
two-lists a c u v z = append_assoc a _ z ∙ ap (λ k. a ++ k) (append_assoc c _ z ∙ ap (λ k. c ++ k) (append_assoc u _ z))

join : (b c : Body) (t w : List ℕ) → SpellsBody AnyName b t → SpellsBody AnyName c w → SpellsBody AnyName (followed b c) (t ++ w)
unfolding SpellsBody followed
join end c t w s p = rw s p
join (put k e b) c t w (a, u, v, h, s, r, q) p = (a, u, v ++ w, h, s, join b c v w r p, ap (λ m. m ++ w) q ∙ two-lists a (codes " = ") u v w)
join (read_shared k e b) c t w (a, u, v, h, s, r, q) p = (a, u, v ++ w, h, s, join b c v w r p, ap (λ m. m ++ w) q ∙ two-lists a (codes " = cell ") u v w)
join (read_all k e b) c t w (a, u, v, h, s, r, q) p = (a, u, v ++ w, h, s, join b c v w r p, ap (λ m. m ++ w) q ∙ two-lists a (codes " = field ") u v w)
join (write_shared e g b) c t w (u, y, v, s, x, r, q) p = (u, y, v ++ w, s, x, join b c v w r p, ap (λ m. m ++ w) q ∙ ap (λ m. codes "cell " ++ m) (two-lists u (codes " = ") y v w))
join (write_all e g b) c t w (u, y, v, s, x, r, q) p = (u, y, v ++ w, s, x, join b c v w r p, ap (λ m. m ++ w) q ∙ ap (λ m. codes "field " ++ m) (two-lists u (codes " = ") y v w))
join (barrier b) c t w (v, r, q) p = (v ++ w, join b c v w r p, ap (λ m. m ++ w) q)
join (when e x d b) c t w (u, cx, y, v, s, cs, o, r, q) p = (
  u,
  cx,
  y,
  v ++ w,
  s,
  cs,
  o,
  join b c v w r p,
  ap (λ m. m ++ w) q ∙ ap (λ m. codes "if " ++ m) (append_assoc u _ w ∙ ap (λ m. u ++ (10 ∷ m)) (append_assoc cx _ w ∙ ap (λ m. cx ++ m) (append_assoc y _ w))),
)
join (while e x b) c t w (u, cx, v, s, cs, ne, r, q) p =
    (u, cx, v ++ w, s, cs, ne, join b c v w r p, ap (λ m. m ++ w) q ∙ ap (λ m. codes "while " ++ m) (append_assoc u _ w ∙ ap (λ m. u ++ (10 ∷ m)) (append_assoc cx _ w)))

differ : {X : Type 0} (x y : X) (f : X → ℕ) → f x ≡ 1 → f y ≡ 0 → x ≢ y
differ x y f p q e = omega (arith, p, q, ap f e)

abbrev is_some : Body → ℕ
is_some end = 0
is_some (put k e b) = 1
is_some (read_shared k e b) = 1
is_some (write_shared e f b) = 1
is_some (read_all k e b) = 1
is_some (write_all e f b) = 1
is_some (barrier b) = 1
is_some (when e c d b) = 1
is_some (while e c b) = 1

join-left : (b c : Body) → b ≢ end → followed b c ≢ end
unfolding followed
join-left end c h = absurd (h refl)
join-left (put k e b) c h = differ _ end is_some refl refl
join-left (read_shared k e b) c h = differ _ end is_some refl refl
join-left (write_shared e f b) c h = differ _ end is_some refl refl
join-left (read_all k e b) c h = differ _ end is_some refl refl
join-left (write_all e f b) c h = differ _ end is_some refl refl
join-left (barrier b) c h = differ _ end is_some refl refl
join-left (when e x d b) c h = differ _ end is_some refl refl
join-left (while e x b) c h = differ _ end is_some refl refl

join-right : (b c : Body) → c ≢ end → followed b c ≢ end
unfolding followed
join-right end c h = h
join-right (put k e b) c h = differ _ end is_some refl refl
join-right (read_shared k e b) c h = differ _ end is_some refl refl
join-right (write_shared e f b) c h = differ _ end is_some refl refl
join-right (read_all k e b) c h = differ _ end is_some refl refl
join-right (write_all e f b) c h = differ _ end is_some refl refl
join-right (barrier b) c h = differ _ end is_some refl refl
join-right (when e x d b) c h = differ _ end is_some refl refl
join-right (while e x b) c h = differ _ end is_some refl refl

bodied-lines : (t : List ℕ) → Bodied t → SomeLines t
bodied-lines t b = record { lines = b.lines; spells = b.spells }

lines-bodied : (t : List ℕ) → Both SomeLines Bodied t → Bodied t
lines-bodied t b =
    rw b.is (record { lines = followed b.one.lines b.two.lines; spells = join b.one.lines b.two.lines b.left b.right b.one.spells b.two.spells; some = join-right b.one.lines b.two.lines b.two.some })

bodied-more : (t : List ℕ) → Both Bodied SomeLines t → Bodied t
bodied-more t b =
    rw b.is (record { lines = followed b.one.lines b.two.lines; spells = join b.one.lines b.two.lines b.left b.right b.one.spells b.two.spells; some = join-left b.one.lines b.two.lines b.one.some })

-- an if, up to where its lines end; with its else; a while
abbrev IfLines : List ℕ → Type 0
IfLines = Both (HeadOf (codes "if ")) SomeLines

abbrev ElseLines : List ℕ → Type 0
ElseLines = Both IfLines (Both (Just (codes "else\n")) SomeLines)

abbrev WhileLines : List ℕ → Type 0
WhileLines = Both (HeadOf (codes "while ")) Bodied

abbrev EndLine : List ℕ → Type 0
EndLine = Just (codes "end\n")

if-whole : (t : List ℕ) → Both IfLines EndLine t → Bodied t
unfolding SpellsBody
if-whole t b =
    let u : List ℕ = b.one.one.0 in
    let x : List ℕ = b.one.right in
    let q : t ≡ codes "if " ++ (u ++ (10 ∷ (x ++ codes "end\n"))) =
    b.is ∙ ap (λ m. b.left ++ m) b.two ∙ ap (λ m. m ++ codes "end\n") (b.one.is ∙ ap (λ m. m ++ x) b.one.one.2)
    ∙ ap (λ m. codes "if " ++ m) (append_assoc (u ++ (10 ∷ [])) x (codes "end\n") ∙ append_assoc u (10 ∷ []) (x ++ codes "end\n")) in
    record { lines = when b.one.one.1.0 b.one.two.lines end end; spells = (u, x, [], [], b.one.one.1.1, b.one.two.spells, inl (refl, refl), refl, q); some = not-end-when _ _ _ _ }

else-whole : (t : List ℕ) → Both ElseLines EndLine t → Bodied t
unfolding SpellsBody
else-whole t b =
    let i = b.one.one in
    let u : List ℕ = i.one.0 in
    let x : List ℕ = i.right in
    let o = b.one.two in
    let y : List ℕ = o.right in
    let q : t ≡ codes "if " ++ (u ++ (10 ∷ (x ++ ((codes "else" ++ (10 ∷ y)) ++ codes "end\n")))) =
    b.is ∙ ap (λ m. b.left ++ m) b.two ∙ ap (λ m. m ++ codes "end\n") (b.one.is ∙ ap (λ m. b.one.left ++ m) (o.is ∙ ap (λ m. m ++ y) o.one) ∙ ap (λ m. m ++ (codes "else\n" ++ y)) (i.is ∙ ap (λ m. m ++ x) i.one.2))
    ∙ ap (λ m. codes "if " ++ m) (append_assoc ((u ++ (10 ∷ [])) ++ x) (codes "else\n" ++ y) (codes "end\n") ∙ append_assoc (u ++ (10 ∷ [])) x ((codes "else\n" ++ y) ++ codes "end\n") ∙ append_assoc u (10 ∷ []) (x ++ ((codes "else\n" ++ y) ++ codes "end\n"))) in
    record { lines = when i.one.1.0 i.two.lines o.two.lines end; spells = (u, x, codes "else" ++ (10 ∷ y), [], i.one.1.1, i.two.spells, inr (y, o.two.spells, refl), refl, q); some = not-end-when _ _ _ _ }

while-whole : (t : List ℕ) → Both WhileLines EndLine t → Bodied t
unfolding SpellsBody
while-whole t b =
    let u : List ℕ = b.one.one.0 in
    let x : List ℕ = b.one.right in
    let q : t ≡ codes "while " ++ (u ++ (10 ∷ (x ++ codes "end\n"))) =
    b.is ∙ ap (λ m. b.left ++ m) b.two ∙ ap (λ m. m ++ codes "end\n") (b.one.is ∙ ap (λ m. m ++ x) b.one.one.2)
    ∙ ap (λ m. codes "while " ++ m) (append_assoc (u ++ (10 ∷ [])) x (codes "end\n") ∙ append_assoc u (10 ∷ []) (x ++ codes "end\n")) in
    record { lines = while b.one.one.1.0 b.one.two.lines end; spells = (u, x, [], b.one.one.1.1, b.one.two.spells, b.one.two.some, refl, q); some = not-end-while _ _ _ }

a-barrier : Bodied (codes "barrier\n")
unfolding SpellsBody
a-barrier = record { lines = barrier end; spells = ([], refl, refl); some = not-end-barrier end }

no_lines : SomeLines []
unfolding SpellsBody
no_lines = record { lines = end; spells = refl }

module _ (text : List ℕ) (find : List ℕ → Option ℕ) where
  -- the next line
  many-err : (i p : ℕ) (r : Result Lined Refusal) → too_many i r ≡ Err (Shape p) → r ≡ Err (Shape p)
  many-err i p (Ok l) e = let z : ◌≡◌ {A = ℕ} 0 1 = cc in absurd (omega arith)
  many-err i p (Err d) e = elim (cond_cases (eqb (place_of d) i) _ _ (Err (Shape p)) e) [ inl q ↦ q.1 | inr q ↦ let y = q.1 in let z : ◌≡◌ {A = ℕ} 0 1 = cc in absurd (omega arith) ]

  many-ok : (i : ℕ) (x : Lined) (r : Result Lined Refusal) → too_many i r ≡ Ok x → ⊥
  many-ok i x (Ok l) e = not_err (ManyLines i) x e
  many-ok i x (Err d) e = elim (cond_cases (eqb (place_of d) i) _ _ (Ok x) e) [ inl q ↦ not_err d x q.1 | inr q ↦ not_err (ManyLines i) x q.1 ]

  pub next-err : (deep left i p : ℕ) → next_at find text deep left i ≡ Err (Shape p) → line_at find text i ≡ Err (Shape p)
  unfolding next_at
  next-err deep left i p e =
      elim (cond_cases (eqb left 0) _ _ (Err (Shape p)) e) [
        | inl q ↦ many-err i p (line_at find text i) q.1
        | inr q ↦ elim (cond_cases (eqb deep 0 && opens (key_at text i)) _ _ (Err (Shape p)) q.1) [ inl r ↦ let y = r.1 in let z : ◌≡◌ {A = ℕ} 0 1 = cc in absurd (omega arith) | inr r ↦ r.1 ]
      ]

  pub next-ok : (deep left i : ℕ) (x : Lined) → next_at find text deep left i ≡ Ok x → (line_at find text i ≡ Ok x) × (0 < left)
  unfolding next_at
  next-ok deep left i x e =
      elim (cond_cases (eqb left 0) _ _ (Ok x) e) [
        | inl q ↦ absurd (many-ok i x (line_at find text i) q.1)
        | inr q ↦
            let n : (left ≡ 0 → ⊥) = eqb-false left 0 q.0 in
            let m : 0 < left = omega arith in
            elim (cond_cases (eqb deep 0 && opens (key_at text i)) _ _ (Ok x) q.1) [ inl r ↦ absurd (not_err (Deep i) x r.1) | inr r ↦ (r.1, m) ]
      ]

module _ (text : List ℕ) (find : List ℕ → Option ℕ) (o : ℕ) (finds : (k : ℕ) (u : List ℕ) → find u ≡ Some k → AnyName k u × (k < o)) where
  -- how a block ended
  abbrev pub EndedAs : Ending → Stop → Type 0
  EndedAs Text s = length text ≤ s.pos
  EndedAs Else s = Got text (Just (codes "else\n")) s.pos s.next
  EndedAs End s = Got text EndLine s.pos s.next

  pub record Gone (i : ℕ) (some : Bool) (left : ℕ) (s : Stop) : Type 0 where
    pub lines : Got text SomeLines i s.pos
    pub had : s.some ≡ true → (some ≡ true) ⊎ (lines.is.lines ≢ end)
    pub ending : EndedAs s.ending s
    pub fewer : s.left ≤ left

  pub record Walked (i : ℕ) (some : Bool) (left : ℕ) (r : Result Stop Refusal) : Type 0 where
    pub bad : (p : ℕ) → r ≡ Err (Shape p) → Front text Bodied i p
    pub good : (s : Stop) → r ≡ Ok s → Gone i some left s

  walked_then : {X : Type 0} (i : ℕ) (some : Bool) (left : ℕ) (r : Result X Refusal) (f : X → Result Stop Refusal) → ((p : ℕ) → r ≡ Err (Shape p) → Front text Bodied i p) → ((x : X) → r ≡ Ok x → Walked i some left (f x)) → Walked i some left (and_then r f)
  walked_then i some left (Ok x) f a b = b x refl
  walked_then i some left (Err d) f a b = record { bad = λ p e. let n : d ≡ Shape p = cc in a p (ap (λ m. Err m) n); good = λ s e. absurd (not_err d s e) }

  walked_err : (i : ℕ) (some : Bool) (left p : ℕ) → Front text Bodied i p → Walked i some left (Err (Shape p))
  walked_err i some left p f = record { bad = λ q e. let n : p ≡ q = cc in rw (sym n) f; good = λ s e. absurd (not_err (Shape p) s e) }

  after : (i m : ℕ) (some : Bool) (l left : ℕ) (r : Result Stop Refusal) → Got text Bodied i m → l ≤ left → Walked m true l r → Walked i some left r
  after i m some l left r g h w =
      record {
        bad = λ p e. front_map text (Both SomeLines Bodied) Bodied i p lines-bodied (front_second text SomeLines Bodied i m p (got_map text Bodied SomeLines i m bodied-lines g) (w.bad p e));
        good = λ s e. let k = w.good s e in
            let x : Got text Bodied i s.pos = got_map text (Both Bodied SomeLines) Bodied i s.pos bodied-more (got_both text Bodied SomeLines i m s.pos g k.lines) in
            record { lines = record { bytes = x.bytes; is = record { lines = x.is.lines; spells = x.is.spells }; here = x.here; end_is = x.end_is }; had = λ _. inr x.is.some; ending = k.ending; fewer = omega (arith, k.fewer) };
      }

  close_if : (i p : ℕ) → Front text IfLines i p → Front text Bodied i p
  close_if i p f = front_map text (Both IfLines EndLine) Bodied i p if-whole (front_first text IfLines EndLine i p (codes "end\n") f refl)

  close_else : (i p : ℕ) → Front text ElseLines i p → Front text Bodied i p
  close_else i p f = front_map text (Both ElseLines EndLine) Bodied i p else-whole (front_first text ElseLines EndLine i p (codes "end\n") f refl)

  close_while : (i n p : ℕ) → Got text (HeadOf (codes "while ")) i n → Front text Bodied n p → Front text Bodied i p
  close_while i n p g f = front_map text (Both WhileLines EndLine) Bodied i p while-whole (front_first text WhileLines EndLine i p (codes "end\n") (front_second text (HeadOf (codes "while ")) Bodied i n p g f) refl)

  whole_front : (L : List ℕ → Type 0) (i p : ℕ) → Got text L i p → Front text L i p
  whole_front L i p g = record { upto = g.bytes; more = []; is = rw (append-nil g.bytes) g.is; here = g.here; end_is = g.end_is }

  -- an else or an end that may not stand there, as the beginning of a name
  pub word_front : (k : Keyword) (i n : ℕ) → Got text (Just (written k ++ codes "\n")) i n → Front text Bodied i (n - 1)
  word_front k i n g =
      let e : drop i text ≡ written k ++ (10 ∷ drop n text) = g.here ∙ ap (λ m. m ++ drop n text) g.is ∙ append_assoc (written k) (codes "\n") (drop n text) in
      let l : n ≡ i + (length (written k) + 1) = g.end_is ∙ ap (λ m. i + length m) g.is ∙ ap (λ m. i + m) (one_longer (written k)) in
      let m : n - 1 ≡ i + length (written k) = omega arith in
      front-named text find o finds i (n - 1)
      (record { upto = written k; more = codes "a"; is = longer k; here = e ∙ ap (λ t. written k ++ t) (sym (ap (λ t. drop t text) m ∙ past text i (written k) _ e)); end_is = m })
    where
      one_longer : (w : List ℕ) → length (w ++ codes "\n") ≡ length w + 1
      one_longer [] = refl
      one_longer (b ∷ w) = let h = one_longer w in omega (arith, h)

  pub lines_then : (n m p : ℕ) → Got text SomeLines n m → Front text Bodied m p → Front text Bodied n p
  lines_then n m p g f = front_map text (Both SomeLines Bodied) Bodied n p lines-bodied (front_second text SomeLines Bodied n m p g f)

  module _ (f : ℕ) (go : ℕ → ℕ → ℕ → Bool → Result Stop Refusal) (h : (deep l n : ℕ) (some : Bool) → l < f → Walked n some l (go deep l n some)) where
    -- behind the second part of an if
    else_on : (E : Ending) (i m deep left : ℕ) (some : Bool) (y : Stop) → Got text IfLines i m → (n : ℕ) → Got text (Just (codes "else\n")) m n → (k : Got text SomeLines n y.pos) → EndedAs E y → y.left < f → y.left ≤ left
        → Walked i some left (and_then (must_as End E y) (λ e. go deep e.left e.next true))
    else_on Text i m deep left some y g n a k e l q =
        walked_err i some left y.pos (close_else i y.pos (whole_front ElseLines i y.pos (got_both text IfLines (Both (Just (codes "else\n")) SomeLines) i m y.pos g (got_both text (Just (codes "else\n")) SomeLines m n y.pos a k))))
    else_on Else i m deep left some y g n a k e l q =
        walked_err i some left (y.next - 1)
        (close_else i (y.next - 1) (front_second text IfLines (Both (Just (codes "else\n")) SomeLines) i m (y.next - 1) g
        (front_second text (Just (codes "else\n")) SomeLines m n (y.next - 1) a (front_map text Bodied SomeLines n (y.next - 1) bodied-lines (lines_then n y.pos (y.next - 1) k (word_front kw.Else y.pos y.next e))))))
    else_on End i m deep left some y g n a k e l q =
        after i y.next some y.left left _
        (got_map text (Both ElseLines EndLine) Bodied i y.next else-whole (got_both text ElseLines EndLine i y.pos y.next
        (got_both text IfLines (Both (Just (codes "else\n")) SomeLines) i m y.pos g (got_both text (Just (codes "else\n")) SomeLines m n y.pos a k)) e))
        q (h deep y.left y.next true l)

    if_on : (E : Ending) (i n deep left : ℕ) (some : Bool) (x : Stop) → Got text (HeadOf (codes "if ")) i n → Got text SomeLines n x.pos → EndedAs E x → x.left < f → x.left ≤ left
        → Walked i some left (cond (is_else_spec E) (and_then (go (deep - 1) x.left x.next false) (λ t. and_then (must_end_spec t) (λ e. go deep e.left e.next true))) (and_then (must_as End E x) (λ e. go deep e.left e.next true)))
    if_on Text i n deep left some x g k e l q = walked_err i some left x.pos (close_if i x.pos (whole_front IfLines i x.pos (got_both text (HeadOf (codes "if ")) SomeLines i n x.pos g k)))
    if_on End i n deep left some x g k e l q =
        after i x.next some x.left left _
        (got_map text (Both IfLines EndLine) Bodied i x.next if-whole (got_both text IfLines EndLine i x.pos x.next (got_both text (HeadOf (codes "if ")) SomeLines i n x.pos g k) e)) q (h deep x.left x.next true l)
    if_on Else i n deep left some x g k e l q =
        let gi : Got text IfLines i x.pos = got_both text (HeadOf (codes "if ")) SomeLines i n x.pos g k in
        let w = h (deep - 1) x.left x.next false l in
        walked_then i some left (go (deep - 1) x.left x.next false) (λ t. and_then (must_end_spec t) (λ e. go deep e.left e.next true))
        (λ p a. close_else i p (front_second text IfLines (Both (Just (codes "else\n")) SomeLines) i x.pos p gi
        (front_second text (Just (codes "else\n")) SomeLines x.pos x.next p e (front_map text Bodied SomeLines x.next p bodied-lines (w.bad p a)))))
        (λ y a. let z = w.good y a in else_on y.ending i x.pos deep left some y gi x.next e z.lines z.ending (omega (arith, z.fewer)) (omega (arith, z.fewer)))

    loop_some : (b : Bool) (i n deep left : ℕ) (some : Bool) (x : Stop) → x.some ≡ b → Got text (HeadOf (codes "while ")) i n → (k : Got text SomeLines n x.pos) → (x.some ≡ true → (false ≡ true) ⊎ (k.is.lines ≢ end)) → Got text EndLine x.pos x.next → x.left < f → x.left ≤ left
        → Walked i some left (and_then (cond b (Ok x) (Err (Shape (x.next - 1)))) (λ e. go deep e.left e.next true))
    loop_some false i n deep left some x sb g k hd e l q = walked_err i some left (x.next - 1) (close_while i n (x.next - 1) g (lines_then n x.pos (x.next - 1) k (word_front kw.End x.pos x.next e)))
    loop_some true i n deep left some x sb g k hd e l q =
        let ne : k.is.lines ≢ end = elim (hd sb) [ inl z ↦ absurd (let y : ◌≡◌ {A = ℕ} 0 1 = cc in omega arith) | inr y ↦ y ] in
        let kb : Got text Bodied n x.pos = record { bytes = k.bytes; is = record { lines = k.is.lines; spells = k.is.spells; some = ne }; here = k.here; end_is = k.end_is } in
        after i x.next some x.left left _
        (got_map text (Both WhileLines EndLine) Bodied i x.next while-whole (got_both text WhileLines EndLine i x.pos x.next (got_both text (HeadOf (codes "while ")) Bodied i n x.pos g kb) e)) q (h deep x.left x.next true l)

    loop_on : (E : Ending) (i n deep left : ℕ) (some : Bool) (x : Stop) → Got text (HeadOf (codes "while ")) i n → (k : Got text SomeLines n x.pos) → (x.some ≡ true → (false ≡ true) ⊎ (k.is.lines ≢ end)) → EndedAs E x → x.left < f → x.left ≤ left
        → Walked i some left (and_then (must_loop_as E x) (λ e. go deep e.left e.next true))
    loop_on Text i n deep left some x g k hd e l q = walked_err i some left x.pos (close_while i n x.pos g (lines_then n x.pos x.pos k (front_none text Bodied x.pos (codes "barrier\n") a-barrier)))
    loop_on Else i n deep left some x g k hd e l q = walked_err i some left (x.next - 1) (close_while i n (x.next - 1) g (lines_then n x.pos (x.next - 1) k (word_front kw.Else x.pos x.next e)))
    loop_on End i n deep left some x g k hd e l q = loop_some x.some i n deep left some x refl g k hd e l q

    stopped : (E : Ending) (i n left : ℕ) (some : Bool) → EndedAs E (record { ending = E; some = some; pos = i; next = n; left = left }) → (m : ℕ) → left ≤ m → Walked i some m (Ok (record { ending = E; some = some; pos = i; next = n; left = left }))
    stopped E i n left some e m q =
        record {
          bad = λ p a. let z : ◌≡◌ {A = ℕ} 0 1 = cc in absurd (omega arith);
          good = λ s a. let y : record { ending = E; some = some; pos = i; next = n; left = left } ≡ s = same_ok _ s a in
              rw (sym y) (record { lines = record { bytes = []; is = no_lines; here = refl; end_is = omega arith }; had = λ b. inl b; ending = e; fewer = q });
        }

    by_line : (x : Line) (i n deep left : ℕ) (some : Bool) → Got text (LineOf x) i n → 0 < left → left < suc f → Walked i some left (by_kind go deep left i some (kind_of_spec x) n)
    by_line (line.Put k x) i n deep left some g z l = after i n some (left - 1) left _ g (omega arith) (h deep (left - 1) n true (omega arith))
    by_line (line.Read b k x) i n deep left some g z l = after i n some (left - 1) left _ g (omega arith) (h deep (left - 1) n true (omega arith))
    by_line (line.Write b p v) i n deep left some g z l = after i n some (left - 1) left _ g (omega arith) (h deep (left - 1) n true (omega arith))
    by_line line.Barrier i n deep left some g z l = after i n some (left - 1) left _ g (omega arith) (h deep (left - 1) n true (omega arith))
    by_line (line.If x) i n deep left some g z l =
        let w = h (deep - 1) (left - 1) n false (omega arith) in
        walked_then i some left (go (deep - 1) (left - 1) n false) _
        (λ p a. close_if i p (front_second text (HeadOf (codes "if ")) SomeLines i n p g (front_map text Bodied SomeLines n p bodied-lines (w.bad p a))))
        (λ y a. let k = w.good y a in if_on y.ending i n deep left some y g k.lines k.ending (omega (arith, k.fewer)) (omega (arith, k.fewer)))
    by_line line.Else i n deep left some g z l = stopped Else i n (left - 1) some g left (omega arith)
    by_line line.End i n deep left some g z l = stopped End i n (left - 1) some g left (omega arith)
    by_line (line.While x) i n deep left some g z l =
        let w = h (deep - 1) (left - 1) n false (omega arith) in
        walked_then i some left (go (deep - 1) (left - 1) n false) _
        (λ p a. close_while i n p g (w.bad p a))
        (λ y a. let k = w.good y a in loop_on y.ending i n deep left some y g k.lines k.had k.ending (omega (arith, k.fewer)) (omega (arith, k.fewer)))

  walked_cond : (c : Bool) (i : ℕ) (some : Bool) (left : ℕ) (r s : Result Stop Refusal) → (c ≡ true → Walked i some left r) → (c ≡ false → Walked i some left s) → Walked i some left (cond c r s)
  walked_cond true i some left r s a b = a refl
  walked_cond false i some left r s a b = b refl

  pub block_walk : (f deep left i : ℕ) (some : Bool) → left < f → Walked i some left (block_at find text f deep left i some)
  unfolding block_at
  block_walk zero deep left i some l = absurd (omega arith)
  block_walk (suc f) deep left i some l =
      walked_cond (leb (length text) i) i some left _ _
      (λ c. stopped f (block_at find text f) (λ d m n b k. block_walk f d m n b k) Text i i left some (leb-true (length text) i c) left (omega arith))
      (λ c. walked_then i some left (next_at find text deep left i) _ (λ p e. front-line text find o finds i p (next-err text find deep left i p e))
      (λ x e. let q = next-ok text find deep left i x e in by_line f (block_at find text f) (λ d m n b k. block_walk f d m n b k) x.line i x.next deep left some (got-line text find o finds i x q.0) q.1 l))
