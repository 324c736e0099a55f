-- Whole texts: where the body begins, and how many lines there are.
use Rattle.std.proofs.Common.{◌≡◌, ℕ, suc, ◌+◌, ◌*◌, ◌<◌, ◌≤◌, true, cond, ◌&&◌, eqb, ltb, ◌≢◌, List, [], ◌∷◌, ◌++◌, length, get_or, drop, codes, Some, None, Option, sym, refl, ap, ◌∙◌, subst, inl, inr, append_assoc, arith, MatchOption}
use Rattle.std.specs.List.{flat_map}
use Rattle.std.proofs.lemmas.List.{append-nil, get_or-take}
use Rattle.std.proofs.lemmas.Bool.{cases_Bool, both_ways, and_parts, ltb-true, lt-ltb, le-ltb}
use Rattle.lanes.specs.Syntax.{Body, Program, end, put, read_shared, write_shared, read_all, write_all, barrier, when, while}
use Rattle.grammar.specs.declared.keywords.Keyword.TheVariants.{Own, Cells}
use Rattle.grammar.specs.Spelling.{word_byte, digit, each_byte, IsName, SpellsBody, Named, CellsLine}
use Rattle.grammar.specs.Stands.{Apart}
use Rattle.grammar.specs.Taken.{Taken, Distinct, lines_in, lines_within}
use Rattle.grammar.proofs.Bytewise.{digit-word, each_append, each_weaken, lines-append}
use Rattle.code.specs.declared.step.Step.TheVariants.{End}
use Rattle.code.specs.declared.scan.Line.{Line}
use Rattle.code.specs.declared.scan.Line.TheVariants.{Heading}
use Rattle.code.specs.declared.compile.Place.{Place}
use Rattle.code.specs.Lines.{lines_of, else_lines_spec, left_at}
use Rattle.code.specs.Words.{step_at}
use Rattle.code.specs.Code.{Codes, Coded, CodeRight}
use Rattle.code.specs.Joins.{Nested, JoinsRight, Regions}
use Rattle.code.specs.Scan.{in_line, Scan}
use Rattle.code.specs.Make.{entry_at, Lies, no_more, Names, NextLine, Given, LinesMade, Skipped, Compiled, Joining, stopping}
use Rattle.code.proofs.Left.{else-most, no_second, when-lines}
use Rattle.code.proofs.Rights.{code-right}
use Rattle.code.proofs.Nests.{joins-right}
use Rattle.code.proofs.Settles.{codes-start}
use Rattle.code.proofs.Regions.{codes-regions}
use Rattle.code.proofs.Exprs.{word-in_line}
use Rattle.code.proofs.Tells.{next_is}
use Rattle.code.proofs.Heads.{keyword-scan}
use Rattle.code.proofs.Bodies.{told, halted, plain, branch, heading}
use Rattle.code.proofs.Inside.{codes_same}
use Rattle.code.proofs.Parts.{not-stopping}

-- A text within the limits is not long.
short-at : (k : ℕ) (bs : List ℕ) → k ≤ 1024 → lines_within 1024 k bs ≡ true → k + length bs ≤ 1025 * lines_in bs + 1024
unfolding lines_within lines_in
short-at k [] h s = omega arith
short-at k (b ∷ bs) h s =
    elim (cases_Bool (eqb b 10)) [
      | inl q ↦
          let t : lines_within 1024 0 bs ≡ true = rw q at s in
          let n : ◌≡◌ {A = ℕ} (cond {A = ℕ} (eqb b 10) 1 0) 1 = ap (λ v. cond {A = ℕ} v 1 0) q in
          omega (arith, short-at 0 bs (omega arith) t)
      | inr q ↦
          let t : (ltb k 1024 && lines_within 1024 (suc k) bs) ≡ true = rw q at s in
          let p = and_parts (ltb k 1024) (lines_within 1024 (suc k) bs) t in
          let l : k < 1024 = ltb-true k 1024 p.0 in
          let n : ◌≡◌ {A = ℕ} (cond {A = ℕ} (eqb b 10) 1 0) 0 = ap (λ v. cond {A = ℕ} v 1 0) q in
          omega (arith, short-at (suc k) bs (omega arith) p.1)
    ]

pub short-text : (ns : List (List ℕ)) (p : Program) (text : List ℕ) → Taken ns p text → length text < 2147483648
short-text ns p text t = omega (arith, short-at 0 text (omega arith) t.short, t.few_lines)

lines-nl : (v : List ℕ) → lines_in (10 ∷ v) ≡ 1 + lines_in v
unfolding lines_in
lines-nl v = refl

-- A part that is followed by a line's end and another part.
line-more : (u v : List ℕ) → 1 + lines_in v ≤ lines_in (u ++ (10 ∷ v))
line-more u v = omega (arith, lines-append u (10 ∷ v), lines-nl v)

-- A body has no more entries than lines.
module _ (N : ℕ → List ℕ → Type 0) where
  named-lines : (a m u z t : List ℕ) → t ≡ a ++ (m ++ (u ++ (10 ∷ z))) → 1 + lines_in z ≤ lines_in t
  named-lines a m u z t q = rw q (omega (arith, lines-append a (m ++ (u ++ (10 ∷ z))), lines-append m (u ++ (10 ∷ z)), line-more u z))

  worded-lines : (m u z t : List ℕ) → t ≡ m ++ (u ++ (10 ∷ z)) → 1 + lines_in z ≤ lines_in t
  worded-lines m u z t q = rw q (omega (arith, lines-append m (u ++ (10 ∷ z)), line-more u z))

  two-lines : (m u n v z t : List ℕ) → t ≡ m ++ (u ++ (n ++ (v ++ (10 ∷ z)))) → 1 + lines_in z ≤ lines_in t
  two-lines m u n v z t q =
      rw q (omega (arith, lines-append m (u ++ (n ++ (v ++ (10 ∷ z)))), lines-append u (n ++ (v ++ (10 ∷ z))), lines-append n (v ++ (10 ∷ z)), line-more v z))

  pub body-lines : (b : Body) (t : List ℕ) → SpellsBody N b t → lines_of b ≤ lines_in t
  unfolding SpellsBody lines_of else_lines_spec
  body-lines end t s = omega arith
  body-lines (put k e b) t s = omega (arith, named-lines s.0 (codes " = ") s.1 s.2 t s.6, body-lines b s.2 s.5)
  body-lines (read_shared k e b) t s = omega (arith, named-lines s.0 (codes " = cell ") s.1 s.2 t s.6, body-lines b s.2 s.5)
  body-lines (write_shared e f b) t s = omega (arith, two-lines (codes "cell ") s.0 (codes " = ") s.1 s.2 t s.6, body-lines b s.2 s.5)
  body-lines (read_all k e b) t s = omega (arith, named-lines s.0 (codes " = field ") s.1 s.2 t s.6, body-lines b s.2 s.5)
  body-lines (write_all e f b) t s = omega (arith, two-lines (codes "field ") s.0 (codes " = ") s.1 s.2 t s.6, body-lines b s.2 s.5)
  body-lines (barrier b) t s = omega (arith, worded-lines [] (codes "barrier") s.0 t s.2, body-lines b s.0 s.1)
  body-lines (when e c d b) t s =
      let x = s.1 in
      let y = s.2 in
      let z = s.3 in
      let p = worded-lines (codes "if ") s.0 (x ++ (y ++ (codes "end" ++ (10 ∷ z)))) t s.8 in
      let q = lines-append x (y ++ (codes "end" ++ (10 ∷ z))) in
      let r = lines-append y (codes "end" ++ (10 ∷ z)) in
      let m = line-more (codes "end") z in
      let ic = body-lines c x s.5 in
      let ib = body-lines b z s.7 in
      let n = when-lines e c d b in
      let dy : else_lines_spec d ≤ lines_in y =
      elim s.6 [
        | inl h ↦ omega (arith, no_second d h.0)
        | inr h ↦ omega (arith, else-most d, body-lines d h.0 h.1, worded-lines [] (codes "else") h.0 y h.2)
      ] in
      omega arith
  body-lines (while e c b) t s =
      let x = s.1 in
      let z = s.2 in
      let p = worded-lines (codes "while ") s.0 (x ++ (codes "end" ++ (10 ∷ z))) t s.7 in
      let q = lines-append x (codes "end" ++ (10 ∷ z)) in
      let m = line-more (codes "end") z in
      let ic = body-lines c x s.4 in
      let ib = body-lines b z s.6 in
      omega arith

-- The names of a text that was taken.
module _ (ns : List (List ℕ)) where
  -- Without own numbers no body begins with the byte of `own`.
  body-first : (b : Body) (t : List ℕ) → SpellsBody (Named ns) b t → ns ≡ [] → get_or t 0 0 ≢ 111
  unfolding SpellsBody
  body-first end t s n q = omega (arith, sym q ∙ ap (λ l. get_or l 0 0) s)
  body-first (put k e b) t s n q = omega (arith, s.3.0, ap length n)
  body-first (read_shared k e b) t s n q = omega (arith, s.3.0, ap length n)
  body-first (write_shared e f b) t s n q = omega (arith, sym q ∙ ap (λ l. get_or l 0 0) s.6)
  body-first (read_all k e b) t s n q = omega (arith, s.3.0, ap length n)
  body-first (write_all e f b) t s n q = omega (arith, sym q ∙ ap (λ l. get_or l 0 0) s.6)
  body-first (barrier b) t s n q = omega (arith, sym q ∙ ap (λ l. get_or l 0 0) s.2)
  body-first (when e c d b) t s n q = omega (arith, sym q ∙ ap (λ l. get_or l 0 0) s.8)
  body-first (while e c b) t s n q = omega (arith, sym q ∙ ap (λ l. get_or l 0 0) s.7)

  cells-first : (m : ℕ) (b : Body) (c t : List ℕ) → CellsLine m c → SpellsBody (Named ns) b t → ns ≡ [] → get_or (c ++ t) 0 0 ≢ 111
  cells-first m b c t h s n q =
      elim h [
        | inl p ↦ body-first b t s n (sym (ap (λ l. get_or (l ++ t) 0 0) p.1) ∙ q)
        | inr p ↦ omega (arith, sym q ∙ ap (λ l. get_or (l ++ t) 0 0) p.2)
      ]

  pub taken-names : (p : Program) (text : List ℕ) → Taken ns p text → Names ns text
  taken-names p text t =
      let s = t.spelled in
      record {
        there = record {
          line = s.own_part;
          rest = s.cells_part ++ s.body_part;
          whole = s.whole;
          own_line = s.own_line;
          names = s.names;
          few = t.few_names;
          missing = λ n q.
              let first : get_or text 0 0 ≡ 111 = sym (get_or-take 4 text 0 0 (omega arith)) ∙ ap (λ l. get_or l 0 0) q in
              elim s.own_line [
                | inl h ↦ cells-first p.shared p.body s.cells_part s.body_part s.cells_line s.body n (sym (ap (λ l. get_or l 0 0) (s.whole ∙ ap (λ u. u ++ (s.cells_part ++ s.body_part)) h.1)) ∙ first)
                | inr h ↦ absurd (h.0 n)
              ];
        };
        distinct = t.distinct;
      }

  -- The line of names is one line.
  names-in-line : (ms : List (List ℕ)) → ((k : ℕ) → k < length ms → IsName (get_or ms k [])) → each_byte in_line (flat_map (λ u. 32 ∷ u) ms) ≡ true
  unfolding each_byte
  names-in-line [] h = refl
  names-in-line (m ∷ ms) h =
      each_append in_line (32 ∷ m) (flat_map (λ u. 32 ∷ u) ms) (each_append in_line (32 ∷ []) m refl (each_weaken word_byte in_line word-in_line m (h 0 (omega arith)).bytes))
      (names-in-line ms (λ k l. h (suc k) (omega arith)))

  apart-names : (ms : List (List ℕ)) (t : List ℕ) → Apart (flat_map (λ u. 32 ∷ u) ms ++ (10 ∷ t))
  apart-names [] t = refl
  apart-names (m ∷ ms) t = refl

  module _ (p : Program) (text : List ℕ) (t : Taken ns p text) where
    the-body : List ℕ
    the-body = t.spelled.body_part

    names : Names ns text
    names = taken-names p text t

    body-lies : (i : ℕ) → drop i text ≡ the-body → Lies ns text i p.body []
    unfolding the-body
    body-lies i h = record { spelt = the-body; spells = t.spelled.body; here = h ∙ sym (append-nil the-body) }

    -- Where the body stands nothing is gone by.
    stay : (q r : Place) → Skipped text q r → drop q.at text ≡ the-body → drop r.at text ≡ the-body
    stay q r s h = ap (λ (x : Place). drop x.at text) (s.stays ns p.body [] names (body-lies q.at h) (no_more refl)) ∙ h

    -- The line of the cells, if there is one, is gone by.
    past-cells : (q r : Place) → Skipped text q r → drop q.at text ≡ t.spelled.cells_part ++ the-body → drop r.at text ≡ the-body
    unfolding each_byte
    past-cells q r s h =
        elim t.spelled.cells_line [
          | inl y ↦ stay q r s (h ∙ ap (λ u. u ++ the-body) y.1)
          | inr y ↦
              s.cells_line (32 ∷ y.0) the-body (h ∙ ap (λ u. u ++ the-body) y.2 ∙ ap (λ u. codes "cells " ++ u) (append_assoc y.0 (10 ∷ []) the-body)) refl
              (each_append in_line (32 ∷ []) y.0 refl (each_weaken word_byte in_line word-in_line y.0 (each_weaken digit word_byte digit-word y.0 y.1.bytes)))
        ]

    -- Two lines may stand before the body.
    pub body-start : (o q r : Place) → o.at ≡ 0 → Skipped text o q → Skipped text q r → drop r.at text ≡ t.spelled.body_part
    unfolding the-body
    body-start o q r z a b =
        let whole : drop o.at text ≡ t.spelled.own_part ++ (t.spelled.cells_part ++ the-body) = ap (λ n. drop n text) z ∙ t.spelled.whole in
        elim t.spelled.own_line [
          | inl y ↦
              let h : drop o.at text ≡ t.spelled.cells_part ++ the-body = whole ∙ ap (λ u. u ++ (t.spelled.cells_part ++ the-body)) y.1 in
              stay q r b (past-cells o q a h)
          | inr y ↦
              let h = whole ∙ ap (λ u. u ++ (t.spelled.cells_part ++ the-body)) y.1 ∙ ap (λ u. codes "own" ++ u) (append_assoc (flat_map (λ u. 32 ∷ u) ns) (10 ∷ []) (t.spelled.cells_part ++ the-body)) in
              past-cells q r b
              (a.own_line (flat_map (λ u. 32 ∷ u) ns) (t.spelled.cells_part ++ the-body) h (apart-names ns (t.spelled.cells_part ++ the-body)) (names-in-line ns t.spelled.names))
        ]

    pub body-few : lines_of p.body ≤ lines_in text
    body-few =
        omega (
          arith,
          body-lines (Named ns) p.body t.spelled.body_part t.spelled.body,
          ap lines_in t.spelled.whole,
          lines-append t.spelled.own_part (t.spelled.cells_part ++ t.spelled.body_part),
          lines-append t.spelled.cells_part t.spelled.body_part,
        )

    pub body-given : (r : Place) (room : ℕ) → r.entry ≡ 0 → drop r.at text ≡ t.spelled.body_part → lines_in text ≤ room → Given ns text r.at p.body [] r.entry 16 room
    unfolding names the-body
    body-given r room z h f =
        record { names = names; lies = body-lies r.at h; halts = no_more refl; shallow = t.shallow; room_for = omega (arith, body-few) }

-- The step at an entry, among more of them.
entry_of : (words : List ℕ) (lines i : ℕ) → i < lines → step_at words lines i ≡ entry_at words i
unfolding step_at
entry_of words lines i h = let n : i < suc i = omega arith in rw (lt-ltb i lines h, lt-ltb i (suc i) n)

last_end : (words : List ℕ) (lines : ℕ) → step_at words lines lines ≡ End
unfolding step_at
last_end words lines = rw (le-ltb lines lines (omega arith))

pub compiled : (ns : List (List ℕ)) (p : Program) (text words after : List ℕ) (room : ℕ) (q r : Place) → Taken ns p text → q.entry ≡ 0 → Given ns text q.at p.body [] q.entry 16 room
    → LinesMade text words after 16 room q r → Compiled ns p text words after r.entry × Joining after r.entry
unfolding CodeRight JoinsRight
compiled ns p text words after room q r t z g made =
    let done = made.done ns p.body [] g in
    let n : r.entry ≡ lines_of p.body = omega (arith, done.count) in
    let c : Codes (Named ns) text (length ns) (entry_at after) 0 p.body = subst (λ (o : ℕ). Codes (Named ns) text (length ns) (entry_at after) o p.body) z done.stands in
    let s : Codes (Named ns) text (length ns) (step_at after r.entry) 0 p.body =
    codes_same (Named ns) text (length ns) (entry_at after) (step_at after r.entry) 0 p.body (λ i lo hi. entry_of after r.entry i (omega arith)) c in
    let last : step_at after r.entry (lines_of p.body) ≡ End = ap (step_at after r.entry) (sym n) ∙ last_end after r.entry in (
      record {
        lines = n;
        few = omega (arith, body-few ns p text t);
        stands = s;
        coded =
            subst (λ (l : ℕ). Coded (Named ns) text (length ns) l (left_at p.body) (step_at after r.entry)) (sym n)
            (code-right ns text (step_at after r.entry) p.body s last);
        nested = subst (λ (l : ℕ). Nested (step_at after r.entry) l) (sym n) (joins-right ns text (step_at after r.entry) p.body s);
        behind = λ k h. made.moved.kept.same k (inr h);
      },
      record {
        regions = subst (λ (l : ℕ). Regions (step_at after r.entry) l) (sym n) (codes-regions ns text (step_at after r.entry) p.body s last t.shallow);
        starts = codes-start (Named ns) text (length ns) (step_at after r.entry) 0 p.body s (ap (step_at after r.entry) (omega arith) ∙ last);
      },
    )

-- The entries that a text which was taken is made into, behind the lines that stand before its body; n is how many there are.
pub whole : (ns : List (List ℕ)) (p : Program) (text words after : List ℕ) (room n : ℕ) (top first start : Place) (o : Option Place) → Taken ns p text → top.at ≡ 0 → top.entry ≡ 0 → Skipped text top first
    → Skipped text first start → lines_in text ≤ room → MatchOption o ((ms : List (List ℕ)) (b : Body) (z : List ℕ) → Given ms text start.at b z start.entry 16 room → ⊥) (λ q. LinesMade text words after 16 room start q)
    → MatchOption o (n ≡ 0) (λ q. n ≡ q.entry) → Compiled ns p text words after n × Joining after n
whole ns p text words after room n top first start o t z e a b r made many =
    let zero : start.entry ≡ 0 = b.entry ∙ a.entry ∙ e in
    let given = body-given ns p text t start room zero (body-start ns p text t top first start z a b) r in
    by o made many zero given
  where
    by : (o : Option Place) → MatchOption o ((ms : List (List ℕ)) (b : Body) (z : List ℕ) → Given ms text start.at b z start.entry 16 room → ⊥) (λ q. LinesMade text words after 16 room start q)
        → MatchOption o (n ≡ 0) (λ q. n ≡ q.entry) → start.entry ≡ 0 → Given ns text start.at p.body [] start.entry 16 room → Compiled ns p text words after n × Joining after n
    by None f m zero g = absurd (f ns p.body [] g)
    by (Some q) f m zero g = subst (λ (k : ℕ). Compiled ns p text words after k × Joining after k) (sym m) (compiled ns p text words after room start q t zero g f)

-- A heading, and what is none.
module _ (text : List ℕ) (p : Place) (r : Option Line) (scan : Scan text p.at r) where
  pub no-heading : (r ≡ Some Heading → ⊥) → p.at ≤ length text → Skipped text p p
  no-heading h w =
      record {
        within = w;
        entry = refl;
        line = inl refl;
        own_line = λ u z e a l. absurd (h (keyword-scan text (u ++ (10 ∷ z)) p.at r Own scan e a).2);
        cells_line = λ u z e a l. absurd (h (keyword-scan text (u ++ (10 ∷ z)) p.at r Cells scan e a).2);
        stays = λ ns b z n l e. refl;
      }

  pub past-heading : (q : Place) → r ≡ Some Heading → q.at ≤ length text → q.entry ≡ p.entry → (p.line < 4294967295 → q.line ≡ suc p.line) → NextLine text p.at q.at → Skipped text p q
  unfolding each_byte
  past-heading q h w e up n =
      record {
        within = w;
        entry = e;
        line = inr up;
        own_line = λ u z d a l. next_is text (codes "own" ++ u) z p.at q.at n d (each_append in_line (codes "own") u refl l);
        cells_line = λ u z d a l. next_is text (codes "cells" ++ u) z p.at q.at n d (each_append in_line (codes "cells") u refl l);
        stays = λ ns b z names l halts.
            elim (told ns text names p.at r scan z b l halts) [
              | halted y s k ↦ absurd (both_ways (heading r) k (ap heading h))
              | plain k ↦ absurd (both_ways (stopping r) k.goes (ap stopping h))
              | branch looped x br y ↦ absurd (not-stopping looped x r y (ap stopping h))
            ];
      }
