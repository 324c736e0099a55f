-- What the first line of a body tells, and what is behind it.
use Rattle.std.proofs.Common.{◌≡◌, ℕ, suc, ◌≤◌, Bool, true, false, List, [], ◌∷◌, ◌++◌, length, get_or, drop, Some, None, codes, Option, sym, refl, ap, ◌∙◌, subst, append_assoc, arith}
use Rattle.std.specs.List.{between}
use Rattle.lanes.specs.Syntax.{Body, Expr, end, put, read_shared, write_shared, read_all, write_all, barrier, when, while}
use Rattle.grammar.specs.declared.keywords.Keyword.{Keyword}
use Rattle.grammar.specs.declared.keywords.Keyword.TheVariants.{Barrier, Else, End}
use Rattle.grammar.specs.Spelling.{word_byte, each_byte, SpellsExpr, SpellsBody, Named}
use Rattle.grammar.specs.Names.{PlaceOf}
use Rattle.grammar.specs.Taken.{depth}
use Rattle.grammar.proofs.Bytewise.{each_append}
use Rattle.code.specs.declared.scan.Line.{Line}
use Rattle.code.specs.declared.scan.Line.TheVariants.{Heading, Put, Read, Write, Wait, Test, Loop, Otherwise, Close}
use Rattle.code.specs.Lines.{lines_of}
use Rattle.code.specs.Code.{Codes}
use Rattle.code.specs.Scan.{in_line, Scan, ScanBy, NamedScan, NamedBy}
use Rattle.code.specs.Make.{entry_at, Lies, Halts, no_more, at_else, at_end, Names, NextLine, stopping, plain_step, Branches}
use Rattle.code.proofs.Texts.{word_at}
use Rattle.code.proofs.Heads.{keyword-scan, empty-word, each_none}
use Rattle.code.proofs.Tells.{next_is, in-one-line, named-in-line, put-line, read-line, read-line-field, write-line, write-line-field, test-line, loop-line}

-- The line of a branch.
abbrev pub branch_line : Bool → ℕ → Line
branch_line false x = Test x
branch_line true x = Loop x

abbrev pub heading : Option Line → Bool
heading None = false
heading (Some Heading) = true
heading (Some (Put k x)) = false
heading (Some (Read f k x)) = false
heading (Some (Write f x y)) = false
heading (Some Wait) = false
heading (Some (Test x)) = false
heading (Some (Loop x)) = false
heading (Some Otherwise) = false
heading (Some Close) = false

abbrev pub branching : Option Line → Bool
branching None = false
branching (Some Heading) = false
branching (Some (Put k x)) = false
branching (Some (Read f k x)) = false
branching (Some (Write f x y)) = false
branching (Some Wait) = false
branching (Some (Test x)) = true
branching (Some (Loop x)) = true
branching (Some Otherwise) = false
branching (Some Close) = false

module _ (ns : List (List ℕ)) (text : List ℕ) (names : Names ns text) (at : ℕ) (r : Option Line) (scan : Scan text at r) (z : List ℕ) where
  -- A line without lines in it.
  pub record Plain (b : Body) : Type 0 where
    pub rest : Body
    pub line : Line
    pub is : r ≡ Some line
    pub goes : stopping r ≡ false
    pub flat : branching r ≡ false
    pub lines : lines_of b ≡ suc (lines_of rest)
    pub deep : depth rest ≤ depth b
    pub next : (n : ℕ) → NextLine text at n → Lies ns text n rest z
    pub codes_on : (after : List ℕ) (o : ℕ) → entry_at after o ≡ plain_step line (suc o) → Codes (Named ns) text (length ns) (entry_at after) (suc o) rest → Codes (Named ns) text (length ns) (entry_at after) o b

  pub data Told (b : Body) : Type 0 where
    halted : b ≡ end → stopping r ≡ true → heading r ≡ false → Told b
    plain : Plain b → Told b
    branch : (looped : Bool) (x : ℕ) → Branches ns text x looped b → r ≡ Some (branch_line looped x) → Told b

  -- The text from a line on, put in order: what is in the line, and what is behind it.
  next_lies : (b : Body) (u s : List ℕ) → drop at text ≡ u ++ (10 ∷ (s ++ z)) → each_byte in_line u ≡ true → SpellsBody (Named ns) b s → (n : ℕ) → NextLine text at n → Lies ns text n b z
  next_lies b u s h q p n l = record { spelt = s; spells = p; here = next_is text u (s ++ z) at n l h q }

  named-line : (b : Body) (k : ℕ) (e : Expr) (a m u s : List ℕ) → Named ns k a → each_byte in_line m ≡ true → SpellsExpr (Named ns) e u → SpellsBody (Named ns) b s
      → drop at text ≡ a ++ (m ++ (u ++ (10 ∷ (s ++ z)))) → (n : ℕ) → NextLine text at n → Lies ns text n b z
  named-line b k e a m u s na hm su sb h =
      next_lies b (a ++ (m ++ u)) s (h ∙ sym (append_assoc a (m ++ u) (10 ∷ (s ++ z)) ∙ ap (λ t. a ++ t) (append_assoc m u (10 ∷ (s ++ z)))))
      (each_append in_line a (m ++ u) (named-in-line ns text names k a na) (each_append in_line m u hm (in-one-line ns text names e u su))) sb

  two_line : (b : Body) (e f : Expr) (m u v s : List ℕ) → each_byte in_line m ≡ true → SpellsExpr (Named ns) e u → SpellsExpr (Named ns) f v → SpellsBody (Named ns) b s
      → drop at text ≡ m ++ (u ++ (codes " = " ++ (v ++ (10 ∷ (s ++ z))))) → (n : ℕ) → NextLine text at n → Lies ns text n b z
  unfolding each_byte
  two_line b e f m u v s hm su sv sb h =
      next_lies b (m ++ (u ++ (codes " = " ++ v))) s
      (h ∙ sym (append_assoc m (u ++ (codes " = " ++ v)) (10 ∷ (s ++ z)) ∙ ap (λ t. m ++ t) (append_assoc u (codes " = " ++ v) (10 ∷ (s ++ z)))))
      (each_append in_line m (u ++ (codes " = " ++ v)) hm
      (each_append in_line u (codes " = " ++ v) (in-one-line ns text names e u su) (each_append in_line (codes " = ") v refl (in-one-line ns text names f v sv)))) sb

  nothing_named : (f : Option Line → Bool) (v : Bool) (e : ℕ) (o : Option ℕ) → f None ≡ v → PlaceOf ns [] o → NamedBy text e o r → f r ≡ v
  nothing_named f v e None h p q = ap f q ∙ h
  nothing_named f v e (Some k) h p q = absurd (omega (arith, (names.there.names k p.there).some, ap length p.is))

  -- What is behind a body is nothing, an else or an end.
  halting : (f : Option Line → Bool) (v : Bool) → f None ≡ v → f (Some Otherwise) ≡ v → f (Some Close) ≡ v → drop at text ≡ z → Halts z → f r ≡ v
  halting f v a b c h (no_more q) =
      let w : between at scan.stop text ≡ [] = word_at text [] z at scan.stop scan.ends h each_none (ap (λ s. word_byte (get_or s 0 0)) q) in
      let k : scan.word ≡ None = empty-word scan.word _ w scan.is_word in
      let by : NamedScan text at scan.stop r = subst (λ (w : Option Keyword). ScanBy text at scan.stop w r) k scan.by in
      nothing_named f v scan.stop by.own a (subst (λ (u : List ℕ). PlaceOf ns u by.own) w (by.is_own ns names.there)) by.by
  halting f v a b c h (at_else w q) = ap f (keyword-scan text (10 ∷ w) at r Else scan (h ∙ q) refl).2 ∙ b
  halting f v a b c h (at_end w q) = ap f (keyword-scan text (10 ∷ w) at r End scan (h ∙ q) refl).2 ∙ c

  -- The text of a line with an expression, a body behind it, and z.
  behind_three : (a m u s t : List ℕ) → t ≡ a ++ (m ++ (u ++ (10 ∷ s))) → drop at text ≡ t ++ z → drop at text ≡ a ++ (m ++ (u ++ (10 ∷ (s ++ z))))
  behind_three a m u s t q h =
      h ∙ ap (λ v. v ++ z) q ∙ append_assoc a (m ++ (u ++ (10 ∷ s))) z ∙ ap (λ v. a ++ v) (append_assoc m (u ++ (10 ∷ s)) z ∙ ap (λ v. m ++ v) (append_assoc u (10 ∷ s) z))

  behind_two : (m u s t : List ℕ) → t ≡ m ++ (u ++ (10 ∷ s)) → drop at text ≡ t ++ z → drop at text ≡ m ++ (u ++ (10 ∷ (s ++ z)))
  behind_two m u s t q h = h ∙ ap (λ v. v ++ z) q ∙ append_assoc m (u ++ (10 ∷ s)) z ∙ ap (λ v. m ++ v) (append_assoc u (10 ∷ s) z)

  behind_four : (m u v s t : List ℕ) → t ≡ m ++ (u ++ (codes " = " ++ (v ++ (10 ∷ s)))) → drop at text ≡ t ++ z → drop at text ≡ m ++ (u ++ (codes " = " ++ (v ++ (10 ∷ (s ++ z)))))
  behind_four m u v s t q h =
      h ∙ ap (λ w. w ++ z) q ∙ append_assoc m (u ++ (codes " = " ++ (v ++ (10 ∷ s)))) z
      ∙ ap (λ w. m ++ w) (append_assoc u (codes " = " ++ (v ++ (10 ∷ s))) z ∙ ap (λ w. u ++ (codes " = " ++ w)) (append_assoc v (10 ∷ s) z))

  pub told : (b : Body) → Lies ns text at b z → Halts z → Told b
  unfolding SpellsBody lines_of depth Codes each_byte
  told end l h =
      let e : drop at text ≡ z = l.here ∙ ap (λ t. t ++ z) l.spells in
      halted refl (halting stopping true refl refl refl e h) (halting heading false refl refl refl e h)
  told (put k e b) l h =
      let s = l.spells in
      let t = behind_three s.0 (codes " = ") s.1 s.2 l.spelt s.6 l.here in
      let v = put-line ns text names at r scan k e s.0 s.1 (s.2 ++ z) s.3 s.4 t in
      plain (record {
        rest = b;
        line = Put k v.0;
        is = v.2;
        goes = ap stopping v.2;
        flat = ap branching v.2;
        lines = refl;
        deep = omega arith;
        next = named-line b k e s.0 (codes " = ") s.1 s.2 s.3 refl s.4 s.5 t;
        codes_on = λ after o q c. (s.3.0, (v.0, v.1, q), c);
      })
  told (read_shared k e b) l h =
      let s = l.spells in
      let t = behind_three s.0 (codes " = cell ") s.1 s.2 l.spelt s.6 l.here in
      let v = read-line ns text names at r scan k e s.0 s.1 (s.2 ++ z) s.3 s.4 t in
      plain (record {
        rest = b;
        line = Read false k v.0;
        is = v.2;
        goes = ap stopping v.2;
        flat = ap branching v.2;
        lines = refl;
        deep = omega arith;
        next = named-line b k e s.0 (codes " = cell ") s.1 s.2 s.3 refl s.4 s.5 t;
        codes_on = λ after o q c. (s.3.0, (v.0, v.1, q), c);
      })
  told (write_shared e f b) l h =
      let s = l.spells in
      let t = behind_four (codes "cell ") s.0 s.1 s.2 l.spelt s.6 l.here in
      let v = write-line ns text names at r scan e f s.0 s.1 (s.2 ++ z) s.3 s.4 t in
      plain (record {
        rest = b;
        line = Write false v.0 v.1;
        is = v.4;
        goes = ap stopping v.4;
        flat = ap branching v.4;
        lines = refl;
        deep = omega arith;
        next = two_line b e f (codes "cell ") s.0 s.1 s.2 refl s.3 s.4 s.5 t;
        codes_on = λ after o q c. ((v.0, v.1, v.2, v.3, q), c);
      })
  told (read_all k e b) l h =
      let s = l.spells in
      let t = behind_three s.0 (codes " = field ") s.1 s.2 l.spelt s.6 l.here in
      let v = read-line-field ns text names at r scan k e s.0 s.1 (s.2 ++ z) s.3 s.4 t in
      plain (record {
        rest = b;
        line = Read true k v.0;
        is = v.2;
        goes = ap stopping v.2;
        flat = ap branching v.2;
        lines = refl;
        deep = omega arith;
        next = named-line b k e s.0 (codes " = field ") s.1 s.2 s.3 refl s.4 s.5 t;
        codes_on = λ after o q c. (s.3.0, (v.0, v.1, q), c);
      })
  told (write_all e f b) l h =
      let s = l.spells in
      let t = behind_four (codes "field ") s.0 s.1 s.2 l.spelt s.6 l.here in
      let v = write-line-field ns text names at r scan e f s.0 s.1 (s.2 ++ z) s.3 s.4 t in
      plain (record {
        rest = b;
        line = Write true v.0 v.1;
        is = v.4;
        goes = ap stopping v.4;
        flat = ap branching v.4;
        lines = refl;
        deep = omega arith;
        next = two_line b e f (codes "field ") s.0 s.1 s.2 refl s.3 s.4 s.5 t;
        codes_on = λ after o q c. ((v.0, v.1, v.2, v.3, q), c);
      })
  told (barrier b) l h =
      let s = l.spells in
      let t : drop at text ≡ codes "barrier" ++ (10 ∷ (s.0 ++ z)) = l.here ∙ ap (λ v. v ++ z) s.2 in
      let v = keyword-scan text (10 ∷ (s.0 ++ z)) at r Barrier scan t refl in
      plain (record {
        rest = b;
        line = Wait;
        is = v.2;
        goes = ap stopping v.2;
        flat = ap branching v.2;
        lines = refl;
        deep = omega arith;
        next = next_lies b (codes "barrier") s.0 t refl s.1;
        codes_on = λ after o q c. (q, c);
      })
  told (when e c d b) l h =
      let s = l.spells in
      let t = behind_two (codes "if ") s.0 _ l.spelt s.8 l.here in
      let v = test-line ns text names at r scan e s.0 _ s.4 t in
      branch false v.0 (e, c, d, b, refl, v.1) v.2
  told (while e c b) l h =
      let s = l.spells in
      let t = behind_two (codes "while ") s.0 _ l.spelt s.7 l.here in
      let v = loop-line ns text names at r scan e s.0 _ s.3 t in
      branch true v.0 (e, c, b, refl, v.1) v.2
