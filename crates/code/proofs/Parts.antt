-- Lines of a body made into entries, one after the other.
use Rattle.std.proofs.Common.{◌≡◌, ℕ, suc, ◌+◌, ◌<◌, ◌≤◌, Bool, true, false, List, [], ◌∷◌, ◌++◌, length, drop, Some, None, codes, Option, sym, refl, ap, ◌∙◌, subst, inl, inr, arith, MatchOption}
use Rattle.std.proofs.lemmas.Bool.{cases_Bool, both_ways}
use Rattle.lanes.specs.Syntax.{Body, ended, end}
use Rattle.grammar.specs.declared.keywords.Keyword.TheVariants.{Else, End}
use Rattle.grammar.specs.Spelling.{each_byte, SpellsBody, Named}
use Rattle.grammar.specs.Taken.{depth}
use Rattle.code.specs.declared.step.Step.{Step}
use Rattle.code.specs.declared.scan.Line.{Line}
use Rattle.code.specs.declared.scan.Line.TheVariants.{Test, Loop, Otherwise, Close}
use Rattle.code.specs.declared.compile.Place.{Place}
use Rattle.code.specs.Lines.{lines_of, else_lines_spec}
use Rattle.code.specs.Words.{Wrote}
use Rattle.code.specs.Code.{Codes}
use Rattle.code.specs.Scan.{Scan}
use Rattle.code.specs.Make.{entry_at, Kept, SameEntries, at_end, After, Given, Done, Part, LineMade, Branches, BranchMade, none, some, ElseGiven, ElseMade, stopping, plain_step}
use Rattle.code.proofs.Left.{else-none, else-some, else-room, ended_is, lines_none, no_lines}
use Rattle.code.proofs.Tells.{next_is}
use Rattle.code.proofs.Heads.{keyword-scan}
use Rattle.code.proofs.Bodies.{told, halted, plain, branch, branching, branch_line}
use Rattle.code.proofs.Inside.{kept_entry, kept-none}

pub not-stopping : (looped : Bool) (x : ℕ) (r : Option Line) → r ≡ Some (branch_line looped x) → stopping r ≡ true → ⊥
not-stopping looped x r q h = grind arith

branch-branching : (looped : Bool) (x : ℕ) (r : Option Line) → r ≡ Some (branch_line looped x) → branching r ≡ true
branch-branching looped x r q = grind arith

pub flat-rest : (r : Line) → ((x : ℕ) → r ≡ Test x → ⊥) → ((x : ℕ) → r ≡ Loop x → ⊥) → branching (Some r) ≡ false
flat-rest r p q = grind arith

same_branch : (f g : Bool) (x y : ℕ) → branch_line f x ≡ branch_line g y → (f ≡ g) × (x ≡ y)
same_branch false false x y q = (refl, cc)
same_branch false true x y q = (cc, cc)
same_branch true false x y q = (cc, cc)
same_branch true true x y q = (refl, cc)

pub branch-deep : (ns : List (List ℕ)) (text : List ℕ) (x : ℕ) (looped : Bool) (b : Body) → Branches ns text x looped b → 1 ≤ depth b
unfolding depth
branch-deep ns text x false b br = subst (λ (v : Body). 1 ≤ depth v) (sym br.4) (omega arith)
branch-deep ns text x true b br = subst (λ (v : Body). 1 ≤ depth v) (sym br.3) (omega arith)

branch-lines : (ns : List (List ℕ)) (text : List ℕ) (x : ℕ) (looped : Bool) (b : Body) → Branches ns text x looped b → 1 ≤ lines_of b
unfolding lines_of
branch-lines ns text x false b br = subst (λ (v : Body). 1 ≤ lines_of v) (sym br.4) (omega arith)
branch-lines ns text x true b br = subst (λ (v : Body). 1 ≤ lines_of v) (sym br.3) (omega arith)

module _ (ns : List (List ℕ)) (text z : List ℕ) (fuel room : ℕ) where
  -- Nothing made yet.
  pub part_none : (words : List ℕ) (b : Body) (p : Place) → Given ns text p.at b z p.entry fuel room → Part ns text words z p.entry b fuel p
  part_none words b p g = record { rest = b; lies = g.lies; shallow = g.shallow; count = refl; stands = λ after same c. c }

  pub given-rest : (words : List ℕ) (b : Body) (q p : Place) → Given ns text q.at b z q.entry fuel room → (part : Part ns text words z q.entry b fuel p) → Given ns text p.at part.rest z p.entry fuel room
  given-rest words b q p g part =
      record { names = g.names; lies = part.lies; halts = g.halts; shallow = part.shallow; room_for = omega (arith, part.count, g.room_for) }

  -- One line more.
  pub part-more : (w v : List ℕ) (o : ℕ) (b : Body) (p q : Place) → o ≤ p.entry → p.entry ≤ q.entry → (one : Part ns text w z o b fuel p) → Part ns text v z p.entry one.rest fuel q → Kept w v p.entry q.entry
      → Part ns text v z o b fuel q
  unfolding SameEntries
  part-more w v o b p q u1 u2 one two k =
      record {
        rest = two.rest;
        lies = two.lies;
        shallow = two.shallow;
        count = two.count ∙ one.count;
        stands = λ after same c.
            one.stands after (λ i lo hi. same i lo (omega arith) ∙ kept_entry w v p.entry q.entry i k (inl hi)) (two.stands after (λ i lo hi. same i (omega arith) hi) c);
      }

  end-spelt : (t : List ℕ) → SpellsBody (Named ns) end t → t ≡ []
  unfolding SpellsBody
  end-spelt t s = s

  end-codes : (after : List ℕ) (o : ℕ) → Codes (Named ns) text (length ns) (entry_at after) o end
  unfolding Codes
  end-codes after o = tt

  -- All lines made: what is left stops the body.
  part-done : (w : List ℕ) (o : ℕ) (b : Body) (p : Place) → (part : Part ns text w z o b fuel p) → part.rest ≡ end → Done ns text w z o b p
  unfolding SameEntries
  part-done w o b p part q =
      let s : part.lies.spelt ≡ [] = end-spelt _ (subst (λ (v : Body). SpellsBody (Named ns) v part.lies.spelt) q part.lies.spells) in
      record {
        there = part.lies.here ∙ ap (λ t. t ++ z) s;
        count = omega (arith, part.count, no_lines part.rest q);
        stands = part.stands w (λ i lo hi. refl) (subst (λ (v : Body). Codes (Named ns) text (length ns) (entry_at w) p.entry v) (sym q) (end-codes w p.entry));
      }

  pub stops-done : (w : List ℕ) (b : Body) (q p : Place) (r : Option Line) → Scan text p.at r → stopping r ≡ true → Given ns text q.at b z q.entry fuel room → Part ns text w z q.entry b fuel p → Done ns text w z q.entry b p
  stops-done w b q p r scan h g part =
      elim (told ns text g.names p.at r scan z part.rest part.lies g.halts) [
        | halted e s y ↦ part-done w q.entry b p part e
        | plain n ↦ absurd (both_ways (stopping r) n.goes h)
        | branch looped x br e ↦ absurd (not-stopping looped x r e h)
      ]

  -- A line that goes on is in a body with entries, so there is room for one.
  pub goes-room : (w : List ℕ) (b : Body) (q p : Place) (r : Option Line) → Scan text p.at r → stopping r ≡ false → Given ns text q.at b z q.entry fuel room → Part ns text w z q.entry b fuel p → p.entry < room
  goes-room w b q p r scan h g part =
      let n : 1 ≤ lines_of part.rest =
      elim (told ns text g.names p.at r scan z part.rest part.lies g.halts) [
        | halted e s y ↦ absurd (both_ways (stopping r) h s)
        | plain n ↦ omega (arith, n.lines)
        | branch looped x br e ↦ branch-lines ns text x looped part.rest br
      ] in
      omega (arith, part.count, g.room_for)

  -- A line without lines in it.
  pub plain-part : (w v : List ℕ) (b : Body) (p q : Place) (r : Line) (s : Step) (line : ℕ) → Scan text p.at (Some r) → stopping (Some r) ≡ false → branching (Some r) ≡ false → After text p q → s ≡ plain_step r q.entry → Wrote w v p.entry s line
      → Given ns text p.at b z p.entry fuel room → Part ns text v z p.entry b fuel q
  unfolding SameEntries
  plain-part w v b p q r s line scan h f af st wrote g =
      elim (told ns text g.names p.at (Some r) scan z b g.lies g.halts) [
        | halted e y x₀ ↦ absurd (both_ways (stopping (Some r)) h y)
        | plain n ↦
            let qe = af.entry in
            let same_line : Some r ≡ Some n.line = n.is in
            let l : r ≡ n.line = cc in
            record {
              rest = n.rest;
              lies = n.next q.at af.next;
              shallow = omega (arith, n.deep, g.shallow);
              count = omega (arith, n.lines);
              stands = λ after same c.
                  n.codes_on after p.entry
                  (same p.entry (omega arith) (omega arith) ∙ wrote.here (suc p.entry) (omega arith) ∙ st ∙ ap (plain_step r) qe ∙ ap (λ (k : Line). plain_step k (suc p.entry)) l)
                  (subst (λ (m : ℕ). Codes (Named ns) text (length ns) (entry_at after) m n.rest) qe c);
            }
        | branch looped x br e ↦ absurd (both_ways (branching (Some r)) f (branch-branching looped x (Some r) e))
      ]

  -- A line that is a branch.
  is_branch : (b : Body) (p : Place) (r : Line) (looped : Bool) (x : ℕ) → Scan text p.at (Some r) → r ≡ branch_line looped x → Given ns text p.at b z p.entry fuel room → Branches ns text x looped b
  is_branch b p r looped x scan q g =
      elim (told ns text g.names p.at (Some r) scan z b g.lies g.halts) [
        | halted e y x₀ ↦ absurd (not-stopping looped x (Some r) (ap Some q) y)
        | plain n ↦ absurd (both_ways (branching (Some r)) n.flat (branch-branching looped x (Some r) (ap Some q)))
        | branch f y br e ↦
            let line : r ≡ branch_line f y = cc in
            let h = same_branch f looped y x (sym line ∙ q) in
            subst (λ (k : Bool). Branches ns text x k b) h.0 (subst (λ (k : ℕ). Branches ns text k f b) h.1 br)
      ]

-- The else of an if.
module _ (ns : List (List ℕ)) (text : List ℕ) (fuel room : ℕ) (d : Body) (z : List ℕ) where
  -- Where no else stands there are no second lines.
  no_else : (w : List ℕ) (q : Place) (r : Option Line) → Scan text q.at r → (r ≡ Some Otherwise → ⊥) → ElseGiven ns text q.at d z q.entry fuel room
      → (drop q.at text ≡ codes "end" ++ (10 ∷ z)) × (q.entry ≡ q.entry + else_lines_spec d) × Codes (Named ns) text (length ns) (entry_at w) (suc q.entry) d
  unfolding ended
  no_else w q r scan h g =
      elim g.is [
        | none p y ↦ (
          g.here ∙ ap (λ t. t ++ (codes "end" ++ (10 ∷ z))) y,
          omega (arith, else-none d (ap ended p)),
          subst (λ (v : Body). Codes (Named ns) text (length ns) (entry_at w) (suc q.entry) v) (sym p) (end-codes ns text z fuel room w (suc q.entry)),
        )
        | some u s y ↦ absurd (h (keyword-scan text (10 ∷ (u ++ (codes "end" ++ (10 ∷ z)))) q.at r Else scan (g.here ∙ ap (λ t. t ++ (codes "end" ++ (10 ∷ z))) y) refl).2)
      ]

  otherwise-close : (r : Option Line) → r ≡ Some Close → r ≡ Some Otherwise → ⊥
  otherwise-close r p q = let e : Some Close ≡ Some Otherwise = sym p ∙ q in cc

  -- Where an else stands, the lines behind it are those of the second body.
  pub given-second : (q i : Place) (r : Option Line) → Scan text q.at r → r ≡ Some Otherwise → After text q i → ElseGiven ns text q.at d z q.entry fuel room
      → Given ns text i.at d (codes "end" ++ (10 ∷ z)) i.entry fuel room
  unfolding each_byte
  given-second q i r scan h af g =
      elim g.is [
        | none p y ↦ absurd (otherwise-close r (keyword-scan text (10 ∷ z) q.at r End scan (g.here ∙ ap (λ t. t ++ (codes "end" ++ (10 ∷ z))) y) refl).2 h)
        | some u s y ↦
            record {
              names = g.names;
              lies = record { spelt = u; spells = s; here = next_is text (codes "else") (u ++ (codes "end" ++ (10 ∷ z))) q.at i.at af.next (g.here ∙ ap (λ t. t ++ (codes "end" ++ (10 ∷ z))) y) refl };
              halts = at_end z refl;
              shallow = g.shallow;
              room_for = omega (arith, g.room_for, af.entry, else-room d);
            }
      ]

  -- Second lines that were made: none, or some.
  pub second_none : (w : List ℕ) (q i p : Place) → After text q i → p.entry ≡ i.entry → Done ns text w (codes "end" ++ (10 ∷ z)) i.entry d p
      → (drop p.at text ≡ codes "end" ++ (10 ∷ z)) × (q.entry ≡ q.entry + else_lines_spec d) × Codes (Named ns) text (length ns) (entry_at w) (suc q.entry) d
  second_none w q i p af h done =
      let n : lines_of d ≡ 0 = omega (arith, done.count) in
      (done.there, omega (arith, else-none d (lines_none d n)), subst (λ (m : ℕ). Codes (Named ns) text (length ns) (entry_at w) m d) af.entry done.stands)

  pub second-some : (w : List ℕ) (q i p : Place) → After text q i → (p.entry ≡ i.entry → ⊥) → Done ns text w (codes "end" ++ (10 ∷ z)) i.entry d p
      → (drop p.at text ≡ codes "end" ++ (10 ∷ z)) × (p.entry ≡ q.entry + else_lines_spec d) × Codes (Named ns) text (length ns) (entry_at w) (suc q.entry) d
  second-some w q i p af h done =
      elim (cases_Bool (ended d)) [
        | inl y ↦ absurd (h (omega (arith, done.count, no_lines d (ended_is d y))))
        | inr y ↦ (done.there, omega (arith, done.count, af.entry, else-some d y), subst (λ (m : ℕ). Codes (Named ns) text (length ns) (entry_at w) m d) af.entry done.stands)
      ]

-- Where no else stands nothing is made.
pub else-missing : (text words : List ℕ) (fuel room : ℕ) (q : Place) (r : Option Line) → Scan text q.at r → (r ≡ Some Otherwise → ⊥) → q.at ≤ length text → q.entry < room → ElseMade text words words fuel room q q
else-missing text words fuel room q r scan h w f =
    record {
      within = w;
      up = omega arith;
      fits = omega arith;
      kept = kept-none words (suc q.entry) (suc q.entry);
      done = λ ns d z g. no_else ns text fuel room d z words q r scan h g;
    }

-- A line that is a branch, made as a branch.
pub branch-made : (text words after : List ℕ) (fuel room : ℕ) (p : Place) (r : Line) (looped : Bool) (x : ℕ) → Scan text p.at (Some r) → r ≡ branch_line looped x → (o : Option Place)
    → MatchOption o ((ns : List (List ℕ)) (b : Body) (z : List ℕ) → Given ns text p.at b z p.entry fuel room → Branches ns text x looped b → ⊥) (λ q. BranchMade text words after fuel room x looped p q)
    → MatchOption o ((ns : List (List ℕ)) (b : Body) (z : List ℕ) → Given ns text p.at b z p.entry fuel room → ⊥) (λ q. LineMade text words after fuel room p q)
branch-made text words after fuel room p r looped x scan e None f = λ ns b z g. f ns b z g (is_branch ns text z fuel room b p r looped x scan e g)
branch-made text words after fuel room p r looped x scan e (Some q) m =
    record { moved = m.moved; line = m.line; further = m.further; part = λ ns b z g. m.part ns b z g (is_branch ns text z fuel room b p r looped x scan e g) }
