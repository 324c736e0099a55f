-- An if or a while made into entries.
use Rattle.std.proofs.Common.{◌≡◌, ℕ, suc, ◌+◌, ◌<◌, ◌≤◌, Bool, true, false, cond, List, [], ◌∷◌, ◌++◌, length, drop, codes, sym, refl, ap, ◌∙◌, subst, inl, inr, append_assoc, arith}
use Rattle.std.proofs.lemmas.Bool.{cases_Bool}
use Rattle.lanes.specs.Syntax.{Body, Expr, ended, end, when, while}
use Rattle.grammar.specs.Spelling.{each_byte, SpellsExpr, SpellsBody, Named}
use Rattle.grammar.specs.Stands.{Stands}
use Rattle.grammar.specs.Taken.{depth}
use Rattle.grammar.proofs.Bytewise.{each_append}
use Rattle.code.specs.declared.step.Step.TheVariants.{Branch as SBranch, Jump as SJump}
use Rattle.code.specs.declared.compile.Place.{Place}
use Rattle.code.specs.Lines.{lines_of, else_lines_spec}
use Rattle.code.specs.Code.{Codes}
use Rattle.code.specs.Scan.{in_line}
use Rattle.code.specs.Make.{entry_at, SameEntries, Lies, Halts, at_else, at_end, Names, NextLine, After, Given, Done, Part, LinesMade, Branches, ElseLies, none, some, ElseGiven, ElseMade, Closed}
use Rattle.code.proofs.Left.{else-none, else-some, ended_is, no_lines, when-lines}
use Rattle.code.proofs.Tells.{next_is, in-one-line}
use Rattle.code.proofs.Inside.{kept_entry, codes_same}

module _ (ns : List (List ℕ)) (text : List ℕ) where
  -- What stands in a branch: its first lines, the second if there are any, and what is behind its end. A while has no second lines.
  pub record Inside (x : ℕ) (looped : Bool) (b : Body) (z : List ℕ) (n o fuel : ℕ) : Type 0 where
    pub first : Body
    pub second : Body
    pub rest : Body
    pub lines : List ℕ
    pub behind : List ℕ
    pub lies : Lies ns text n first (lines ++ (codes "end" ++ (10 ∷ (behind ++ z))))
    pub is : ElseLies ns lines second
    pub spells : SpellsBody (Named ns) rest behind
    pub deep_first : suc (depth first) ≤ fuel
    pub deep_second : suc (depth second) ≤ fuel
    pub deep_rest : depth rest ≤ fuel
    pub count : suc (suc o + lines_of first + else_lines_spec second) + lines_of rest ≡ o + lines_of b
    pub codes_on : (after : List ℕ) (m l : ℕ) → m ≡ suc o + lines_of first → l ≡ m + else_lines_spec second → entry_at after o ≡ SBranch x (suc o) (suc m) (suc l) looped →
        entry_at after m ≡ SJump (cond looped o (suc l)) → entry_at after l ≡ SJump (cond looped o (suc l)) → Codes (Named ns) text (length ns) (entry_at after) (suc o) first →
        Codes (Named ns) text (length ns) (entry_at after) (suc m) second → Codes (Named ns) text (length ns) (entry_at after) (suc l) rest → Codes (Named ns) text (length ns) (entry_at after) o b

  if_codes : (x o : ℕ) (e : Expr) (c d b : Body) → Stands (Named ns) text x e → (after : List ℕ) (m l : ℕ) → m ≡ suc o + lines_of c → l ≡ m + else_lines_spec d →
      entry_at after o ≡ SBranch x (suc o) (suc m) (suc l) false → entry_at after m ≡ SJump (suc l) → entry_at after l ≡ SJump (suc l) → Codes (Named ns) text (length ns) (entry_at after) (suc o) c →
      Codes (Named ns) text (length ns) (entry_at after) (suc m) d → Codes (Named ns) text (length ns) (entry_at after) (suc l) b → Codes (Named ns) text (length ns) (entry_at after) o (when e c d b)
  unfolding Codes
  if_codes x o e c d b st after m l hm hl q1 q2 q3 cc cd cb =
      let a : suc m ≡ suc o + suc (lines_of c) = omega arith in
      let j : suc l ≡ suc o + suc (lines_of c) + else_lines_spec d = omega arith in (
        (x, st, q1 ∙ ap (λ n. SBranch x (suc o) n (suc l) false) a ∙ ap (λ n. SBranch x (suc o) (suc o + suc (lines_of c)) n false) j),
        cc,
        ap (entry_at after) (sym hm) ∙ q2 ∙ ap SJump j,
        subst (λ (n : ℕ). Codes (Named ns) text (length ns) (entry_at after) n d) a cd,
        (λ q. let g = else-some d q in let w : suc o + suc (lines_of c) + lines_of d ≡ l = omega arith in ap (entry_at after) w ∙ q3 ∙ ap SJump j),
        subst (λ (n : ℕ). Codes (Named ns) text (length ns) (entry_at after) n b) j cb,
      )

  end_none : else_lines_spec end ≡ 0
  unfolding ended
  end_none = else-none end refl

  while_codes : (x o : ℕ) (e : Expr) (c b : Body) → Stands (Named ns) text x e → (after : List ℕ) (m l : ℕ) → m ≡ suc o + lines_of c → l ≡ m + else_lines_spec end →
      entry_at after o ≡ SBranch x (suc o) (suc m) (suc l) true → entry_at after m ≡ SJump o → Codes (Named ns) text (length ns) (entry_at after) (suc o) c →
      Codes (Named ns) text (length ns) (entry_at after) (suc l) b → Codes (Named ns) text (length ns) (entry_at after) o (while e c b)
  unfolding Codes
  while_codes x o e c b st after m l hm hl q1 q2 cc cb =
      let z = end_none in
      let a : suc m ≡ suc o + suc (lines_of c) = omega arith in
      let j : suc l ≡ suc o + suc (lines_of c) = omega arith in (
        (x, st, q1 ∙ ap (λ n. SBranch x (suc o) n (suc l) true) a ∙ ap (λ n. SBranch x (suc o) (suc o + suc (lines_of c)) n true) j),
        cc,
        ap (entry_at after) (sym hm) ∙ q2,
        subst (λ (n : ℕ). Codes (Named ns) text (length ns) (entry_at after) n b) j cb,
      )

  module _ (names : Names ns text) where
    word_in_one_line : (e : Expr) (m u : List ℕ) → each_byte in_line m ≡ true → SpellsExpr (Named ns) e u → each_byte in_line (m ++ u) ≡ true
    word_in_one_line e m u h s = each_append in_line m u h (in-one-line ns text names e u s)

    inside_if : (x : ℕ) (e : Expr) (c d b : Body) (z : List ℕ) (at n o fuel : ℕ) → Stands (Named ns) text x e → Lies ns text at (when e c d b) z → depth (when e c d b) ≤ fuel → NextLine text at n
        → Inside x false (when e c d b) z n o fuel
    unfolding SpellsBody depth each_byte
    inside_if x e c d b z at n o fuel st l deep next =
        let s = l.spells in
        let t : drop at text ≡ (codes "if " ++ s.0) ++ (10 ∷ (s.1 ++ (s.2 ++ (codes "end" ++ (10 ∷ (s.3 ++ z)))))) =
        l.here ∙ ap (λ v. v ++ z) s.8
        ∙ ap (λ v. codes "if " ++ v) (append_assoc s.0 (10 ∷ (s.1 ++ (s.2 ++ (codes "end" ++ (10 ∷ s.3))))) z
        ∙ ap (λ v. s.0 ++ (10 ∷ v)) (append_assoc s.1 (s.2 ++ (codes "end" ++ (10 ∷ s.3))) z ∙ ap (λ v. s.1 ++ v) (append_assoc s.2 (codes "end" ++ (10 ∷ s.3)) z))) in
        record {
          first = c;
          second = d;
          rest = b;
          lines = s.2;
          behind = s.3;
          lies = record { spelt = s.1; spells = s.5; here = next_is text (codes "if " ++ s.0) _ at n next t (word_in_one_line e (codes "if ") s.0 refl s.4) };
          is = elim s.6 [ inl p ↦ none p.0 p.1 | inr p ↦ some p.0 p.1 p.2 ];
          spells = s.7;
          deep_first = omega arith;
          deep_second = omega arith;
          deep_rest = omega arith;
          count = omega (arith, when-lines e c d b);
          codes_on = if_codes x o e c d b st;
        }

    while_lines : (e : Expr) (c b : Body) → lines_of (while e c b) ≡ suc (suc (lines_of c) + lines_of b)
    unfolding lines_of
    while_lines e c b = refl

    end_deep : depth end ≡ 0
    unfolding depth
    end_deep = refl

    inside_while : (x : ℕ) (e : Expr) (c b : Body) (z : List ℕ) (at n o fuel : ℕ) → Stands (Named ns) text x e → Lies ns text at (while e c b) z → depth (while e c b) ≤ fuel → NextLine text at n
        → Inside x true (while e c b) z n o fuel
    unfolding SpellsBody depth each_byte
    inside_while x e c b z at n o fuel st l deep next =
        let s = l.spells in
        let t : drop at text ≡ (codes "while " ++ s.0) ++ (10 ∷ (s.1 ++ (codes "end" ++ (10 ∷ (s.2 ++ z))))) =
        l.here ∙ ap (λ v. v ++ z) s.7
        ∙ ap (λ v. codes "while " ++ v) (append_assoc s.0 (10 ∷ (s.1 ++ (codes "end" ++ (10 ∷ s.2)))) z
        ∙ ap (λ v. s.0 ++ (10 ∷ v)) (append_assoc s.1 (codes "end" ++ (10 ∷ s.2)) z)) in
        let g = end_none in
        record {
          first = c;
          second = end;
          rest = b;
          lines = [];
          behind = s.2;
          lies = record { spelt = s.1; spells = s.4; here = next_is text (codes "while " ++ s.0) _ at n next t (word_in_one_line e (codes "while ") s.0 refl s.3) };
          is = none refl refl;
          spells = s.6;
          deep_first = omega arith;
          deep_second = omega (arith, end_deep);
          deep_rest = omega arith;
          count = omega (arith, while_lines e c b);
          codes_on = λ after m l hm hl q1 q2 q3 cc cd cb. while_codes x o e c b st after m l hm hl q1 q2 cc cb;
        }

    inside : (x : ℕ) (looped : Bool) (b : Body) (z : List ℕ) (at n o fuel : ℕ) → Branches ns text x looped b → Lies ns text at b z → depth b ≤ fuel → NextLine text at n → Inside x looped b z n o fuel
    inside x false b z at n o fuel br l deep next =
        subst (λ (v : Body). Inside x false v z n o fuel) (sym br.4)
        (inside_if x br.0 br.1 br.2 br.3 z at n o fuel br.5 (subst (λ (v : Body). Lies ns text at v z) br.4 l) (subst (λ (v : Body). depth v ≤ fuel) br.4 deep) next)
    inside x true b z at n o fuel br l deep next =
        subst (λ (v : Body). Inside x true v z n o fuel) (sym br.3)
        (inside_while x br.0 br.1 br.2 z at n o fuel br.4 (subst (λ (v : Body). Lies ns text at v z) br.3 l) (subst (λ (v : Body). depth v ≤ fuel) br.3 deep) next)

    else_halts : (lines t : List ℕ) (d : Body) → ElseLies ns lines d → Halts (lines ++ (codes "end" ++ (10 ∷ t)))
    else_halts lines t d (none p q) = at_end t (ap (λ v. v ++ (codes "end" ++ (10 ∷ t))) q)
    else_halts lines t d (some w p q) = at_else (w ++ (codes "end" ++ (10 ∷ t))) (ap (λ v. v ++ (codes "end" ++ (10 ∷ t))) q)

    module _ (x : ℕ) (looped : Bool) (b : Body) (z : List ℕ) (p inner : Place) (f fuel room : ℕ) (g : Given ns text p.at b z p.entry fuel room) (br : Branches ns text x looped b)
        (af : After text p inner) (hf : fuel ≡ suc f) where
      pub the_inside : Inside x looped b z inner.at p.entry fuel
      the_inside = inside x looped b z p.at inner.at p.entry fuel br g.lies g.shallow af.next

      pub given_first : Given ns text inner.at the_inside.first (the_inside.lines ++ (codes "end" ++ (10 ∷ (the_inside.behind ++ z)))) inner.entry f room
      given_first =
          record {
            names = names;
            lies = the_inside.lies;
            halts = else_halts the_inside.lines (the_inside.behind ++ z) the_inside.second the_inside.is;
            shallow = omega (arith, the_inside.deep_first);
            room_for = omega (arith, the_inside.count, af.entry, g.room_for);
          }

      module _ (w0 w1 : List ℕ) (first : Place) (made : LinesMade text w0 w1 f room inner first) where
        first_done : Done ns text w1 (the_inside.lines ++ (codes "end" ++ (10 ∷ (the_inside.behind ++ z)))) inner.entry the_inside.first first
        first_done = made.done ns the_inside.first _ given_first

        first_entry : first.entry ≡ suc p.entry + lines_of the_inside.first
        first_entry = omega (arith, first_done.count, af.entry)

        pub first_room : first.entry < room
        first_room = omega (arith, first_entry, the_inside.count, g.room_for)

        pub given_else : ElseGiven ns text first.at the_inside.second (the_inside.behind ++ z) first.entry f room
        given_else =
            record {
              names = names;
              lines = the_inside.lines;
              is = the_inside.is;
              here = first_done.there;
              shallow = omega (arith, the_inside.deep_second);
              room_for = omega (arith, first_entry, the_inside.count, g.room_for);
            }

        module _ (w2 : List ℕ) (last : Place) (else-made : ElseMade text w1 w2 f room first last) where
          else_done : (drop last.at text ≡ codes "end" ++ (10 ∷ (the_inside.behind ++ z))) × (last.entry ≡ first.entry + else_lines_spec the_inside.second) × Codes (Named ns) text (length ns) (entry_at w2) (suc first.entry) the_inside.second
          else_done = else-made.done ns the_inside.second (the_inside.behind ++ z) given_else

          pub last_room : last.entry < room
          last_room = omega (arith, else_done.1, first_entry, the_inside.count, g.room_for)

          module _ (w3 : List ℕ) (q : Place) (closed : Closed w2 w3 p first last x looped) (aq : After text last q) where
            up_last : first.entry ≤ last.entry
            up_last = else-made.up

            -- The first lines are as they were made, and so are the second.
            first_codes : (after : List ℕ) → SameEntries w3 after p.entry q.entry → Codes (Named ns) text (length ns) (entry_at after) (suc p.entry) the_inside.first
            unfolding SameEntries
            first_codes after same =
                codes_same (Named ns) text (length ns) (entry_at w1) (entry_at after) (suc p.entry) the_inside.first
                (λ i lo hi.
                let fe = first_entry in
                let ul = up_last in
                let qe = aq.entry in
                let lt : i < first.entry = omega arith in
                same i (omega arith) (omega arith)
                ∙ closed.others i (λ e. omega arith) (λ e. omega arith) (λ e. omega arith)
                ∙ kept_entry w1 w2 (suc first.entry) (suc last.entry) i else-made.kept (inl (omega arith)))
                (subst (λ (n : ℕ). Codes (Named ns) text (length ns) (entry_at w1) n the_inside.first) af.entry first_done.stands)

            second_codes : (after : List ℕ) → SameEntries w3 after p.entry q.entry → Codes (Named ns) text (length ns) (entry_at after) (suc first.entry) the_inside.second
            unfolding SameEntries
            second_codes after same =
                codes_same (Named ns) text (length ns) (entry_at w2) (entry_at after) (suc first.entry) the_inside.second
                (λ i lo hi.
                let fe = first_entry in
                let le = else_done.1 in
                let qe = aq.entry in
                let lt : i < last.entry =
                elim (cases_Bool (ended the_inside.second)) [
                  | inl y ↦ absurd (omega (arith, no_lines the_inside.second (ended_is the_inside.second y)))
                  | inr y ↦ omega (arith, else-some the_inside.second y)
                ] in
                same i (omega arith) (omega arith) ∙ closed.others i (λ e. omega arith) (λ e. omega arith) (λ e. omega arith))
                else_done.2

            pub branch_part : Part ns text w3 z p.entry b fuel q
            unfolding SameEntries each_byte
            branch_part =
                let fe = first_entry in
                let le = else_done.1 in
                let qe = aq.entry in
                record {
                  rest = the_inside.rest;
                  lies = record { spelt = the_inside.behind; spells = the_inside.spells; here = next_is text (codes "end") (the_inside.behind ++ z) last.at q.at aq.next else_done.0 refl };
                  shallow = the_inside.deep_rest;
                  count = omega (arith, the_inside.count);
                  stands = λ after same cr.
                      the_inside.codes_on after first.entry last.entry fe le
                      (same p.entry (omega arith) (omega arith) ∙ closed.branch)
                      (same first.entry (omega arith) (omega arith) ∙ closed.first_jump)
                      (same last.entry (omega arith) (omega arith) ∙ closed.last_jump)
                      (first_codes after same)
                      (second_codes after same)
                      (subst (λ (n : ℕ). Codes (Named ns) text (length ns) (entry_at after) n the_inside.rest) qe cr);
                }
