-- A text that spells a program begins with the names of its own numbers, or with no such line.
use Rattle.std.proofs.Common.{◌≡◌, ℕ, ◌≤◌, ◌≢◌, List, [], ◌++◌, length, get_or, sym, ap, ◌∙◌, inl, inr, arith}
use Rattle.std.proofs.lemmas.List.{get_or-take}
use Rattle.lanes.specs.Syntax.{Body, end, put, read_shared, write_shared, read_all, write_all, barrier, when, while, Program}
use Rattle.grammar.specs.Spelling.{Named, SpellsBody, CellsLine, Spelled}
use Rattle.grammar.specs.Names.{NamesIn}

-- Without names, no line of a body begins with the first letter of `own`.
body-begins : (ns : List (List ℕ)) → ns ≡ [] → (b : Body) (t : List ℕ) → SpellsBody (Named ns) b t → get_or t 0 0 ≢ 111
unfolding SpellsBody
body-begins ns z end t s q = omega (arith, q, ap (λ x. get_or x 0 0) s)
body-begins ns z (put k e b) t s q = omega (arith, s.3.0, ap length z)
body-begins ns z (read_shared k e b) t s q = omega (arith, s.3.0, ap length z)
body-begins ns z (write_shared e f b) t s q = omega (arith, q, ap (λ x. get_or x 0 0) s.6)
body-begins ns z (read_all k e b) t s q = omega (arith, s.3.0, ap length z)
body-begins ns z (write_all e f b) t s q = omega (arith, q, ap (λ x. get_or x 0 0) s.6)
body-begins ns z (barrier b) t s q = omega (arith, q, ap (λ x. get_or x 0 0) s.2)
body-begins ns z (when e c d b) t s q = omega (arith, q, ap (λ x. get_or x 0 0) s.8)
body-begins ns z (while e c b) t s q = omega (arith, q, ap (λ x. get_or x 0 0) s.7)

cells-begin : (ns : List (List ℕ)) → ns ≡ [] → (p : Program) (c t : List ℕ) → CellsLine p.shared c → SpellsBody (Named ns) p.body t → get_or (c ++ t) 0 0 ≢ 111
cells-begin ns z p c t h s =
    elim h [
      | inl x ↦ (λ q. body-begins ns z p.body t s (ap (λ w. get_or (w ++ t) 0 0) (sym x.1) ∙ q))
      | inr x ↦ (λ q. omega (arith, q, ap (λ w. get_or (w ++ t) 0 0) x.2))
    ]

pub spelled-names : (ns : List (List ℕ)) (p : Program) (text : List ℕ) → Spelled (Named ns) ns p text → length ns ≤ 64 → NamesIn ns text
spelled-names ns p text s few =
    record {
      line = s.own_part;
      rest = s.cells_part ++ s.body_part;
      whole = s.whole;
      own_line = s.own_line;
      names = s.names;
      few = few;
      missing = λ z q.
          elim s.own_line [
            | inl x ↦
                cells-begin ns z p s.cells_part s.body_part s.cells_line s.body
                (sym (ap (λ w. get_or w 0 0) (s.whole ∙ ap (λ w. w ++ (s.cells_part ++ s.body_part)) x.1)) ∙ sym (get_or-take 4 text 0 0 (omega arith)) ∙ ap (λ w. get_or w 0 0) q)
            | inr x ↦ x.0 z
          ];
    }
