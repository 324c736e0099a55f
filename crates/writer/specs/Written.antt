-- The text that a program is written as, with given names for its own numbers.
use Rattle.std.specs.Prelude.{◌≡◌, ℕ, ◌+◌, ◌-◌, ◌≤◌, true, cond, List, [], ◌∷◌, ◌++◌, map, codes, decimal as digits_of, ◌==◌, nat_lt, slice_index_or}
use Rattle.std.specs.List.{range_with_len, flat_map}
use Rattle.lanes.specs.Syntax.{Expr, fixed, var, lane, group, lanes, plus, minus, times, over, rest_of, less, same, Body, end, put, read_shared, write_shared, read_all, write_all, barrier, when, while, Program, ended}
use Rattle.lanes.specs.Told.{BodyFits}
use Rattle.grammar.specs.Spelling.{infix_of}
use Rattle.grammar.specs.Taken.{Taken, lines_in, lines_within, depth}

-- Numbers without leading zeros.
unfoldable pub written_expr : List (List ℕ) → Expr → List ℕ
written_expr ns (fixed a) = digits_of a
written_expr ns (var k) = slice_index_or ns k []
written_expr ns lane = codes "lane"
written_expr ns group = codes "group"
written_expr ns lanes = codes "lanes"
written_expr ns (plus e f) = infix_of (written_expr ns e) 43 (written_expr ns f)
written_expr ns (minus e f) = infix_of (written_expr ns e) 45 (written_expr ns f)
written_expr ns (times e f) = infix_of (written_expr ns e) 42 (written_expr ns f)
written_expr ns (over e f) = infix_of (written_expr ns e) 47 (written_expr ns f)
written_expr ns (rest_of e f) = infix_of (written_expr ns e) 37 (written_expr ns f)
written_expr ns (less e f) = infix_of (written_expr ns e) 60 (written_expr ns f)
written_expr ns (same e f) = infix_of (written_expr ns e) 61 (written_expr ns f)

-- An else with nothing behind it is left out.
abbrev pub else_lines_spec : Body → List ℕ → List ℕ
else_lines_spec d t = cond (ended d) [] (codes "else" ++ (10 ∷ t))

unfoldable pub written_body : List (List ℕ) → Body → List ℕ
written_body ns end = []
written_body ns (put k e b) = slice_index_or ns k [] ++ (codes " = " ++ (written_expr ns e ++ (10 ∷ written_body ns b)))
written_body ns (read_shared k e b) = slice_index_or ns k [] ++ (codes " = cell " ++ (written_expr ns e ++ (10 ∷ written_body ns b)))
written_body ns (write_shared e f b) = codes "cell " ++ (written_expr ns e ++ (codes " = " ++ (written_expr ns f ++ (10 ∷ written_body ns b))))
written_body ns (read_all k e b) = slice_index_or ns k [] ++ (codes " = field " ++ (written_expr ns e ++ (10 ∷ written_body ns b)))
written_body ns (write_all e f b) = codes "field " ++ (written_expr ns e ++ (codes " = " ++ (written_expr ns f ++ (10 ∷ written_body ns b))))
written_body ns (barrier b) = codes "barrier" ++ (10 ∷ written_body ns b)
written_body ns (when e c d b) =
    codes "if " ++ (written_expr ns e ++ (10 ∷ (written_body ns c ++ (else_lines_spec d (written_body ns d) ++ (codes "end" ++ (10 ∷ written_body ns b))))))
written_body ns (while e c b) = codes "while " ++ (written_expr ns e ++ (10 ∷ (written_body ns c ++ (codes "end" ++ (10 ∷ written_body ns b)))))

-- No own numbers, no own line; no cells, no cells line.
abbrev pub own_line : List (List ℕ) → List ℕ
own_line [] = []
own_line (u ∷ ns) = codes "own" ++ (flat_map (λ v. 32 ∷ v) (u ∷ ns) ++ (10 ∷ []))

abbrev pub cells_line_spec : ℕ → List ℕ
cells_line_spec s = cond (s == 0) [] (codes "cells " ++ (digits_of s ++ (10 ∷ [])))

unfoldable pub written : List (List ℕ) → Program → List ℕ
written ns p = own_line ns ++ (cells_line_spec p.shared ++ written_body ns p.body)

-- Names in turn: a to z, then a0, a1 and on.
abbrev pub name_in_turn : ℕ → List ℕ
name_in_turn k = cond (nat_lt k 26) ((97 + k) ∷ []) (97 ∷ digits_of (k - 26))

unfoldable pub names_in_turn : ℕ → List (List ℕ)
names_in_turn o = map name_in_turn (range_with_len 0 o)

-- A program is in bounds if its text, with the own numbers named in turn, keeps the limits.
pub record InBounds (p : Program) : Type 0 where
  pub few_names : p.owns ≤ 64
  pub few_cells : p.shared ≤ 16384
  pub fits : BodyFits p.owns p.body
  pub few_lines : lines_in (written (names_in_turn p.owns) p) ≤ 1024
  pub short : lines_within 1024 0 (written (names_in_turn p.owns) p) ≡ true
  pub shallow : depth p.body ≤ 16

-- Every program in bounds has a text, and it is one that is taken.
abbrev pub EveryProgram : Type 0
EveryProgram = (p : Program) → InBounds p → Taken (names_in_turn p.owns) p (written (names_in_turn p.owns) p)

-- No line grows, whatever they are held to, and none is added.
pub record NoLonger (text new : List ℕ) : Type 0 where
  pub fewer : lines_in new ≤ lines_in text
  pub within : (m : ℕ) → lines_within m 0 text ≡ true → lines_within m 0 new ≡ true

-- A text that is taken, written anew with the names that it had, is taken as the same program, and no line grows.
abbrev pub Anew : Type 0
Anew = (ns : List (List ℕ)) (p : Program) (text : List ℕ) → Taken ns p text → Taken ns p (written ns p) × NoLonger text (written ns p)
