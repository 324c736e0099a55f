-- A text that is taken: it spells a program, and keeps the limits of the language.
use Rattle.std.specs.Prelude.{◌≡◌, ℕ, suc, ◌+◌, ◌≤◌, max, Bool, true, cond, ◌&&◌, List, [], ◌∷◌, length, ◌==◌, nat_lt}
use Rattle.lanes.specs.Syntax.{Program, Body, end, put, read_shared, write_shared, read_all, write_all, barrier, when, while}
use Rattle.lanes.specs.Told.{BodyFits}
use Rattle.grammar.specs.Spelling.{Spelled, Named}
pub use Rattle.grammar.specs.Names.{Distinct}

-- How deep lines stand in each other: ifs and whiles count together.
unfoldable pub depth : Body → ℕ
depth end = 0
depth (put k e b) = depth b
depth (read_shared k e b) = depth b
depth (write_shared e f b) = depth b
depth (read_all k e b) = depth b
depth (write_all e f b) = depth b
depth (barrier b) = depth b
depth (when e c d b) = max (suc (max (depth c) (depth d))) (depth b)
depth (while e c b) = max (suc (depth c)) (depth b)

-- How many lines: each ends with byte 10.
unfoldable pub lines_in : List ℕ → ℕ
lines_in [] = 0
lines_in (b ∷ bs) = cond (b == 10) 1 0 + lines_in bs

-- Each line has at most m bytes, byte 10 not counted, if the line that goes on here has k already.
unfoldable pub lines_within : ℕ → ℕ → List ℕ → Bool
lines_within m k [] = true
lines_within m k (b ∷ bs) = cond (b == 10) (lines_within m 0 bs) (nat_lt k m && lines_within m (suc k) bs)

-- The text, with the own numbers named ns, is the program p, and within the limits.
pub record Taken (ns : List (List ℕ)) (p : Program) (text : List ℕ) : Type 0 where
  pub spelled : Spelled (Named ns) ns p text
  pub distinct : Distinct ns
  pub few_names : length ns ≤ 64
  pub few_cells : p.shared ≤ 16384
  pub fits : BodyFits p.owns p.body
  pub few_lines : lines_in text ≤ 1024
  pub short : lines_within 1024 0 text ≡ true
  pub shallow : depth p.body ≤ 16
