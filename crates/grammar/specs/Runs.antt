-- Runs of bytes in a text, and how the words of the language are written.
use Rattle.std.specs.Prelude.{ℕ, suc, Bool, cond, List, [], ◌∷◌, codes}
use Rattle.grammar.specs.declared.keywords.Keyword.{Keyword}
use Rattle.grammar.specs.declared.keywords.Keyword.TheVariants.{Own, Cells, Cell, Field, Barrier, If, Else, End, While, Lane, Group, Lanes}

-- How many bytes pass the test before the first that does not.
unfoldable pub run_of : (ℕ → Bool) → List ℕ → ℕ
run_of f [] = 0
run_of f (b ∷ bs) = cond (f b) (suc (run_of f bs)) 0

abbrev pub written : Keyword → List ℕ
written Own = codes "own"
written Cells = codes "cells"
written Cell = codes "cell"
written Field = codes "field"
written Barrier = codes "barrier"
written If = codes "if"
written Else = codes "else"
written End = codes "end"
written While = codes "while"
written Lane = codes "lane"
written Group = codes "group"
written Lanes = codes "lanes"
