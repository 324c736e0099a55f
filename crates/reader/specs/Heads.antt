-- Reading the lines before the body, step by step: what the code does, as functions.
use Rattle.std.specs.Prelude.{ℕ, zero, suc, ◌+◌, ◌-◌, Bool, true, false, cond, List, [], ◌∷◌, ◌++◌, length, drop, Some, None, Ok, Err, codes, Option, Result, ◌==◌, nat_le, nat_lt, slice_index}
use Rattle.grammar.specs.Spelling.{letter, digit, word_byte, one_of}
pub use Rattle.grammar.specs.Names.{Words, spaced}
use Rattle.grammar.specs.Runs.{run_of}
use Rattle.grammar.specs.Walk.{word_part, key_at, bytes_at, number_part, and_then}
use Rattle.grammar.specs.declared.refusals.Refusal.{Refusal}
use Rattle.grammar.specs.declared.refusals.Refusal.TheVariants.{Shape, Twice, ManyNames, ManyCells, Long}
use Rattle.grammar.specs.declared.keywords.Keyword.{Keyword}
use Rattle.grammar.specs.declared.keywords.Keyword.TheVariants.{Own, Cells, Cell, Field, Barrier, If, Else, End, While, Lane, Group, Lanes}
use Rattle.reader.specs.declared.heads.Head.{Head}

abbrev pub is_key : Option Keyword → Bool
is_key None = false
is_key (Some k) = true

abbrev pub is_own_spec : Option Keyword → Bool
is_own_spec None = false
is_own_spec (Some Own) = true
is_own_spec (Some Cells) = false
is_own_spec (Some Cell) = false
is_own_spec (Some Field) = false
is_own_spec (Some Barrier) = false
is_own_spec (Some If) = false
is_own_spec (Some Else) = false
is_own_spec (Some End) = false
is_own_spec (Some While) = false
is_own_spec (Some Lane) = false
is_own_spec (Some Group) = false
is_own_spec (Some Lanes) = false

abbrev pub is_cells_spec : Option Keyword → Bool
is_cells_spec None = false
is_cells_spec (Some Own) = false
is_cells_spec (Some Cells) = true
is_cells_spec (Some Cell) = false
is_cells_spec (Some Field) = false
is_cells_spec (Some Barrier) = false
is_cells_spec (Some If) = false
is_cells_spec (Some Else) = false
is_cells_spec (Some End) = false
is_cells_spec (Some While) = false
is_cells_spec (Some Lane) = false
is_cells_spec (Some Group) = false
is_cells_spec (Some Lanes) = false

-- A new name at byte i, behind the names seen.
unfoldable pub name_at : List (List ℕ) → List ℕ → ℕ → Result ℕ Refusal
name_at seen text i =
    cond (letter (slice_index text i))
    (cond (nat_le 9 (run_of word_byte (drop i text))) (Err (Shape (i + 8)))
    (cond (is_key (key_at text i)) (Err (Shape (i + run_of word_byte (drop i text))))
    (cond (one_of seen (word_part text i)) (Err (Twice i))
    (cond (nat_le 64 (length seen)) (Err (ManyNames i)) (Ok (i + run_of word_byte (drop i text)))))))
    (Err (Shape i))

-- The names, and the byte at which the next line begins.
pub record Found : Type 0 where
  pub names : List (List ℕ)
  pub next : ℕ

-- More names, behind those seen, from byte i on; n names more at most.
unfoldable pub names_at : List ℕ → ℕ → List (List ℕ) → ℕ → Result Found Refusal
names_at text zero seen i = Err (Shape i)
names_at text (suc n) seen i =
    and_then (bytes_at text (codes " ") i) (λ j. and_then (name_at seen text j) (λ e.
    cond (slice_index text e == 10) (Ok (record { names = seen ++ (word_part text j ∷ []); next = e + 1 })) (names_at text n (seen ++ (word_part text j ∷ [])) e)))

unfoldable pub own_at : List ℕ → Result Found Refusal
own_at text = cond (is_own_spec (key_at text 0)) (names_at text 66 [] 3) (Ok (record { names = []; next = 0 }))

abbrev pub counted : Result Found Refusal → Result Head Refusal
counted (Ok f) = Ok (record { many = length f.names; next = f.next })
counted (Err e) = Err e

-- The line with the number of cells, at byte i.
unfoldable pub cells_at : List ℕ → ℕ → Result Head Refusal
cells_at text i =
    cond (is_cells_spec (key_at text i))
    (and_then (bytes_at text (codes "cells ") i) (λ j.
    cond (digit (slice_index text j))
    (cond (nat_lt 16384 (number_part text j)) (Err (ManyCells j))
    (cond (nat_lt 1024 ((j + run_of digit (drop j text)) - i)) (Err (Long (i + 1024)))
    (and_then (bytes_at text (codes "\n") (j + run_of digit (drop j text))) (λ n. Ok (record { many = number_part text j; next = n })))))
    (Err (Shape j))))
    (Ok (record { many = 0; next = i }))
