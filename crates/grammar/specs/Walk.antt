-- Reading bytes of a text from an index on, step by step: what the code does, as functions.
use Rattle.std.specs.Prelude.{ℕ, zero, suc, ◌+◌, Bool, true, false, cond, not, ◌&&◌, ◌||◌, List, [], ◌∷◌, take, drop, Some, None, Ok, Err, codes, Option, Result, ◌==◌, nat_le, nat_lt, slice_index}
use Rattle.std.specs.List.{prefix_len, zip}
use Rattle.grammar.specs.Spelling.{letter, digit, word_byte, same_bytes, decimal}
use Rattle.grammar.specs.Runs.{run_of}
use Rattle.grammar.specs.declared.refusals.Refusal.{Refusal}
use Rattle.grammar.specs.declared.refusals.Refusal.TheVariants.{Shape, Unknown, Large, Long}
use Rattle.grammar.specs.declared.keywords.Keyword.{Keyword}
use Rattle.grammar.specs.declared.keywords.Keyword.TheVariants.{Own, Cells, Cell, Field, Barrier, If, Else, End, While, Lane, Group, Lanes}
use Rattle.grammar.specs.declared.tokens.Token.{Token}
use Rattle.grammar.specs.declared.tokens.Word.{Word}
use Rattle.grammar.specs.declared.tokens.Word.TheVariants as word

-- One more, if there is one.
abbrev pub one_more : Option ℕ → Option ℕ
one_more None = None
one_more (Some k) = Some (suc k)

-- The place of a name among the names.
unfoldable pub place_in : List (List ℕ) → List ℕ → Option ℕ
place_in [] u = None
place_in (n ∷ ns) u = cond (same_bytes n u) (Some 0) (one_more (place_in ns u))

-- The word of the language that the bytes are.
unfoldable pub key_of : List ℕ → Option Keyword
key_of u =
    cond (same_bytes (codes "own") u) (Some Own) (cond (same_bytes (codes "cells") u) (Some Cells) (cond (same_bytes (codes "cell") u) (Some Cell)
    (cond (same_bytes (codes "field") u) (Some Field) (cond (same_bytes (codes "barrier") u) (Some Barrier) (cond (same_bytes (codes "if") u) (Some If)
    (cond (same_bytes (codes "else") u) (Some Else) (cond (same_bytes (codes "end") u) (Some End) (cond (same_bytes (codes "while") u) (Some While)
    (cond (same_bytes (codes "lane") u) (Some Lane) (cond (same_bytes (codes "group") u) (Some Group) (cond (same_bytes (codes "lanes") u) (Some Lanes) None)))))))))))

-- The longest run of letters and digits from byte i on, and the word of the language there.
abbrev pub word_part : List ℕ → ℕ → List ℕ
word_part text i = take (run_of word_byte (drop i text)) (drop i text)

abbrev pub key_at : List ℕ → ℕ → Option Keyword
key_at text i = key_of (word_part text i)

-- A step, and then another from where it ended.
abbrev pub and_then : {X Y : Type 0} → Result X Refusal → (X → Result Y Refusal) → Result Y Refusal
and_then (Ok x) f = f x
and_then (Err e) f = Err e

abbrev pub own_token : Option ℕ → ℕ → ℕ → Result Token Refusal
own_token None i end = Err (Unknown i)
own_token (Some k) i end = Ok (record { word = word.Own k; end = end })

abbrev pub some_token : Option Keyword → Option ℕ → ℕ → ℕ → Result Token Refusal
some_token None o i end = own_token o i end
some_token (Some k) o i end = Ok (record { word = word.Key k; end = end })

-- The byte behind the word at byte i, which begins with a letter and has 8 bytes at most.
unfoldable pub short_word_at : List ℕ → ℕ → Result ℕ Refusal
short_word_at text i =
    cond (letter (slice_index text i)) (cond (nat_le 9 (run_of word_byte (drop i text))) (Err (Shape (i + 8))) (Ok (i + run_of word_byte (drop i text)))) (Err (Shape i))

-- The word at byte i: of the language, or a name that `find` finds.
unfoldable pub word_at : (List ℕ → Option ℕ) → List ℕ → ℕ → Result Token Refusal
word_at find text i =
    cond (letter (slice_index text i))
    (cond (nat_le 9 (run_of word_byte (drop i text))) (Err (Shape (i + 8)))
    (some_token (key_at text i) (find (word_part text i)) i (i + run_of word_byte (drop i text))))
    (Err (Shape i))

-- A byte of a text beside a wanted one: a wanted byte that is no 0 stands there.
abbrev pub stands : ℕ × ℕ → Bool
stands p = p.0 == p.1 && not (p.1 == 0)

-- How many of these bytes stand at byte i.
abbrev pub same_at : List ℕ → ℕ → List ℕ → ℕ
same_at text i bs = prefix_len stands (zip (drop i text) bs)

-- These bytes, one after the other.
unfoldable pub bytes_at : List ℕ → List ℕ → ℕ → Result ℕ Refusal
bytes_at text [] i = Ok i
bytes_at text (b ∷ bs) i = cond (slice_index text i == b && not (b == 0)) (bytes_at text bs (i + 1)) (Err (Shape i))

-- Words of the language that are expressions.
abbrev pub is_atom_spec : Keyword → Bool
is_atom_spec Own = false
is_atom_spec Cells = false
is_atom_spec Cell = false
is_atom_spec Field = false
is_atom_spec Barrier = false
is_atom_spec If = false
is_atom_spec Else = false
is_atom_spec End = false
is_atom_spec While = false
is_atom_spec Lane = true
is_atom_spec Group = true
is_atom_spec Lanes = true

abbrev pub word_atom : Word → ℕ → Result ℕ Refusal
word_atom (word.Own k) end = Ok end
word_atom (word.Key k) end = cond (is_atom_spec k) (Ok end) (Err (Shape end))

-- The number of the longest run of digits from byte i on.
abbrev pub number_part : List ℕ → ℕ → ℕ
number_part text i = decimal 0 (take (run_of digit (drop i text)) (drop i text))

unfoldable pub atom_at : (List ℕ → Option ℕ) → List ℕ → ℕ → Result ℕ Refusal
atom_at find text i =
    cond (digit (slice_index text i)) (cond (nat_lt (number_part text i) 4294967296) (Ok (i + run_of digit (drop i text))) (Err (Large i)))
    (and_then (word_at find text i) (λ t. word_atom t.word t.end))

-- The bytes + - * / % < =.
abbrev pub is_operator_spec : ℕ → Bool
is_operator_spec b = b == 43 || (b == 45 || (b == 42 || (b == 47 || (b == 37 || (b == 60 || b == 61)))))

unfoldable pub operator_at : List ℕ → ℕ → Result ℕ Refusal
operator_at text i = and_then (bytes_at text (32 ∷ []) i) (λ j. cond (is_operator_spec (slice_index text j)) (bytes_at text (32 ∷ []) (j + 1)) (Err (Shape j)))

-- An expression with at most n brackets open at a time.
unfoldable pub expr_at : (List ℕ → Option ℕ) → List ℕ → ℕ → ℕ → Result ℕ Refusal
expr_at find text zero i = cond (slice_index text i == 40) (Err (Long i)) (atom_at find text i)
expr_at find text (suc n) i =
    cond (slice_index text i == 40)
    (and_then (expr_at find text n (i + 1)) (λ j. and_then (operator_at text j) (λ k. and_then (expr_at find text n k) (λ l. bytes_at text (41 ∷ []) l))))
    (atom_at find text i)
