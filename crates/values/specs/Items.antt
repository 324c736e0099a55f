-- Expressions as words: an operator before its two operands.
use Rattle.std.specs.Prelude.{◌≡◌, ℕ, ◌+◌, ◌/◌, ◌%◌, ◌<◌, ◌≤◌, cond, List, length, Some, None, Option, ◌==◌, slice_index}
use Rattle.lanes.specs.Syntax.{Expr, fixed, var, lane, group, lanes, plus, minus, times, over, rest_of, less, same}
use Rattle.values.specs.declared.ops.Op.TheVariants.{Plus, Minus, Times, Over, Rest, Less, Same}
use Rattle.values.specs.declared.leaves.Leaf.{Leaf}
use Rattle.values.specs.declared.leaves.Leaf.TheVariants.{Fixed, Own, Lane, Group, Lanes}
use Rattle.values.specs.declared.items.Item.{Item}
use Rattle.values.specs.declared.items.Item.TheVariants.{Word, Apply}
use Rattle.grammar.specs.Spelling.{Named}
use Rattle.grammar.specs.Stands.{Stands}
use Rattle.grammar.specs.Names.{NamesIn, Distinct}
use Rattle.values.specs.declared.row.Row.{Row}
use Rattle.values.specs.declared.packed.Behind.{Behind}
use Rattle.values.specs.Worth.{LeafIs}
use Rattle.values.specs.Rows.{Values}

-- What a word is: its kind in the low four bits, a number above.
abbrev pub kind_of_spec : ℕ → ℕ → Option Item
kind_of_spec k a =
    cond (k == 1) (Some (Word (Fixed a)))
    (cond (k == 2) (Some (Word (Own a)))
    (cond (k == 3) (Some (Word Lane))
    (cond (k == 4) (Some (Word Group))
    (cond (k == 5) (Some (Word Lanes))
    (cond (k == 6) (Some (Apply Plus))
    (cond (k == 7) (Some (Apply Minus))
    (cond (k == 8) (Some (Apply Times))
    (cond (k == 9) (Some (Apply Over))
    (cond (k == 10) (Some (Apply Rest))
    (cond (k == 11) (Some (Apply Less))
    (cond (k == 12) (Some (Apply Same)) None)))))))))))

abbrev pub item_of : ℕ → Option Item
item_of w = kind_of_spec (w % 16) (w / 16)

-- A leaf whose number does not fit into what is above the kind.
abbrev pub Large : Leaf → Type 0
Large (Fixed a) = 268435456 ≤ a
Large (Own k) = 268435456 ≤ k
Large Lane = ⊥
Large Group = ⊥
Large Lanes = ⊥

-- At place i of the words stands a leaf that is the expression, and at j is what is behind it.
pub record LeafCoded (owns : ℕ) (ws : List ℕ) (i : ℕ) (e : Expr) (j : ℕ) : Type 0 where
  pub leaf : Leaf
  pub item : item_of (slice_index ws i) ≡ Some (Word leaf)
  pub is : LeafIs owns leaf e
  pub next : j ≡ i + 1

-- From place i up to j the words are the expression. Own numbers are below `owns`.
unfoldable pub Coded : ℕ → List ℕ → ℕ → Expr → ℕ → Type 0
Coded owns ws i (fixed a) j = LeafCoded owns ws i (fixed a) j
Coded owns ws i (var k) j = LeafCoded owns ws i (var k) j
Coded owns ws i lane j = LeafCoded owns ws i lane j
Coded owns ws i group j = LeafCoded owns ws i group j
Coded owns ws i lanes j = LeafCoded owns ws i lanes j
Coded owns ws i (plus e f) j = (m : ℕ) × (item_of (slice_index ws i) ≡ Some (Apply Plus)) × Coded owns ws (i + 1) e m × Coded owns ws m f j
Coded owns ws i (minus e f) j = (m : ℕ) × (item_of (slice_index ws i) ≡ Some (Apply Minus)) × Coded owns ws (i + 1) e m × Coded owns ws m f j
Coded owns ws i (times e f) j = (m : ℕ) × (item_of (slice_index ws i) ≡ Some (Apply Times)) × Coded owns ws (i + 1) e m × Coded owns ws m f j
Coded owns ws i (over e f) j = (m : ℕ) × (item_of (slice_index ws i) ≡ Some (Apply Over)) × Coded owns ws (i + 1) e m × Coded owns ws m f j
Coded owns ws i (rest_of e f) j = (m : ℕ) × (item_of (slice_index ws i) ≡ Some (Apply Rest)) × Coded owns ws (i + 1) e m × Coded owns ws m f j
Coded owns ws i (less e f) j = (m : ℕ) × (item_of (slice_index ws i) ≡ Some (Apply Less)) × Coded owns ws (i + 1) e m × Coded owns ws m f j
Coded owns ws i (same e f) j = (m : ℕ) × (item_of (slice_index ws i) ≡ Some (Apply Same)) × Coded owns ws (i + 1) e m × Coded owns ws m f j

-- What evaluating the words from place i on promises, where it stops at j: for every expression that stands there, the values for each
-- lane, and that the expression ends at j.
pub record Unpacked (ws : List ℕ) (i : ℕ) (r : Row) (out : List ℕ) (j : ℕ) : Type 0 where
  pub from : i ≤ j
  pub within : i ≤ length ws → j ≤ length ws
  pub stop : (e : Expr) (k : ℕ) → Coded r.owns ws i e k → j ≡ k
  pub each : (e : Expr) (k : ℕ) → Coded r.owns ws i e k → Values r e out

-- The words hold from place `from` on the expression that stands at byte i of the text; b says what is behind it in the text and in
-- the words.
pub record Packed (text : List ℕ) (i : ℕ) (ws : List ℕ) (from : ℕ) (b : Behind) : Type 0 where
  pub more : from < b.word
  pub inside : b.byte ≤ length text
  pub stop : (ns : List (List ℕ)) → NamesIn ns text → Distinct ns → (e : Expr) → (s : Stands (Named ns) text i e) → b.byte ≡ i + length s.spelling
  pub code : (ns : List (List ℕ)) → NamesIn ns text → Distinct ns → (owns : ℕ) → length ns ≤ owns → (e : Expr) → Stands (Named ns) text i e → Coded owns ws from e b.word
