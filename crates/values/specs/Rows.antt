-- Values for a row of lanes.
use Rattle.std.specs.Prelude.{◌≡◌, ℕ, ◌+◌, ◌*◌, ◌<◌, ◌≤◌, List, length, slice_index}
use Rattle.lanes.specs.Syntax.{Expr}
use Rattle.lanes.specs.Step.{value}
use Rattle.grammar.specs.Spelling.{Named}
use Rattle.grammar.specs.Stands.{Stands}
use Rattle.grammar.specs.Names.{NamesIn, Distinct}
use Rattle.values.specs.declared.leaves.Leaf.{Leaf}
use Rattle.values.specs.declared.row.Row.{Row}
use Rattle.values.specs.Worth.{LeafIs}

-- v are the own numbers of the row's lane i.
abbrev pub Owned : Row → ℕ → List ℕ → Type 0
Owned r i v = (k : ℕ) → k < r.owns → slice_index v k ≡ slice_index r.own.now (r.base + k * r.stride + i)

-- Each of the numbers out is the value of the expression for its lane.
unfoldable pub Values : Row → Expr → List ℕ → Type 0
Values r e out =
    (i : ℕ) → i < length out → (v : List ℕ) → Owned r i v → slice_index out i ≡ value v (r.first + i) r.group r.lanes e

-- What a leaf is worth, for each lane.
abbrev pub LeafWorth : Leaf → Row → List ℕ → Type 0
LeafWorth leaf r out = (e : Expr) → LeafIs r.owns leaf e → Values r e out

-- What evaluating at byte i promises, where it stops at byte j: for every expression that stands there, the values for each lane, and
-- that the expression ends at j.
pub record Evaluated (text : List ℕ) (i : ℕ) (r : Row) (out : List ℕ) (j : ℕ) : Type 0 where
  pub from : i ≤ j
  pub within : i ≤ length text → j ≤ length text
  pub stop : (ns : List (List ℕ)) → NamesIn ns text → Distinct ns → length ns ≤ r.owns → (e : Expr) → (s : Stands (Named ns) text i e) → j ≡ i + length s.spelling
  pub each : (ns : List (List ℕ)) → NamesIn ns text → Distinct ns → length ns ≤ r.owns → (e : Expr) → Stands (Named ns) text i e → Values r e out
