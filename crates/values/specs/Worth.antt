-- What is promised of the values of expressions.
use Rattle.std.specs.Prelude.{◌≡◌, ℕ, ◌%◌, ◌<◌, Bool, true, false, List, length}
use Rattle.lanes.specs.Syntax.{Expr, fixed, var, lane, group, lanes, plus, minus, times, over, rest_of, less, same}
use Rattle.lanes.specs.Step.{whole}
use Rattle.grammar.specs.Spelling.{Named, SpellsExpr}
use Rattle.grammar.specs.Names.{NamesIn, Distinct}
use Rattle.values.specs.declared.leaves.Leaf.{Leaf}
use Rattle.values.specs.declared.leaves.Leaf.TheVariants.{Fixed, Own, Lane, Group, Lanes}

-- The expression is one word.
abbrev pub simple : Expr → Bool
simple (fixed a) = true
simple (var k) = true
simple lane = true
simple group = true
simple lanes = true
simple (plus e f) = false
simple (minus e f) = false
simple (times e f) = false
simple (over e f) = false
simple (rest_of e f) = false
simple (less e f) = false
simple (same e f) = false

-- It is a number or a name.
abbrev pub plain : Expr → Bool
plain (fixed a) = true
plain (var k) = true
plain lane = false
plain group = false
plain lanes = false
plain (plus e f) = false
plain (minus e f) = false
plain (times e f) = false
plain (over e f) = false
plain (rest_of e f) = false
plain (less e f) = false
plain (same e f) = false

-- The leaf is this expression; a number modulo 2^32, an own number by its place, which is below `owns`.
abbrev pub LeafIs : ℕ → Leaf → Expr → Type 0
LeafIs owns (Fixed a) e = (b : ℕ) × (e ≡ fixed b) × (a ≡ b % whole)
LeafIs owns (Own k) e = (e ≡ var k) × (k < owns)
LeafIs owns Lane e = e ≡ lane
LeafIs owns Group e = e ≡ group
LeafIs owns Lanes e = e ≡ lanes

-- The leaf is what the word u of the text spells, if that is an expression of the kind f.
abbrev pub LeafAt : (Expr → Bool) → List ℕ → List ℕ → Leaf → Type 0
LeafAt f text u r = (ns : List (List ℕ)) → NamesIn ns text → Distinct ns → (e : Expr) → SpellsExpr (Named ns) e u → f e ≡ true → LeafIs (length ns) r e
