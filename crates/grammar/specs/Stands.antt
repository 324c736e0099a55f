-- Where an expression stands in a text.
use Rattle.std.specs.Prelude.{◌≡◌, ℕ, false, List, ◌++◌, drop, slice_index}
use Rattle.lanes.specs.Syntax.{Expr}
use Rattle.grammar.specs.Spelling.{word_byte, SpellsExpr}

-- A word that stands before z ends there: z is empty, or its first byte is no letter and no digit.
-- (Where z is empty, get_or gives 0, which is neither.)
abbrev pub Apart : List ℕ → Type 0
Apart z = word_byte (slice_index z 0) ≡ false

-- From byte i on the text spells the expression, and then goes on with something that is apart from it.
-- N k u says that the bytes u may stand for own number k.
pub record Stands (N : ℕ → List ℕ → Type 0) (text : List ℕ) (i : ℕ) (e : Expr) : Type 0 where
  pub spelling : List ℕ
  pub behind : List ℕ
  pub spells : SpellsExpr N e spelling
  pub here : drop i text ≡ spelling ++ behind
  pub apart : Apart behind
