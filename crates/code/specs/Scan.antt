-- What one line of a text says: its first word decides, then where its expressions stand.
use Rattle.std.specs.Prelude.{◌≡◌, ℕ, suc, ◌+◌, ◌-◌, ◌<◌, ◌≤◌, Bool, true, false, cond, not, List, [], ◌∷◌, length, drop, Some, None, Option, IsSomeAnd, MatchOption, ◌==◌, ◌≢◌, nat_le, slice_index_or}
use Rattle.std.specs.List.{between}
use Rattle.lanes.specs.Syntax.{Expr}
use Rattle.grammar.specs.declared.keywords.Keyword.{Keyword}
use Rattle.grammar.specs.declared.keywords.Keyword.TheVariants.{Own, Cells, Cell, Field, Barrier, If, Else, End, While, Lane, Group, Lanes}
use Rattle.grammar.specs.Spelling.{IsName, Named}
use Rattle.grammar.specs.Stands.{Stands}
use Rattle.grammar.specs.Words.{WordEnd}
use Rattle.grammar.specs.Names.{NamesIn, PlaceOf}
use Rattle.grammar.specs.Runs.{written}
use Rattle.code.specs.declared.scan.Line.{Line}
use Rattle.code.specs.declared.scan.Line.TheVariants.{Heading, Put, Read, Write, Wait, Test, Loop, Otherwise, Close}

-- A byte that does not end a line.
abbrev pub in_line : ℕ → Bool
in_line b = not (b == 10)

-- How many bytes it is to the bracket that closes those that are open, d of them before, or to the end.
unfoldable pub closing : ℕ → List ℕ → ℕ
closing d [] = 0
closing d (b ∷ bs) =
    cond (b == 40) (suc (closing (suc d) bs)) (cond (b == 41) (cond (nat_le d 1) 1 (suc (closing (d - 1) bs))) (suc (closing d bs)))

-- The expression that stands at byte x ends before byte y.
unfoldable pub EndsAt : List ℕ → ℕ → ℕ → Type 0
EndsAt text x y =
    (ns : List (List ℕ)) (e : Expr) → ((k : ℕ) → k < length ns → IsName (slice_index_or ns k [])) → (s : Stands (Named ns) text x e) → drop y text ≡ s.behind

-- The word of the language that the bytes are, if they are one.
abbrev pub WordIs : Option Keyword → List ℕ → Type 0
WordIs w u = MatchOption w ((k : Keyword) → u ≢ written k) (λ k. u ≡ written k)

-- Behind `a = `, at byte x, stands a word that ends at byte e: a cell is read, or an expression stands there.
abbrev pub value_line : ℕ → ℕ → ℕ → Option Keyword → Line
value_line k x e None = Put k x
value_line k x e (Some Own) = Put k x
value_line k x e (Some Cells) = Put k x
value_line k x e (Some Cell) = Read false k (e + 1)
value_line k x e (Some Field) = Read true k (e + 1)
value_line k x e (Some Barrier) = Put k x
value_line k x e (Some If) = Put k x
value_line k x e (Some Else) = Put k x
value_line k x e (Some End) = Put k x
value_line k x e (Some While) = Put k x
value_line k x e (Some Lane) = Put k x
value_line k x e (Some Group) = Put k x
value_line k x e (Some Lanes) = Put k x

pub record ValueScan (text : List ℕ) (k x : ℕ) (r : Line) : Type 0 where
  pub stop : ℕ
  pub ends : WordEnd text x stop
  pub word : Option Keyword
  pub is_word : WordIs word (between x stop text)
  pub is : r ≡ value_line k x stop word

abbrev pub NamedBy : List ℕ → ℕ → Option ℕ → Option Line → Type 0
NamedBy text e None r = r ≡ None
NamedBy text e (Some k) r = e + 3 ≤ length text → IsSomeAnd r (ValueScan text k (e + 3))

-- A line that begins with a name, which ends at byte e.
pub record NamedScan (text : List ℕ) (at e : ℕ) (r : Option Line) : Type 0 where
  pub own : Option ℕ
  pub is_own : (ns : List (List ℕ)) → NamesIn ns text → PlaceOf ns (between at e text) own
  pub by : NamedBy text e own r

-- A line that writes a cell, whose place stands at byte x.
abbrev pub WriteScan : List ℕ → Bool → ℕ → Option Line → Type 0
WriteScan text f x r = x ≤ length text → (y : ℕ) × EndsAt text x y × (r ≡ Some (Write f x (y + 3)))

abbrev pub ScanBy : List ℕ → ℕ → ℕ → Option Keyword → Option Line → Type 0
ScanBy text at e None r = NamedScan text at e r
ScanBy text at e (Some Own) r = r ≡ Some Heading
ScanBy text at e (Some Cells) r = r ≡ Some Heading
ScanBy text at e (Some Cell) r = WriteScan text false (e + 1) r
ScanBy text at e (Some Field) r = WriteScan text true (e + 1) r
ScanBy text at e (Some Barrier) r = r ≡ Some Wait
ScanBy text at e (Some If) r = r ≡ Some (Test (e + 1))
ScanBy text at e (Some Else) r = r ≡ Some Otherwise
ScanBy text at e (Some End) r = r ≡ Some Close
ScanBy text at e (Some While) r = r ≡ Some (Loop (e + 1))
ScanBy text at e (Some Lane) r = r ≡ None
ScanBy text at e (Some Group) r = r ≡ None
ScanBy text at e (Some Lanes) r = r ≡ None

-- The line that begins at byte `at`, if one does.
pub record Scan (text : List ℕ) (at : ℕ) (r : Option Line) : Type 0 where
  pub stop : ℕ
  pub ends : WordEnd text at stop
  pub word : Option Keyword
  pub is_word : WordIs word (between at stop text)
  pub by : ScanBy text at stop word r
