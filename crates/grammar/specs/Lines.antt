-- Which line stands at a byte of a text.
use Rattle.std.specs.Prelude.{◌≡◌, ℕ, ◌+◌, true, false, List, ◌∷◌, ◌++◌, length, drop, codes}
use Rattle.lanes.specs.Syntax.{Expr}
use Rattle.lanes.specs.Told.{ExprFits}
use Rattle.grammar.specs.Spelling.{SpellsExpr}
use Rattle.grammar.specs.declared.lines.Line.{Line}
use Rattle.grammar.specs.declared.lines.Line.TheVariants.{Put, Read, Write, Barrier, If, Else, End, While}

-- N k u says that the bytes u may stand for own number k; there are o of them.
module _ (N : ℕ → List ℕ → Type 0) (o : ℕ) (text : List ℕ) where
  -- The bytes u spell an expression whose numbers are below 2^32.
  abbrev pub SomeExpr : List ℕ → Type 0
  SomeExpr u = (e : Expr) × SpellsExpr N e u × ExprFits o e

  -- From byte i on stands the line, with its expressions at these bytes, and then, from byte n on, the rest z.
  unfoldable pub LineHere : ℕ → Line → ℕ → Type 0
  LineHere i (Put k x) n =
      (a : List ℕ) × (u : List ℕ) × (z : List ℕ) × N k a × SomeExpr u × (x ≡ i + (length a + 3)) × (n ≡ x + (length u + 1)) × (drop i text ≡ a ++ (codes " = " ++ (u ++ (10 ∷ z))))
  LineHere i (Read false k x) n =
      (a : List ℕ) × (u : List ℕ) × (z : List ℕ) × N k a × SomeExpr u × (x ≡ i + (length a + 8)) × (n ≡ x + (length u + 1)) × (drop i text ≡ a ++ (codes " = cell " ++ (u ++ (10 ∷ z))))
  LineHere i (Read true k x) n =
      (a : List ℕ) × (u : List ℕ) × (z : List ℕ) × N k a × SomeExpr u × (x ≡ i + (length a + 9)) × (n ≡ x + (length u + 1)) × (drop i text ≡ a ++ (codes " = field " ++ (u ++ (10 ∷ z))))
  LineHere i (Write false p v) n =
      (u : List ℕ) × (w : List ℕ) × (z : List ℕ) × SomeExpr u × SomeExpr w × (p ≡ i + 5) × (v ≡ p + (length u + 3)) × (n ≡ v + (length w + 1))
      × (drop i text ≡ codes "cell " ++ (u ++ (codes " = " ++ (w ++ (10 ∷ z)))))
  LineHere i (Write true p v) n =
      (u : List ℕ) × (w : List ℕ) × (z : List ℕ) × SomeExpr u × SomeExpr w × (p ≡ i + 6) × (v ≡ p + (length u + 3)) × (n ≡ v + (length w + 1))
      × (drop i text ≡ codes "field " ++ (u ++ (codes " = " ++ (w ++ (10 ∷ z)))))
  LineHere i Barrier n = (z : List ℕ) × (n ≡ i + 8) × (drop i text ≡ codes "barrier" ++ (10 ∷ z))
  LineHere i (If x) n = (u : List ℕ) × (z : List ℕ) × SomeExpr u × (x ≡ i + 3) × (n ≡ x + (length u + 1)) × (drop i text ≡ codes "if " ++ (u ++ (10 ∷ z)))
  LineHere i Else n = (z : List ℕ) × (n ≡ i + 5) × (drop i text ≡ codes "else" ++ (10 ∷ z))
  LineHere i End n = (z : List ℕ) × (n ≡ i + 4) × (drop i text ≡ codes "end" ++ (10 ∷ z))
  LineHere i (While x) n = (u : List ℕ) × (z : List ℕ) × SomeExpr u × (x ≡ i + 6) × (n ≡ x + (length u + 1)) × (drop i text ≡ codes "while " ++ (u ++ (10 ∷ z)))
