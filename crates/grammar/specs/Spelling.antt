-- Which bytes spell which program. A text is lines that end with byte 10; words are parted by single spaces.
use Rattle.std.specs.Prelude.{◌≡◌, ℕ, ◌+◌, ◌-◌, ◌*◌, ◌<◌, ◌≤◌, Bool, true, false, ◌&&◌, ◌||◌, ◌≢◌, ◌⊎◌, List, [], ◌∷◌, ◌++◌, length, codes, ◌==◌, nat_le, slice_index, slice_index_or}
use Rattle.std.specs.List.{flat_map}
use Rattle.lanes.specs.Syntax.{Expr, fixed, var, lane, group, lanes, plus, minus, times, over, rest_of, less, same, Body, end, put, read_shared, write_shared, read_all, write_all, barrier, when, while, Program}

-- Bytes: a to z, 0 to 9, and either of them.
abbrev pub letter : ℕ → Bool
letter b = nat_le 97 b && nat_le b 122

abbrev pub digit : ℕ → Bool
digit b = nat_le 48 b && nat_le b 57

abbrev pub word_byte : ℕ → Bool
word_byte b = letter b || digit b

-- f holds of each byte.
unfoldable pub each_byte : (ℕ → Bool) → List ℕ → Bool
each_byte f [] = true
each_byte f (b ∷ bs) = f b && each_byte f bs

-- The same bytes.
unfoldable pub same_bytes : List ℕ → List ℕ → Bool
same_bytes [] [] = true
same_bytes [] (c ∷ cs) = false
same_bytes (b ∷ bs) [] = false
same_bytes (b ∷ bs) (c ∷ cs) = b == c && same_bytes bs cs

unfoldable pub one_of : List (List ℕ) → List ℕ → Bool
one_of [] u = false
one_of (w ∷ ws) u = same_bytes w u || one_of ws u

-- The words of the language, which are no names.
unfoldable pub keywords : List (List ℕ)
keywords =
    codes "own" ∷ codes "cells" ∷ codes "cell" ∷ codes "field" ∷ codes "barrier" ∷ codes "if" ∷ codes "else" ∷ codes "end" ∷ codes "while" ∷ codes "lane" ∷ codes "group" ∷ codes "lanes" ∷ []

-- A name: 1 to 8 letters and digits, a letter first, and no word of the language.
pub record IsName (u : List ℕ) : Type 0 where
  pub some : 1 ≤ length u
  pub begins : letter (slice_index u 0) ≡ true
  pub bytes : each_byte word_byte u ≡ true
  pub short : length u ≤ 8
  pub free : one_of keywords u ≡ false

-- The number that digits are, behind those that are a already.
unfoldable pub decimal : ℕ → List ℕ → ℕ
decimal a [] = a
decimal a (b ∷ bs) = decimal (a * 10 + (b - 48)) bs

-- Digits, one at least, that are the number a. Leading zeros are fine.
pub record IsNumber (a : ℕ) (u : List ℕ) : Type 0 where
  pub some : 1 ≤ length u
  pub bytes : each_byte digit u ≡ true
  pub value : decimal 0 u ≡ a

-- (u + v), with the operator's byte.
abbrev pub infix_of : List ℕ → ℕ → List ℕ → List ℕ
infix_of u op v = 40 ∷ (u ++ (32 ∷ op ∷ 32 ∷ (v ++ (41 ∷ []))))

-- N k u says that the bytes u may stand for own number k.
module _ (N : ℕ → List ℕ → Type 0) where
  -- The bytes t spell the expression.
  unfoldable pub SpellsExpr : Expr → List ℕ → Type 0
  SpellsExpr (fixed a) t = IsNumber a t
  SpellsExpr (var k) t = N k t
  SpellsExpr lane t = t ≡ codes "lane"
  SpellsExpr group t = t ≡ codes "group"
  SpellsExpr lanes t = t ≡ codes "lanes"
  SpellsExpr (plus e f) t = (u : List ℕ) × (v : List ℕ) × SpellsExpr e u × SpellsExpr f v × (t ≡ infix_of u 43 v)
  SpellsExpr (minus e f) t = (u : List ℕ) × (v : List ℕ) × SpellsExpr e u × SpellsExpr f v × (t ≡ infix_of u 45 v)
  SpellsExpr (times e f) t = (u : List ℕ) × (v : List ℕ) × SpellsExpr e u × SpellsExpr f v × (t ≡ infix_of u 42 v)
  SpellsExpr (over e f) t = (u : List ℕ) × (v : List ℕ) × SpellsExpr e u × SpellsExpr f v × (t ≡ infix_of u 47 v)
  SpellsExpr (rest_of e f) t = (u : List ℕ) × (v : List ℕ) × SpellsExpr e u × SpellsExpr f v × (t ≡ infix_of u 37 v)
  SpellsExpr (less e f) t = (u : List ℕ) × (v : List ℕ) × SpellsExpr e u × SpellsExpr f v × (t ≡ infix_of u 60 v)
  SpellsExpr (same e f) t = (u : List ℕ) × (v : List ℕ) × SpellsExpr e u × SpellsExpr f v × (t ≡ infix_of u 61 v)

  -- The bytes t, which are whole lines, spell the body. An else with nothing behind it may be left out.
  unfoldable pub SpellsBody : Body → List ℕ → Type 0
  SpellsBody end t = t ≡ []
  SpellsBody (put k e b) t =
      (a : List ℕ) × (u : List ℕ) × (z : List ℕ) × N k a × SpellsExpr e u × SpellsBody b z × (t ≡ a ++ (codes " = " ++ (u ++ (10 ∷ z))))
  SpellsBody (read_shared k e b) t =
      (a : List ℕ) × (u : List ℕ) × (z : List ℕ) × N k a × SpellsExpr e u × SpellsBody b z × (t ≡ a ++ (codes " = cell " ++ (u ++ (10 ∷ z))))
  SpellsBody (write_shared e f b) t =
      (u : List ℕ) × (v : List ℕ) × (z : List ℕ) × SpellsExpr e u × SpellsExpr f v × SpellsBody b z × (t ≡ codes "cell " ++ (u ++ (codes " = " ++ (v ++ (10 ∷ z)))))
  SpellsBody (read_all k e b) t =
      (a : List ℕ) × (u : List ℕ) × (z : List ℕ) × N k a × SpellsExpr e u × SpellsBody b z × (t ≡ a ++ (codes " = field " ++ (u ++ (10 ∷ z))))
  SpellsBody (write_all e f b) t =
      (u : List ℕ) × (v : List ℕ) × (z : List ℕ) × SpellsExpr e u × SpellsExpr f v × SpellsBody b z × (t ≡ codes "field " ++ (u ++ (codes " = " ++ (v ++ (10 ∷ z)))))
  SpellsBody (barrier b) t = (z : List ℕ) × SpellsBody b z × (t ≡ codes "barrier" ++ (10 ∷ z))
  SpellsBody (when e c d b) t =
      (u : List ℕ) × (x : List ℕ) × (y : List ℕ) × (z : List ℕ) × SpellsExpr e u × SpellsBody c x
      × (((d ≡ end) × (y ≡ [])) ⊎ ((w : List ℕ) × SpellsBody d w × (y ≡ codes "else" ++ (10 ∷ w)))) × SpellsBody b z
      × (t ≡ codes "if " ++ (u ++ (10 ∷ (x ++ (y ++ (codes "end" ++ (10 ∷ z)))))))
  SpellsBody (while e c b) t =
      (u : List ℕ) × (x : List ℕ) × (z : List ℕ) × SpellsExpr e u × SpellsBody c x × (c ≢ end) × SpellsBody b z
      × (t ≡ codes "while " ++ (u ++ (10 ∷ (x ++ (codes "end" ++ (10 ∷ z))))))

-- The line that names the own numbers, missing if there are none; and the one that says how many cells a group has, which may be missing if there are none.
abbrev pub OwnLine : List (List ℕ) → List ℕ → Type 0
OwnLine ns t = ((ns ≡ []) × (t ≡ [])) ⊎ ((ns ≢ []) × (t ≡ codes "own" ++ (flat_map (λ u. 32 ∷ u) ns ++ (10 ∷ []))))

abbrev pub CellsLine : ℕ → List ℕ → Type 0
CellsLine s t = ((s ≡ 0) × (t ≡ [])) ⊎ ((u : List ℕ) × IsNumber s u × (t ≡ codes "cells " ++ (u ++ (10 ∷ []))))

-- The text, with the own numbers named ns, spells the program; N says how own numbers may be written.
pub record Spelled (N : ℕ → List ℕ → Type 0) (ns : List (List ℕ)) (p : Program) (text : List ℕ) : Type 0 where
  pub own_part : List ℕ
  pub cells_part : List ℕ
  pub body_part : List ℕ
  pub whole : text ≡ own_part ++ (cells_part ++ body_part)
  pub owned : p.owns ≡ length ns
  pub own_line : OwnLine ns own_part
  pub cells_line : CellsLine p.shared cells_part
  pub names : (k : ℕ) → k < length ns → IsName (slice_index_or ns k [])
  pub body : SpellsBody N p.body body_part

-- Any name may stand for any own number: the shape of a text alone. With it, the beginning of a text can go on.
abbrev pub AnyName : ℕ → List ℕ → Type 0
AnyName k u = IsName u

pub record Viable (beginning : List ℕ) : Type 0 where
  pub rest : List ℕ
  pub program : Program
  pub names : List (List ℕ)
  pub shape : Spelled AnyName names program (beginning ++ rest)

-- The name of own number k, of those that are named.
abbrev pub Named : List (List ℕ) → ℕ → List ℕ → Type 0
Named ns k u = (k < length ns) × (u ≡ slice_index_or ns k [])
