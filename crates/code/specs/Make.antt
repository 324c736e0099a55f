-- How a text that was taken is made into steps.
use Rattle.std.specs.Prelude.{◌≡◌, ℕ, suc, ◌+◌, ◌*◌, ◌<◌, ◌≤◌, Bool, true, false, cond, ◌⊎◌, List, [], ◌∷◌, ◌++◌, length, drop, Some, None, codes, Option, ◌≢◌, slice_index}
use Rattle.lanes.specs.Syntax.{Body, Expr, Program, end, when, while}
use Rattle.grammar.specs.Spelling.{Named, SpellsBody, each_byte}
use Rattle.grammar.specs.Stands.{Stands, Apart}
use Rattle.grammar.specs.Names.{NamesIn, Distinct}
use Rattle.grammar.specs.Taken.{depth, lines_in}
use Rattle.code.specs.declared.step.Step.{Step}
use Rattle.code.specs.declared.step.Step.TheVariants.{Put as SPut, Read as SRead, Write as SWrite, Branch as SBranch, Jump as SJump, Barrier as SBarrier, End as SEnd}
use Rattle.code.specs.declared.scan.Line.{Line}
use Rattle.code.specs.declared.scan.Line.TheVariants.{Heading, Put, Read, Write, Wait, Test, Loop, Otherwise, Close}
use Rattle.code.specs.declared.compile.Place.{Place}
use Rattle.code.specs.Lines.{lines_of, else_lines_spec, left_at}
use Rattle.code.specs.Words.{step_at, text_line_spec}
use Rattle.code.specs.Joins.{Nested, Regions}
use Rattle.code.specs.Settle.{is_jump}
use Rattle.code.specs.Scan.{in_line}
use Rattle.code.specs.Code.{Codes, Coded}

-- The step at entry i of the words.
abbrev pub entry_at : List ℕ → ℕ → Step
entry_at words i = step_at words (suc i) i

-- Nothing is changed but entries o up to e.
pub record Kept (words after : List ℕ) (o e : ℕ) : Type 0 where
  pub long : length after ≡ length words
  pub same : (k : ℕ) → (k < o * 16) ⊎ (e * 16 ≤ k) → slice_index after k ≡ slice_index words k

-- Entries o up to e are the same.
unfoldable pub SameEntries : List ℕ → List ℕ → ℕ → ℕ → Type 0
SameEntries words after o e = (i : ℕ) → o ≤ i → i < e → entry_at after i ≡ entry_at words i

-- There is no line, or it is none of a body's: what stands before it is a whole body.
abbrev pub stopping : Option Line → Bool
stopping None = true
stopping (Some Heading) = true
stopping (Some (Put k x)) = false
stopping (Some (Read f k x)) = false
stopping (Some (Write f x y)) = false
stopping (Some Wait) = false
stopping (Some (Test x)) = false
stopping (Some (Loop x)) = false
stopping (Some Otherwise) = true
stopping (Some Close) = true

-- The step of a line that is no branch, with the next entry.
abbrev pub plain_step : Line → ℕ → Step
plain_step Heading n = SEnd
plain_step (Put k x) n = SPut k x n
plain_step (Read f k x) n = SRead f k x n
plain_step (Write f x y) n = SWrite f x y n
plain_step Wait n = SBarrier n
plain_step (Test x) n = SEnd
plain_step (Loop x) n = SEnd
plain_step Otherwise n = SEnd
plain_step Close n = SEnd

-- From byte i on the text has the lines of the body b, and then z.
pub record Lies (ns : List (List ℕ)) (text : List ℕ) (i : ℕ) (b : Body) (z : List ℕ) : Type 0 where
  pub spelt : List ℕ
  pub spells : SpellsBody (Named ns) b spelt
  pub here : drop i text ≡ spelt ++ z

-- What is behind the lines of a body: nothing, an else or an end.
pub data Halts (z : List ℕ) : Type 0 where
  no_more : z ≡ [] → Halts z
  at_else : (w : List ℕ) → z ≡ codes "else" ++ (10 ∷ w) → Halts z
  at_end : (w : List ℕ) → z ≡ codes "end" ++ (10 ∷ w) → Halts z

-- The text names the own numbers, each once.
pub record Names (ns : List (List ℕ)) (text : List ℕ) : Type 0 where
  pub there : NamesIn ns text
  pub distinct : Distinct ns

-- At byte i stands the body b, which is to be made into entries from o on, with room for it.
pub record Given (ns : List (List ℕ)) (text : List ℕ) (i : ℕ) (b : Body) (z : List ℕ) (o fuel room : ℕ) : Type 0 where
  pub names : Names ns text
  pub lies : Lies ns text i b z
  pub halts : Halts z
  pub shallow : depth b ≤ fuel
  pub room_for : o + lines_of b ≤ room

-- The words have the whole body; p is behind it.
pub record Done (ns : List (List ℕ)) (text after z : List ℕ) (o : ℕ) (b : Body) (p : Place) : Type 0 where
  pub there : drop p.at text ≡ z
  pub count : p.entry ≡ o + lines_of b
  pub stands : Codes (Named ns) text (length ns) (entry_at after) o b

-- The words have the first lines of the body; p is behind them, where the rest of it stands.
pub record Part (ns : List (List ℕ)) (text words z : List ℕ) (o : ℕ) (b : Body) (fuel : ℕ) (p : Place) : Type 0 where
  pub rest : Body
  pub lies : Lies ns text p.at rest z
  pub shallow : depth rest ≤ fuel
  pub count : p.entry + lines_of rest ≡ o + lines_of b
  pub stands : (after : List ℕ) → SameEntries words after o p.entry → Codes (Named ns) text (length ns) (entry_at after) p.entry rest → Codes (Named ns) text (length ns) (entry_at after) o b

-- The place of the next line: behind the next byte 10.
unfoldable pub NextLine : List ℕ → ℕ → ℕ → Type 0
NextLine text i n = (u z : List ℕ) → drop i text ≡ u ++ (10 ∷ z) → each_byte in_line u ≡ true → drop n text ≡ z

pub record After (text : List ℕ) (p q : Place) : Type 0 where
  pub next : NextLine text p.at q.at
  pub within : q.at ≤ length text
  pub entry : q.entry ≡ suc p.entry
  pub line : p.line < 4294967295 → q.line ≡ suc p.line

-- What holds of the place p that was come to from the place q, whatever the text.
pub record Moved (text words after : List ℕ) (room : ℕ) (q p : Place) : Type 0 where
  pub within : p.at ≤ length text
  pub up : q.entry ≤ p.entry
  pub fits : p.entry ≤ room
  pub kept : Kept words after q.entry p.entry

-- All lines of a body were made into entries.
pub record LinesMade (text words after : List ℕ) (fuel room : ℕ) (q p : Place) : Type 0 where
  pub moved : Moved text words after room q p
  pub done : (ns : List (List ℕ)) (b : Body) (z : List ℕ) → Given ns text q.at b z q.entry fuel room → Done ns text after z q.entry b p

-- One line of a body, with what stands in it. Its entry names it.
pub record LineMade (text words after : List ℕ) (fuel room : ℕ) (q p : Place) : Type 0 where
  pub moved : Moved text words after room q p
  pub line : text_line_spec after q.entry ≡ q.line
  pub further : q.entry < p.entry
  pub part : (ns : List (List ℕ)) (b : Body) (z : List ℕ) → Given ns text q.at b z q.entry fuel room → Part ns text after z q.entry b fuel p

-- The body begins with an if or a while whose expression stands at byte x.
abbrev pub Branches : List (List ℕ) → List ℕ → ℕ → Bool → Body → Type 0
Branches ns text x false b = (e : Expr) × (c : Body) × (d : Body) × (rest : Body) × (b ≡ when e c d rest) × Stands (Named ns) text x e
Branches ns text x true b = (e : Expr) × (c : Body) × (rest : Body) × (b ≡ while e c rest) × Stands (Named ns) text x e

-- Such a line, with what stands in it.
pub record BranchMade (text words after : List ℕ) (fuel room x : ℕ) (looped : Bool) (q p : Place) : Type 0 where
  pub moved : Moved text words after room q p
  pub line : text_line_spec after q.entry ≡ q.line
  pub further : q.entry < p.entry
  pub part : (ns : List (List ℕ)) (b : Body) (z : List ℕ) → Given ns text q.at b z q.entry fuel room → Branches ns text x looped b → Part ns text after z q.entry b fuel p

-- The lines of an else, or nothing if there is none.
pub data ElseLies (ns : List (List ℕ)) (y : List ℕ) (d : Body) : Type 0 where
  none : d ≡ end → y ≡ [] → ElseLies ns y d
  some : (w : List ℕ) → SpellsBody (Named ns) d w → y ≡ codes "else" ++ (10 ∷ w) → ElseLies ns y d

-- At byte i, behind the first lines of an if, stands its else or its end, which is entry o.
pub record ElseGiven (ns : List (List ℕ)) (text : List ℕ) (i : ℕ) (d : Body) (z : List ℕ) (o fuel room : ℕ) : Type 0 where
  pub names : Names ns text
  pub lines : List ℕ
  pub is : ElseLies ns lines d
  pub here : drop i text ≡ lines ++ (codes "end" ++ (10 ∷ z))
  pub shallow : depth d ≤ fuel
  pub room_for : suc o + else_lines_spec d ≤ room

-- The words have the second lines of an if; p is at its end, and q is where its else may stand.
pub record ElseMade (text words after : List ℕ) (fuel room : ℕ) (q p : Place) : Type 0 where
  pub within : p.at ≤ length text
  pub up : q.entry ≤ p.entry
  pub fits : p.entry ≤ room
  pub kept : Kept words after (suc q.entry) (suc p.entry)
  pub done : (ns : List (List ℕ)) (d : Body) (z : List ℕ) → ElseGiven ns text q.at d z q.entry fuel room →
      (drop p.at text ≡ codes "end" ++ (10 ∷ z)) × (p.entry ≡ q.entry + else_lines_spec d) × Codes (Named ns) text (length ns) (entry_at after) (suc q.entry) d

-- The entries of a branch at p were written, with the jumps behind its first and behind its last lines. Each names the line of the text that it comes from.
pub record Closed (words after : List ℕ) (p first last : Place) (x : ℕ) (looped : Bool) : Type 0 where
  pub branch : entry_at after p.entry ≡ SBranch x (suc p.entry) (suc first.entry) (suc last.entry) looped
  pub first_jump : entry_at after first.entry ≡ SJump (cond looped p.entry (suc last.entry))
  pub last_jump : entry_at after last.entry ≡ SJump (cond looped p.entry (suc last.entry))
  pub others : (i : ℕ) → (i ≢ p.entry) → (i ≢ first.entry) → (i ≢ last.entry) → entry_at after i ≡ entry_at words i
  pub branch_line : text_line_spec after p.entry ≡ p.line
  pub first_line : (first.entry ≢ last.entry) → text_line_spec after first.entry ≡ first.line
  pub last_line : text_line_spec after last.entry ≡ last.line
  pub kept : Kept words after p.entry (suc last.entry)

-- Lines before the body are gone by; a body is not.
pub record Skipped (text : List ℕ) (p r : Place) : Type 0 where
  pub within : r.at ≤ length text
  pub entry : r.entry ≡ p.entry
  pub line : (r ≡ p) ⊎ (p.line < 4294967295 → r.line ≡ suc p.line)
  pub own_line : (u z : List ℕ) → drop p.at text ≡ codes "own" ++ (u ++ (10 ∷ z)) → Apart (u ++ (10 ∷ z)) → each_byte in_line u ≡ true → drop r.at text ≡ z
  pub cells_line : (u z : List ℕ) → drop p.at text ≡ codes "cells" ++ (u ++ (10 ∷ z)) → Apart (u ++ (10 ∷ z)) → each_byte in_line u ≡ true → drop r.at text ≡ z
  pub stays : (ns : List (List ℕ)) (b : Body) (z : List ℕ) → Names ns text → Lies ns text p.at b z → Halts z → r ≡ p

-- The text was made into r entries, which stand for the program's body; so they do at each entry what is left there,
-- and what stands in an if or a while stays in it until its join. Words behind them are as they were.
pub record Compiled (ns : List (List ℕ)) (p : Program) (text words after : List ℕ) (r : ℕ) : Type 0 where
  pub lines : r ≡ lines_of p.body
  pub few : r ≤ lines_in text
  pub stands : Codes (Named ns) text (length ns) (step_at after r) 0 p.body
  pub coded : Coded (Named ns) text (length ns) r (left_at p.body) (step_at after r)
  pub nested : Nested (step_at after r) r
  pub behind : (k : ℕ) → r * 16 ≤ k → slice_index after k ≡ slice_index words k

-- Of such entries: branches have their joins (Regions), and the first is no jump.
pub record Joining (after : List ℕ) (r : ℕ) : Type 0 where
  pub regions : Regions (step_at after r) r
  pub starts : is_jump (step_at after r 0) ≡ false
