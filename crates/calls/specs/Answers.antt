-- What a call answers, and what the lent slices then hold.
use Rattle.std.specs.Prelude.{◌≡◌, ℕ, List, length, Ok, Err, Result}
use Rattle.std.specs.Borrow.{MutBor}
use Rattle.lanes.specs.Syntax.{Program}
use Rattle.grammar.specs.Taken.{Taken}
use Rattle.formats.specs.declared.sizes.Room.{Room}
use Rattle.formats.specs.Field.{cells_read}
use Rattle.formats.specs.Meaning.{meant}
use Rattle.formats.specs.Printed.{printed}
use Rattle.formats.specs.Wrote.{Wrote}
use Rattle.store.specs.Lent.{field_of}
use Rattle.calls.specs.declared.answer.Answer.{Answer}
use Rattle.calls.specs.declared.memory.Memory.{Memory}
use Rattle.calls.specs.declared.plan.Plan.{Plan}
use Rattle.calls.specs.declared.plan.Refused.{Refused}
use Rattle.calls.specs.Judge.{Judged}
use Rattle.calls.specs.Plan.{planned}

-- The five lent slices: steps, lanes, cells, touches, printed.
pub record Slices : Type 0 where
  pub steps : List ℕ
  pub lanes : List ℕ
  pub cells : List ℕ
  pub touches : List ℕ
  pub printed : List ℕ

-- What the lent slices hold.
abbrev pub slices_of : Memory → Slices
slices_of m = record { steps = m.steps.now; lanes = m.lanes.now; cells = m.cells.now; touches = m.marks.now; printed = m.printed.now }

-- It is the same slice that is lent, as long as it was.
pub record SameSlice (before after : MutBor (List ℕ)) : Type 0 where
  pub reference : after.ghost_name ≡ before.ghost_name
  pub size : length after.now ≡ length before.now

-- It is the same five slices that are lent.
pub record SameLent (before after : Memory) : Type 0 where
  pub steps : SameSlice before.steps after.steps
  pub lanes : SameSlice before.lanes after.lanes
  pub cells : SameSlice before.cells after.cells
  pub marks : SameSlice before.marks after.marks
  pub printed : SameSlice before.printed after.printed

abbrev pub room_of : Slices → Room
room_of s = record { steps = length s.steps; lanes = length s.lanes; cells = length s.cells; touches = length s.touches; printed = length s.printed }

-- Something is told: the text, the field and the slices are taken; of the program that the text is, what is told is right, with the field that the
-- cells then hold; and it is printed at the front of the last slice, behind which nothing changed.
pub record Tells (text bytes : List ℕ) (before after : Slices) (a : Answer) : Type 0 where
  pub plan : Plan
  pub taken : planned text bytes (room_of before) ≡ Ok plan
  pub judged : (ns : List (List ℕ)) (p : Program) → Taken ns p text →
      Judged plan.granted p plan.sizes.groups plan.sizes.lanes (cells_read bytes plan.sizes.field) (meant a.told (field_of plan.sizes after.cells))
  pub prints : Wrote before.printed after.printed 0 a.len (printed a.told (field_of plan.sizes after.cells))

-- Refused exactly so, and then nothing lent has changed; else something is told.
abbrev pub Answered : List ℕ → List ℕ → Slices → Slices → Result Answer Refused → Type 0
Answered text bytes before after (Err e) = (planned text bytes (room_of before) ≡ Err e) × (after ≡ before)
Answered text bytes before after (Ok a) = Tells text bytes before after a
