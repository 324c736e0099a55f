-- When a program that runs a text ends well.
use Rattle.std.specs.Prelude.{ℕ, List, Ok, Err, Result}
use Rattle.calls.specs.declared.answer.Answer.{Answer}
use Rattle.calls.specs.declared.plan.Refused.{Refused}
use Rattle.calls.specs.Answers.{Slices, Tells}
use Rattle.show.specs.declared.slices.Slices as vectors
use Rattle.formats.specs.declared.told.Told.{Told}
use Rattle.formats.specs.declared.told.Told.TheVariants.{Field, Race, Wrong, Stuck, TooLong}

-- What the memory holds.
abbrev pub held : vectors.Slices → Slices
held m = record { steps = m.steps.items; lanes = m.lanes.items; cells = m.cells.items; touches = m.marks.items; printed = m.printed.items }

abbrev pub IsField : Told → Type 0
IsField Field = Unit {0}
IsField (Race p c a b) = ⊥
IsField (Wrong g l) = ⊥
IsField (Stuck g) = ⊥
IsField TooLong = ⊥

-- A field is told.
abbrev pub IsFieldTold : Result Answer Refused → Type 0
IsFieldTold (Ok a) = IsField a.told
IsFieldTold (Err e) = ⊥

-- Something was told of the text and the field, rightly, and it is a field.
pub record EndsWell (text bytes : List ℕ) : Type 0 where
  pub before : Slices
  pub after : Slices
  pub answer : Answer
  pub tells : Tells text bytes before after answer
  pub is_field : IsField answer.told
