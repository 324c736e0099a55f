-- Lent memory by size.
use Rattle.std.specs.Prelude.{◌+◌, ◌*◌, ◌≤◌, cond, Ok, Err, Result, nat_lt}
use Rattle.formats.specs.declared.refusal.Refusal.{Refusal}
use Rattle.formats.specs.declared.refusal.Refusal.TheVariants.{Short}
use Rattle.formats.specs.declared.refusal.Lent.TheVariants.{Steps, Lanes, Cells, Touches, Printed}
use Rattle.formats.specs.declared.sizes.Shape.{Shape}
use Rattle.formats.specs.declared.sizes.Room.{Room}

-- What a text and a field in range can ask for.
pub record InBounds (s : Shape) : Type 0 where
  pub lines_few : s.lines ≤ 1024
  pub groups_few : s.groups ≤ 1024
  pub lanes_few : s.lanes ≤ 1024
  pub owns_few : s.owns ≤ 64
  pub shared_few : s.shared ≤ 16384
  pub field_few : s.field ≤ 16777216

-- Steps: 16 words for each line. Lanes: 128 words and one for each own number, for each lane of each group. Cells: one word for each cell of
-- each group and of the field. Touches: 6 words for each of these cells. Printed: ten bytes for each cell of the field, and 256.
abbrev pub wanted_for : Shape → Room
wanted_for s =
    record {
      steps = 16 * s.lines;
      lanes = s.groups * s.lanes * (128 + s.owns);
      cells = s.groups * s.shared + s.field;
      touches = 6 * (s.groups * s.shared + s.field);
      printed = 10 * s.field + 256;
    }

-- So long they get at most, and no sum or product on the way is larger.
pub record Bounded (r : Room) : Type 0 where
  pub steps_few : r.steps ≤ 16384
  pub lanes_few : r.lanes ≤ 201326592
  pub cells_few : r.cells ≤ 33554432
  pub touches_few : r.touches ≤ 201326592
  pub printed_few : r.printed ≤ 167772416

-- The first slice that is too short.
abbrev pub check_as : (wanted lent : Room) → Result (Unit {0}) Refusal
check_as wanted lent =
    cond (nat_lt lent.steps wanted.steps) (Err (Short Steps))
    (cond (nat_lt lent.lanes wanted.lanes) (Err (Short Lanes))
    (cond (nat_lt lent.cells wanted.cells) (Err (Short Cells))
    (cond (nat_lt lent.touches wanted.touches) (Err (Short Touches))
    (cond (nat_lt lent.printed wanted.printed) (Err (Short Printed)) (Ok tt)))))
