-- What the printed words mean: what is told, as the language's meaning has it.
use Rattle.std.specs.Prelude.{ℕ, suc, Bool, cond, ◌&&◌, ◌||◌, List, ◌==◌, nat_lt}
use Rattle.lanes.specs.Grid.{Mark}
use Rattle.lanes.specs.Told as meaning
use Rattle.formats.specs.declared.told.Place.{Place}
use Rattle.formats.specs.declared.told.Place.TheVariants as place
use Rattle.formats.specs.declared.told.Touch.{Touch}
use Rattle.formats.specs.declared.told.Told.{Told}
use Rattle.formats.specs.declared.told.Told.TheVariants.{Field, Race, Wrong, Stuck, TooLong}

-- The field has number 0 among the places of cells, the cells of group g have number g + 1.
abbrev pub place_number : Place → ℕ → ℕ
place_number place.Field group = 0
place_number place.Cell group = suc group

abbrev pub mark_of : Place → ℕ → Touch → Mark
mark_of place cell t =
    record {
      by_group = t.group;
      by_lane = t.lane;
      phase = t.phase;
      touch = record { where_is = place_number place t.group; cell = cell; wrote = t.wrote };
    }

-- What is told, with the cells of the field.
abbrev pub meant : Told → List ℕ → meaning.Told
meant Field cs = meaning.cells cs
meant (Race place cell first second) cs = meaning.races (mark_of place cell first) (mark_of place cell second)
meant (Wrong group lane) cs = meaning.missing group lane
meant (Stuck group) cs = meaning.stuck group
meant TooLong cs = meaning.too_long

-- The touch of b is told before that of a.
abbrev pub goes_first : (b a : Touch) → Bool
goes_first b a = nat_lt b.group a.group || (b.group == a.group && nat_lt b.lane a.lane)

-- A race of two touches in the order in which they are told.
abbrev pub in_order : Place → ℕ → Touch → Touch → Told
in_order place cell a b = cond (goes_first b a) (Race place cell b a) (Race place cell a b)
