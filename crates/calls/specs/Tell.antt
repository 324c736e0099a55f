-- What the machine's verdict is in print.
use Rattle.std.specs.Prelude.{◌≡◌, ℕ, suc, ◌⊎◌}
use Rattle.formats.specs.declared.told.Place.{Place}
use Rattle.formats.specs.declared.told.Place.TheVariants as place
use Rattle.formats.specs.declared.told.Touch.{Touch}
use Rattle.store.specs.declared.Whereabouts.{Whereabouts}
use Rattle.store.specs.declared.Whereabouts.TheVariants as at
use Rattle.store.specs.Layout.{numbered}
use Rattle.machine.specs.declared.outcome.Race.{Race}
use Rattle.machine.specs.declared.verdict.Verdict.{Verdict}
use Rattle.machine.specs.declared.verdict.Verdict.TheVariants.{Field, Raced, Wrong, Stuck, TooLong}
use Rattle.touches.specs.declared.Found.{Found}

abbrev pub touch_of_spec : Found → Touch
touch_of_spec f = record { group = f.who.group; lane = f.who.lane; phase = f.who.phase; wrote = f.wrote }

abbrev pub place_by : Whereabouts → Place
place_by at.Field = place.Field
place_by (at.Group g) = place.Cell

-- A race is on a cell of the field, or on a cell of the group of both lanes.
abbrev pub InOnePlace : Race → Type 0
InOnePlace r = (numbered r.place ≡ 0) ⊎ ((numbered r.place ≡ suc r.first.who.group) × (numbered r.place ≡ suc r.second.who.group))

abbrev pub OnePlace : Verdict → Type 0
OnePlace Field = Unit {0}
OnePlace (Raced r) = InOnePlace r
OnePlace (Wrong g l i) = Unit {0}
OnePlace (Stuck g) = Unit {0}
OnePlace TooLong = Unit {0}
