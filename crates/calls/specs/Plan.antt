-- A text, a field's bytes and lent slices are taken together, or refused: the text before the field, and the field before slices that are too short.
use Rattle.std.specs.Prelude.{◌≡◌, ℕ, ◌+◌, ◌*◌, ◌≤◌, List, ◌++◌, Ok, Err, Result, codes, decimal}
use Rattle.grammar.specs.Refusals as text
use Rattle.grammar.specs.declared.refusals.Refusal as texts
use Rattle.reader.specs.declared.texts.Shape.{Shape}
use Rattle.reader.specs.Texts.{ReadAs, read_at}
use Rattle.formats.specs.Field.{IsField, read_as}
use Rattle.formats.specs.Refused as rest
use Rattle.formats.specs.Sizes.{wanted_for, check_as}
use Rattle.formats.specs.declared.field.Header.{Header}
use Rattle.formats.specs.declared.refusal.Refusal as fields
use Rattle.formats.specs.declared.sizes.Room.{Room}
use Rattle.formats.specs.declared.sizes.Shape as sizes
use Rattle.store.specs.Layout.{cells_room}
use Rattle.calls.specs.declared.plan.Asked.{Asked}
use Rattle.calls.specs.declared.plan.Plan.{Plan}
use Rattle.calls.specs.declared.plan.Refused.{Refused}
use Rattle.calls.specs.declared.plan.Refused.TheVariants.{Text, Rest}

-- The number and the place that are printed: 1 to 4 of the text, 5 of the field's bytes, 6 of the lent slices.
abbrev pub refused_number : Refused → ℕ
refused_number (Text e) = text.number_of e
refused_number (Rest e) = rest.number_of e

abbrev pub refused_place : Refused → ℕ
refused_place (Text e) = text.place_of e
refused_place (Rest e) = rest.place_of e

-- What a person reads of a refusal: its printed line, without the byte 10 at its end.
abbrev pub refused_words : Refused → List ℕ
refused_words r = (codes "refused " ++ decimal (refused_number r)) ++ (codes " at " ++ decimal (refused_place r))

-- What the text and the field ask for.
abbrev pub asked : Shape → Header → sizes.Shape
asked s h = record { lines = s.lines; groups = h.groups; lanes = h.lanes; owns = s.owns; shared = s.cells; field = h.cells }

-- That, and the steps that are granted; or why the text or the field is refused.
abbrev pub asked_of : Shape → Header → Asked
asked_of s h = record { shape = asked s h; granted = h.steps }

abbrev pub asked_by : Result Shape texts.Refusal → Result Header fields.Refusal → Result Asked Refused
asked_by (Err e) f = Err (Text e)
asked_by (Ok s) (Err e) = Err (Rest e)
asked_by (Ok s) (Ok h) = Ok (asked_of s h)

-- What is known of what is asked for.
pub record Asks (text bytes : List ℕ) (a : Asked) : Type 0 where
  pub shape : Shape
  pub header : Header
  pub read : ReadAs text shape
  pub field : IsField bytes header
  pub asked : a ≡ asked_of shape header

abbrev pub plan_of_spec : Shape → Header → Plan
plan_of_spec s h = record { sizes = record { groups = h.groups; lanes = h.lanes; owns = s.owns; shared = s.cells; field = h.cells }; granted = h.steps }

abbrev pub checked : Result (Unit {0}) fields.Refusal → Plan → Result Plan Refused
checked (Ok u) p = Ok p
checked (Err e) p = Err (Rest e)

abbrev pub prepared : Result Shape texts.Refusal → Result Header fields.Refusal → Room → Result Plan Refused
prepared (Err e) f room = Err (Text e)
prepared (Ok s) (Err e) room = Err (Rest e)
prepared (Ok s) (Ok h) room = checked (check_as (wanted_for (asked s h)) room) (plan_of_spec s h)

-- What is taken, or why it is refused, of a text, a field's bytes, and slices of these lengths.
unfoldable pub planned : List ℕ → List ℕ → Room → Result Plan Refused
planned text bytes room = prepared (read_at text) (read_as bytes) room

-- How long the lent slices have to be, or why the text or the field is refused.
abbrev pub wanted_by : Result Shape texts.Refusal → Result Header fields.Refusal → Result Room Refused
wanted_by (Err e) f = Err (Text e)
wanted_by (Ok s) (Err e) = Err (Rest e)
wanted_by (Ok s) (Ok h) = Ok (wanted_for (asked s h))

unfoldable pub wanted_as : List ℕ → List ℕ → Result Room Refused
wanted_as text bytes = wanted_by (read_at text) (read_as bytes)

-- What is known of a plan: the text and the field are so, and the slices long enough.
pub record Plans (text bytes : List ℕ) (room : Room) (p : Plan) : Type 0 where
  pub shape : Shape
  pub header : Header
  pub read : ReadAs text shape
  pub field : IsField bytes header
  pub plan : p ≡ plan_of_spec shape header
  pub steps_fit : 16 * shape.lines ≤ room.steps
  pub lanes_fit : header.groups * header.lanes * (128 + shape.owns) ≤ room.lanes
  pub cells_fit : cells_room p.sizes ≤ room.cells
  pub touches_fit : 6 * cells_room p.sizes ≤ room.touches
  pub printed_fit : 10 * header.cells + 256 ≤ room.printed
