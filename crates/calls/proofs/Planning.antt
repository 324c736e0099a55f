-- What is taken and what is refused, step by step.
use Rattle.std.proofs.Common.{◌≡◌, ℕ, ◌≤◌, List, Ok, Err, Result, refl, ap, ◌∙◌, arith}
use Rattle.grammar.specs.declared.refusals.Refusal as texts
use Rattle.reader.specs.declared.texts.Shape.{Shape}
use Rattle.reader.specs.Texts.{ReadAs, read_at}
use Rattle.formats.specs.Field.{IsField, read_as}
use Rattle.formats.specs.Sizes.{wanted_for, check_as}
use Rattle.formats.specs.declared.field.Header.{Header}
use Rattle.formats.specs.declared.refusal.Refusal as fields
use Rattle.formats.specs.declared.sizes.Room.{Room}
use Rattle.store.specs.Layout.{Sized}
use Rattle.calls.specs.declared.plan.Refused.TheVariants.{Text, Rest}
use Rattle.calls.specs.declared.plan.Asked.{Asked}
use Rattle.calls.specs.declared.plan.Plan.{Plan}
use Rattle.calls.specs.declared.plan.Refused.{Refused}
use Rattle.calls.specs.Plan.{asked, asked_of, asked_by, plan_of_spec, checked, prepared, wanted_by, Plans}

-- refused of the text or the field, whatever is lent
pub refused : (r : Result Shape texts.Refusal) (f : Result Header fields.Refusal) (room : Room) (e : Refused) → Err e ≡ asked_by r f → Err e ≡ prepared r f room
refused (Err t) f room e p = cc
refused (Ok s) (Err t) room e p = cc
refused (Ok s) (Ok h) room e p = cc

-- else the slices are checked for it
abbrev plan_from : Asked → Plan
plan_from a = record { sizes = record { groups = a.shape.groups; lanes = a.shape.lanes; owns = a.shape.owns; shared = a.shape.shared; field = a.shape.field }; granted = a.granted }

abbrev by_room : Room → Asked → Result Plan Refused
by_room room a = checked (check_as (wanted_for a.shape) room) (plan_from a)

pub checks : (r : Result Shape texts.Refusal) (f : Result Header fields.Refusal) (room : Room) (a : Asked) → Ok a ≡ asked_by r f → by_room room a ≡ prepared r f room
checks (Err t) f room a p = cc
checks (Ok s) (Err t) room a p = cc
checks (Ok s) (Ok h) room a p = let e : a ≡ asked_of s h = cc in ap (by_room room) e

-- the sizes of what is read are in bounds
pub plan-sized : (text bytes : List ℕ) (s : Shape) (h : Header) → ReadAs text s → IsField bytes h → Sized (plan_of_spec s h).sizes
plan-sized text bytes s h read field =
    let i = field.in_range in
    let t = read.taken in
    record {
      groups = i.groups_few;
      some_lane = i.some_lane;
      lanes = i.lanes_few;
      owns = omega (arith, t.few_names, t.spelled.owned, read.owns);
      shared = omega (arith, t.few_cells, read.cells);
      field = i.cells_few;
    }

-- how long the slices have to be
pub wants : (r : Result Shape texts.Refusal) (f : Result Header fields.Refusal) (a : Asked) → Ok a ≡ asked_by r f → Ok (wanted_for a.shape) ≡ wanted_by r f
wants (Err t) f a p = cc
wants (Ok s) (Err t) a p = cc
wants (Ok s) (Ok h) a p = let e : a ≡ asked_of s h = cc in ap (λ (x : Asked). Ok (wanted_for x.shape)) e

pub wants-none : (r : Result Shape texts.Refusal) (f : Result Header fields.Refusal) (e : Refused) → Err e ≡ asked_by r f → Err e ≡ wanted_by r f
wants-none (Err t) f e p = cc
wants-none (Ok s) (Err t) e p = cc
wants-none (Ok s) (Ok h) e p = cc
