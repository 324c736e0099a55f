-- What a plan gives: slices that are long enough, and a program to start.
use Rattle.std.proofs.Common.{◌≡◌, ℕ, ◌+◌, ◌-◌, ◌*◌, ◌≤◌, List, Ok, Err, Result, length, get_or, take, drop, sym, refl, ap, ◌∙◌, subst, inl, inr, not-suc-le-zero, mul_right_comm, arith, length-drop}
use Rattle.std.proofs.lemmas.List.{get_or-take, get_or-drop, length-take-le}
use Rattle.std.specs.Result.{IsOk}
use Rattle.lanes.specs.Syntax.{Program}
use Rattle.lanes.specs.Grid.{Grid, Turn, of, release, begin}
use Rattle.lanes.specs.Told.{Shows}
use Rattle.lanes.specs.Told as meaning
use Rattle.grammar.specs.Taken.{Taken}
use Rattle.formats.specs.Meaning.{meant}
use Rattle.formats.specs.Printed.{Prints}
use Rattle.formats.specs.declared.refusal.Refusal.{Refusal}
use Rattle.formats.specs.declared.sizes.Room.{Room}
use Rattle.formats.specs.declared.told.Told.{Told}
use Rattle.store.specs.declared.Sizes.{Sizes}
use Rattle.store.specs.Layout.{room as lanes-room, base, cells_room}
use Rattle.store.specs.Lent.{field_of, Lent}
use Rattle.store.proofs.Upto.{upto_is, upto-length}
use Rattle.machine.specs.declared.verdict.Verdict.{Verdict}
use Rattle.machine.specs.Schedule.{Before, Passed}
use Rattle.machine.specs.Verdict.{told_of}
use Rattle.writer.proofs.Heads.{one-program}
use Rattle.calls.specs.declared.plan.Plan.{Plan}
use Rattle.calls.specs.Load.{For, Starts}
use Rattle.calls.specs.Judge.{Judged}
use Rattle.calls.specs.Plan.{plan_of_spec, Plans}
use Rattle.calls.specs.Tell.{OnePlace}
use Rattle.calls.proofs.Planning.{plan-sized}
use Rattle.calls.proofs.Judging.{judged}
use Rattle.calls.proofs.Placing.{shown-place}

-- the field's part of the cells
pub field-part : (z : Sizes) (cs : List ℕ) → cells_room z ≤ length cs → take ((z.groups * z.shared + z.field) - z.groups * z.shared) (drop (z.groups * z.shared) cs) ≡ field_of z cs
unfolding field_of base
field-part z cs h =
    let a : ℕ = z.groups * z.shared in
    let n : (a + z.field) - a ≡ z.field = omega arith in
    rw n
    (upto_is 0 (λ c. get_or cs (a + c) 0) z.field (take z.field (drop a cs)) (length-take-le z.field (drop a cs) (simp length-drop (omega arith)))
    (λ k l. get_or-take z.field (drop a cs) k 0 l ∙ get_or-drop a cs k 0))

pub field-long : (z : Sizes) (cs xs : List ℕ) → xs ≡ field_of z cs → length xs ≡ z.field
unfolding field_of
field-long z cs xs e = ap length e ∙ upto-length _ z.field

module _ (text bytes : List ℕ) (room : Room) (p : Plan) (pl : Plans text bytes room p) where
  lent_of : (ls cs : List ℕ) → length ls ≡ room.lanes → length cs ≡ room.cells → Lent (plan_of_spec pl.shape pl.header).sizes ls cs
  unfolding lanes-room
  lent_of ls cs a b = record {
    sized = plan-sized text bytes pl.shape pl.header pl.read pl.field;
    lanes_fit = rw (mul_right_comm pl.header.groups (128 + pl.shape.owns) pl.header.lanes) (omega (arith, pl.lanes_fit));
    cells_fit = subst (λ (q : Plan). cells_room q.sizes ≤ length cs) pl.plan (omega (arith, pl.cells_fit));
  }

  pub lent : (ls cs : List ℕ) → length ls ≡ room.lanes → length cs ≡ room.cells → Lent p.sizes ls cs
  lent ls cs a b = subst (λ (q : Plan). Lent q.sizes ls cs) (sym pl.plan) (lent_of ls cs a b)

  pub bytes-there : 16 + 4 * p.sizes.field ≤ length bytes
  bytes-there = subst (λ (q : Plan). 16 + 4 * q.sizes.field ≤ length bytes) (sym pl.plan) (omega (arith, pl.field.size))

  pub granted-few : p.granted ≤ 1099511627776
  granted-few = subst (λ (q : Plan). q.granted ≤ 1099511627776) (sym pl.plan) pl.field.in_range.steps_few

  pub some_lane : 1 ≤ p.sizes.lanes
  some_lane = subst (λ (q : Plan). 1 ≤ q.sizes.lanes) (sym pl.plan) pl.field.in_range.some_lane

  -- the one program that the text is
  pub for-one : (ns : List (List ℕ)) (q : Program) (steps : List ℕ) → length steps ≡ room.steps → Taken ns q text → q.owns ≡ pl.shape.owns → q.shared ≡ pl.shape.cells → For ns q p.sizes text steps
  for-one ns q steps e t o s =
      subst (λ (x : Plan). For ns q x.sizes text steps) (sym pl.plan) (record { taken = t; owns = o; shared = s; steps_fit = omega (arith, pl.steps_fit, pl.read.lines) })

  pub starts : {S : Type 0} (knows : S → ℕ → Grid → Type 0) (s : S) (steps : List ℕ) → length steps ≡ room.steps → ((n : ℕ) (d : Grid) → knows s n d) → Starts knows s p.sizes text bytes steps
  starts knows s steps e k = record {
    ns = pl.read.names;
    program = pl.read.program;
    for_it = for-one pl.read.names pl.read.program steps e pl.read.taken pl.read.owns pl.read.cells;
    ready = k _ _;
  }

  -- a text is one program at most
  pub for-any : (ns : List (List ℕ)) (q : Program) (steps : List ℕ) → length steps ≡ room.steps → Taken ns q text → For ns q p.sizes text steps
  for-any ns q steps e t =
      let r = pl.read in
      let same = one-program r.names ns r.program q text r.taken.distinct t.distinct r.taken.spelled t.spelled in
      for-one ns q steps e t (ap (λ (x : Program). x.owns) (sym same.1) ∙ r.owns) (ap (λ (x : Program). x.shared) (sym same.1) ∙ r.cells)

  pub printed-there : (n : ℕ) → n ≡ p.sizes.field → 10 * n + 256 ≤ room.printed
  printed-there n e = let f : p.sizes.field ≡ pl.header.cells = ap (λ (q : Plan). q.sizes.field) pl.plan in omega (arith, pl.printed_fit)

-- what is lent for print is long enough, so it is printed
pub printed-ok : (room : ℕ) (ws before after : List ℕ) (r : Result ℕ Refusal) → Prints room ws before after r → room ≤ length before → IsOk r
printed-ok room ws before after (Ok n) p h = refl
printed-ok room ws before after (Err e) p h = absurd (omega (arith, p.0))

-- what is printed means what the machine's row of turns showed
pub told-right : (granted : ℕ) (q : Program) (groups n : ℕ) (field cs : List ℕ) (v : Verdict) (told : Told) (ts : List Turn) → 1 ≤ n → (OnePlace v → meant told cs ≡ told_of v cs) →
    Shows granted n (begin q groups n field) ts (told_of v cs) → Judged granted q groups n field (meant told cs)
told-right granted q groups n field cs v told ts some e s =
    judged granted q groups n field (meant told cs) ts some (subst (λ (x : meaning.Told). Shows granted n (begin q groups n field) ts x) (sym (e (shown-place granted n (begin q groups n field) ts v cs s))) s)

-- there is nothing before the first lane
pub passed_none : (n : ℕ) (d : Grid) → Passed n d 0 0
unfolding Passed
passed_none n d t b = absurd (none t b)
  where
    none : (t : Turn) → Before t 0 0 → ⊥
    none (of h k) (inl x) = not-suc-le-zero x
    none (of h k) (inr x) = not-suc-le-zero x.1
    none (release h) x = not-suc-le-zero x
