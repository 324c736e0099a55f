-- The machine between two choices of its scheduler, and what it tells.
use Rattle.std.specs.Prelude.{◌≡◌, ℕ, zero, suc, ◌+◌, ◌-◌, ◌*◌, ◌<◌, ◌≤◌, Bool, true, false, ◌⊎◌, List, [], ◌≢◌, Result, Ok, Err}
use Rattle.lanes.specs.Syntax.{Body, end, put, read_shared, write_shared, read_all, write_all, barrier, when, while, at_barrier, ended}
use Rattle.lanes.specs.Grid.{Grid, Turn, turns, steps}
use Rattle.lanes.specs.Told as meaning
use Rattle.lanes.specs.Told.{Shows}
use Rattle.store.specs.declared.Sizes.{Sizes}
use Rattle.store.specs.Lent.{Lined, line_at, phase_of_spec, field_of, grid_of}
use Rattle.machine.specs.declared.schedule.Choice.{Choice}
use Rattle.machine.specs.declared.schedule.Choice.TheVariants.{Row, GoOn}
use Rattle.machine.specs.declared.verdict.Verdict.{Verdict}
use Rattle.machine.specs.declared.verdict.Verdict.TheVariants.{Field, Raced, Wrong, Stuck, TooLong}
use Rattle.machine.specs.declared.outcome.Stopped.{Stopped}
use Rattle.machine.specs.declared.outcome.Stopped.TheVariants as stopped
use Rattle.machine.specs.Sofar.{Sofar, first_mark, second_mark}
use Rattle.machine.specs.Line.{Loaded, Runs}
use Rattle.machine.specs.Schedule.{turns_of}

-- What a verdict means, with the cells of the field.
abbrev pub told_of : Verdict → List ℕ → meaning.Told
told_of Field cs = meaning.cells cs
told_of (Raced r) cs = meaning.races (first_mark r) (second_mark r)
told_of (Wrong g l i) cs = meaning.missing g l
told_of (Stuck g) cs = meaning.stuck g
told_of TooLong cs = meaning.too_long

-- What is told of what stops a row of turns.
abbrev pub told_at : Stopped → Verdict
told_at (stopped.Raced r) = Raced r
told_at (stopped.Wrong g l i) = Wrong g l i

-- How many barriers stand one behind the other in front of what is left: so often can a group go on without a step between.
unfoldable pub barriers : Body → ℕ
barriers end = 0
barriers (put k e b) = 0
barriers (read_shared k e b) = 0
barriers (write_shared e f b) = 0
barriers (read_all k e b) = 0
barriers (write_all e f b) = 0
barriers (barrier b) = suc (barriers b)
barriers (when e c d b) = 0
barriers (while e c b) = 0

-- No group has come to a higher phase after so many steps, with so many lines.
unfoldable pub highest : ℕ → ℕ → ℕ
highest done lines = (done + 1) * lines

-- So far with ts, which has so many steps; each group has passed few barriers, those that it can pass at once counted too.
pub record StandsAt (z : Sizes) (at : ℕ → Body) (lines : ℕ) (d : Grid) (ts : List Turn) (ls cs ks : List ℕ) (done : ℕ) : Type 0 where
  pub sofar : Sofar z at d ts ls cs ks
  pub has_steps : steps z.lanes d ts ≡ done
  pub lined : Lined z (suc lines) ls
  pub phases : (g : ℕ) → g < z.groups → phase_of_spec z ls g + barriers (at (line_at z ls g 0)) ≤ highest done lines

-- Some lanes have stepped, and phases are as they were; or one group has gone on.
pub record Stepped (z : Sizes) (ls ls' : List ℕ) (done k : ℕ) : Type 0 where
  pub more : done < k
  pub phases : (h : ℕ) → phase_of_spec z ls' h ≡ phase_of_spec z ls h

pub record Gone (z : Sizes) (ls ls' : List ℕ) (done k : ℕ) : Type 0 where
  pub as_many : k ≡ done
  pub group : ℕ
  pub there : group < z.groups
  pub phase : phase_of_spec z ls' group ≡ phase_of_spec z ls group + 1
  pub phases : (h : ℕ) → (h ≢ group) → phase_of_spec z ls' h ≡ phase_of_spec z ls h

-- What came of a choice: it was done, and the machine stands so with k steps, no more than granted; or its row of turns shows a verdict.
pub record WentTo (z : Sizes) (at : ℕ → Body) (lines : ℕ) (d : Grid) (ls cs ls' cs' ks' : List ℕ) (granted done k : ℕ) (choice : Choice) : Type 0 where
  pub us : List Turn
  pub stands : StandsAt z at lines d us ls' cs' ks' k
  pub grid : grid_of z at ls' cs' ≡ turns z.lanes (grid_of z at ls cs) (turns_of choice)
  pub granted_still : k ≤ granted
  pub moved : Stepped z ls ls' done k ⊎ Gone z ls ls' done k

abbrev pub Moved : Sizes → (ℕ → Body) → ℕ → Grid → List ℕ → List ℕ → List ℕ → List ℕ → List ℕ → ℕ → ℕ → Choice → Result ℕ Verdict → Type 0
Moved z at lines d ls cs ls' cs' ks' granted done choice (Ok k) = WentTo z at lines d ls cs ls' cs' ks' granted done k choice
Moved z at lines d ls cs ls' cs' ks' granted done choice (Err v) = (us : List Turn) × Shows granted z.lanes d us (told_of v (field_of z cs'))

-- A group may go on: it is there, the count of its phase does not run over, and the lanes stand at steps of a program.
abbrev pub MayGo : Sizes → List ℕ → ℕ → List ℕ → Choice → Type 0
MayGo z steps lines ls (Row g start mask) = Unit {0}
MayGo z steps lines ls (GoOn g) = (g < z.groups) × (phase_of_spec z ls g < 18446744073709551615) × ((at : ℕ → Body) × Runs z at steps lines ls)

-- Where no turn can be done: all lanes have ended, and it is a field; or a lane of the group waits.
abbrev pub Over : Sizes → (ℕ → Body) → List ℕ → Verdict → Type 0
Over z at ls Field = (g l : ℕ) → g < z.groups → l < z.lanes → ended (at (line_at z ls g l)) ≡ true
Over z at ls (Stuck g) = (g < z.groups) × ((l : ℕ) × (l < z.lanes) × (at_barrier (at (line_at z ls g l)) ≡ true))
Over z at ls (Raced r) = ⊥
Over z at ls (Wrong g l i) = ⊥
Over z at ls TooLong = ⊥

-- A lane of the group waits, or all of them have ended.
abbrev pub Waiting : Sizes → (ℕ → Body) → List ℕ → ℕ → Bool → Type 0
Waiting z at ls g true = (l : ℕ) × (l < z.lanes) × (at_barrier (at (line_at z ls g l)) ≡ true)
Waiting z at ls g false = (l : ℕ) → l < z.lanes → ended (at (line_at z ls g l)) ≡ true

-- The machine sets out: the program lies in the words, the slices stand for a grid, of which the scheduler, s, knows what it has to.
pub record SetsOut {S : Type 0} (knows : S → ℕ → Grid → Type 0) (s : S) (ns : List (List ℕ)) (text steps : List ℕ) (lines : ℕ) (z : Sizes) (at : ℕ → Body) (ls cs ks : List ℕ) : Type 0 where
  pub loaded : Loaded ns text steps lines z at
  pub stands : StandsAt z at lines (grid_of z at ls cs) [] ls cs ks 0
  pub knows_it : knows s z.lanes (grid_of z at ls cs)

-- It has come so far from the grid d.
pub record Comes {S : Type 0} (knows : S → ℕ → Grid → Type 0) (s : S) (lines : ℕ) (z : Sizes) (at : ℕ → Body) (d : Grid) (ls cs ks : List ℕ) (done : ℕ) : Type 0 where
  pub ts : List Turn
  pub stands : StandsAt z at lines d ts ls cs ks done
  pub knows_it : knows s z.lanes (grid_of z at ls cs)

-- The phases of all groups.
unfoldable pub sum_upto : (ℕ → ℕ) → ℕ → ℕ
sum_upto f zero = 0
sum_upto f (suc n) = sum_upto f n + f n

-- What is left to do at most: steps, and that groups go on.
unfoldable pub left_over : Sizes → ℕ → ℕ → ℕ → List ℕ → ℕ
left_over z lines granted done ls = (granted - done) + (z.groups * highest granted lines - sum_upto (phase_of_spec z ls) z.groups)
