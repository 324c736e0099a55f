-- What may be told of a program, and the reason that goes with it: a row of turns that shows it.
use Rattle.std.specs.Prelude.{◌≡◌, ℕ, ◌<◌, ◌≤◌, Bool, true, false, ◌&&◌, ◌||◌, ◌≢◌, List, ◌++◌, length, ◌==◌, nat_lt, slice_index, slice_index_or}
use Rattle.lanes.specs.Syntax.{Program, Body, Expr, fixed, var, lane, group, lanes, plus, minus, times, over, rest_of, less, same, end, put, read_shared, write_shared, read_all, write_all, barrier, when, while, at_barrier}
use Rattle.lanes.specs.Grid.{Grid, Turn, Mark, turns, marked, steps, all_ended, the_lane, the_group, begin}
use Rattle.lanes.specs.Race.{race, Races}

-- Numbers below 2^32, own numbers that are there, and a while with a line at least.
unfoldable pub ExprFits : ℕ → Expr → Type 0
ExprFits o (fixed a) = a < 4294967296
ExprFits o (var k) = k < o
ExprFits o lane = Unit {0}
ExprFits o group = Unit {0}
ExprFits o lanes = Unit {0}
ExprFits o (plus e f) = ExprFits o e × ExprFits o f
ExprFits o (minus e f) = ExprFits o e × ExprFits o f
ExprFits o (times e f) = ExprFits o e × ExprFits o f
ExprFits o (over e f) = ExprFits o e × ExprFits o f
ExprFits o (rest_of e f) = ExprFits o e × ExprFits o f
ExprFits o (less e f) = ExprFits o e × ExprFits o f
ExprFits o (same e f) = ExprFits o e × ExprFits o f

unfoldable pub BodyFits : ℕ → Body → Type 0
BodyFits o end = Unit {0}
BodyFits o (put k e b) = (k < o) × ExprFits o e × BodyFits o b
BodyFits o (read_shared k e b) = (k < o) × ExprFits o e × BodyFits o b
BodyFits o (write_shared e f b) = ExprFits o e × ExprFits o f × BodyFits o b
BodyFits o (read_all k e b) = (k < o) × ExprFits o e × BodyFits o b
BodyFits o (write_all e f b) = ExprFits o e × ExprFits o f × BodyFits o b
BodyFits o (barrier b) = BodyFits o b
BodyFits o (when e c d b) = ExprFits o e × BodyFits o c × BodyFits o d × BodyFits o b
BodyFits o (while e c b) = ExprFits o e × BodyFits o c × (c ≢ end) × BodyFits o b

-- A program, a grid and a field in bounds (but for the limits of the program's text).
pub record Fits (p : Program) (groups n : ℕ) (all : List ℕ) : Type 0 where
  pub owns : p.owns ≤ 64
  pub shared : p.shared ≤ 16384
  pub some_group : 1 ≤ groups
  pub groups_few : groups ≤ 1024
  pub some_lane : 1 ≤ n
  pub lanes_few : n ≤ 1024
  pub field_few : length all ≤ 16777216
  pub numbers : (k : ℕ) → slice_index all k < 4294967296
  pub body : BodyFits p.owns p.body

-- What is told: the field; two touches that race; the group and lane that touched a cell that isn't there; a group that can't go on;
-- or that more steps are wanted than were granted.
pub data Told : Type 0 where
  cells : List ℕ → Told
  races : Mark → Mark → Told
  missing : ℕ → ℕ → Told
  stuck : ℕ → Told
  too_long : Told

-- The touch of the lower group, and in one group of the lower lane, is told first.
unfoldable pub told_first : Mark → Mark → Bool
told_first a b = nat_lt a.by_group b.by_group || (a.by_group == b.by_group && nat_lt a.by_lane b.by_lane)

-- No lane has gone wrong.
unfoldable pub NoneWrong : Grid → Type 0
NoneWrong d = (g l : ℕ) → (the_lane d g l).wrong ≡ false

-- The row of turns ts, from the grid d with n lanes in a group and `most` steps granted, shows what is told:
-- the field is what it leaves at the end, without a race, without a wrong lane, within the steps granted;
-- a race is of two touches of it; a wrong lane is so after it; a stuck group never changes again after it, and a lane of it waits;
-- too long: it has more steps than were granted.
unfoldable pub Shows : ℕ → ℕ → Grid → List Turn → Told → Type 0
Shows most n d ts (cells cs) =
    (all_ended (turns n d ts).groups_of ≡ true) × NoneWrong (turns n d ts) × (Races (marked n d ts) → ⊥) × (steps n d ts ≤ most) × ((turns n d ts).memory.all ≡ cs)
Shows most n d ts (races a b) =
    (j : ℕ) × (k : ℕ) × (j ≢ k) × (j < length (marked n d ts)) × (k < length (marked n d ts)) × (slice_index_or (marked n d ts) j a ≡ a) × (slice_index_or (marked n d ts) k b ≡ b)
    × (race a b ≡ true) × (told_first a b ≡ true)
Shows most n d ts (missing g l) = (the_lane (turns n d ts) g l).wrong ≡ true
Shows most n d ts (stuck g) =
    (g < length d.groups_of) × ((us : List Turn) → the_group (turns n d (ts ++ us)) g ≡ the_group (turns n d ts) g)
    × ((l : ℕ) × (l < n) × (at_barrier (the_lane (turns n d ts) g l).left ≡ true))
Shows most n d ts too_long = most < steps n d ts

-- What is told is right: some row of turns from the beginning shows it.
unfoldable pub Right : ℕ → Program → ℕ → ℕ → List ℕ → Told → Type 0
Right most p groups n all told = (ts : List Turn) × Shows most n (begin p groups n all) ts told
