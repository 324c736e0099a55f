-- What a call promises of what it tells.
use Rattle.std.specs.Prelude.{◌≡◌, ℕ, true, List, ◌++◌}
use Rattle.lanes.specs.Syntax.{Program}
use Rattle.lanes.specs.Grid.{Grid, Turn, turns, marked, all_ended, begin}
use Rattle.lanes.specs.Race.{Races}
use Rattle.lanes.specs.Told.{Told, cells, Right}

-- Of any order: it has no race, it can be brought to the end, and if it has come to the end, it leaves these cells.
pub record Leaves (n : ℕ) (d : Grid) (cs : List ℕ) (us : List Turn) : Type 0 where
  pub no_race : Races (marked n d us) → ⊥
  pub rest : List Turn
  pub goes_on : all_ended (turns n d (us ++ rest)).groups_of ≡ true
  pub field : all_ended (turns n d us).groups_of ≡ true → (turns n d us).memory.all ≡ cs

-- What is told is right: the machine's own row of turns shows it. If it is a field, every order leaves that field, and none has a race.
-- And it is never an accusation: where some order shows a field, within the steps granted, that field is told.
pub record Judged (granted : ℕ) (p : Program) (groups n : ℕ) (field : List ℕ) (told : Told) : Type 0 where
  pub right : Right granted p groups n field told
  pub every_order : (cs : List ℕ) → told ≡ cells cs → (us : List Turn) → Leaves n (begin p groups n field) cs us
  pub never_accused : (cs : List ℕ) → Right granted p groups n field (cells cs) → told ≡ cells cs
