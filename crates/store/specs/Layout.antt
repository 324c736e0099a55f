-- Where each word of a lane, of a group and each cell lies in the lent slices.
--
-- The slice of lanes: group after group; in a group slot after slot; in a slot lane after lane. So one slot of neighbouring lanes
-- are neighbouring words, for any number of lanes, and a row of 32 lanes is 32 of them.
--   slot 0: the line at which the lane stands        slot 1: 1 if the lane went wrong
--   slots 2 to 5, at lane 0: the group's phase, and how many of its lanes wait and have ended
--   slots 6 to 127: kept for whoever picks the lanes
--   slot 128 + k: the lane's own number k
-- The slice of cells: those of group 0, of group 1, .., then the field's.
use Rattle.std.specs.Prelude.{ℕ, zero, suc, ◌+◌, ◌*◌, ◌≤◌, Bool, true, false}
use Rattle.store.specs.declared.Sizes.{Sizes}
use Rattle.store.specs.declared.Whereabouts.{Whereabouts}
use Rattle.store.specs.declared.Whereabouts.TheVariants.{Field, Group}

-- Sizes in bounds.
pub record Sized (z : Sizes) : Type 0 where
  pub groups : z.groups ≤ 1024
  pub some_lane : 1 ≤ z.lanes
  pub lanes : z.lanes ≤ 1024
  pub owns : z.owns ≤ 64
  pub shared : z.shared ≤ 16384
  pub field : z.field ≤ 16777216

-- How many slots a lane has: 128 (512 bytes) and one for each own number.
abbrev pub slots : Sizes → ℕ
slots z = 128 + z.owns

-- The place of slot s of lane l of group g.
unfoldable pub place_of : Sizes → ℕ → ℕ → ℕ → ℕ
place_of z g s l = (g * slots z + s) * z.lanes + l

-- How many words the lanes have.
unfoldable pub room : Sizes → ℕ
room z = z.groups * slots z * z.lanes

-- The place of a cell is the base of its whereabouts and the cell's number: 0 is the field, g + 1 is group g.
unfoldable pub base : Sizes → ℕ → ℕ
base z zero = z.groups * z.shared
base z (suc g) = g * z.shared

-- How many cells are there.
unfoldable pub size : Sizes → ℕ → ℕ
size z zero = z.field
size z (suc g) = z.shared

-- How many cells there are in all.
abbrev pub cells_room : Sizes → ℕ
cells_room z = z.groups * z.shared + z.field

-- The field's whereabouts, or those of group g.
abbrev pub whose : Bool → ℕ → ℕ
whose true g = 0
whose false g = suc g

-- Whereabouts as a number.
abbrev pub numbered : Whereabouts → ℕ
numbered Field = 0
numbered (Group g) = suc g
