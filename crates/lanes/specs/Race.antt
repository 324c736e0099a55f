-- Which two touches race.
use Rattle.std.specs.Prelude.{◌≡◌, ℕ, ◌<◌, Bool, true, not, ◌&&◌, ◌||◌, List, length, ◌==◌, slice_index_or}
use Rattle.lanes.specs.Grid.{Mark}

-- No barrier parts the two touches, and they are of different lanes: of different groups, or of different lanes of one group in one phase.
unfoldable pub unparted : Mark → Mark → Bool
unparted a b = not (a.by_group == b.by_group) || (a.phase == b.phase && not (a.by_lane == b.by_lane))

-- Two touches race if they are of one cell of one place, one of them writes, and nothing parts them.
unfoldable pub race : Mark → Mark → Bool
race a b =
    ((a.touch.where_is == b.touch.where_is && a.touch.cell == b.touch.cell) && (a.touch.wrote || b.touch.wrote)) && unparted a b

-- Two of the marks race, an earlier and a later one.
unfoldable pub Races : List Mark → Type 0
Races ms = (j : ℕ) × (k : ℕ) × (a : Mark) × (b : Mark) × (j < k) × (k < length ms) × (slice_index_or ms j a ≡ a) × (slice_index_or ms k b ≡ b) × (race a b ≡ true)
