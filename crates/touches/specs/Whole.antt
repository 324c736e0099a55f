-- What is kept of all cells, in one lent slice of words, six for each cell.
use Rattle.std.specs.Prelude.{◌≡◌, ℕ, ◌*◌, ◌<◌, ◌≤◌, Bool, true, false, List, [], ◌∷◌, ◌++◌, length, Some, None, Option}
use Rattle.lanes.specs.Grid.{Mark}
use Rattle.lanes.specs.Race.{race}
use Rattle.touches.specs.declared.Who.{Who}
use Rattle.touches.specs.declared.Found.{Found}
use Rattle.touches.specs.Kept.{mark_of, Among, Keeps}
use Rattle.touches.specs.Code.{held_of}

-- Where the cells lie: how many there are at a place, and at which of the `many` spots each cell's six words are.
pub record Layout : Type 0 where
  pub size : ℕ → ℕ
  pub spot : ℕ → ℕ → ℕ
  pub many : ℕ

-- No two cells are at one spot.
pub record Laid (y : Layout) : Type 0 where
  pub within : (w c : ℕ) → c < y.size w → y.spot w c < y.many
  pub apart : (w c v e : ℕ) → c < y.size w → e < y.size v → y.spot w c ≡ y.spot v e → (w ≡ v) × (c ≡ e)

-- The words stand for all touches of all cells among the marks.
unfoldable pub AllKept : Layout → List Mark → List ℕ → Type 0
AllKept y ms ks = (w c : ℕ) → c < y.size w → Keeps w c ms (held_of ks (y.spot w c))

-- A touch that can be kept: of a cell that is there, by one of 1,024 groups of 1,024 lanes, in a slice that is long enough.
pub record Keepable (y : Layout) (w c i : ℕ) (a : Who) (ks : List ℕ) : Type 0 where
  pub laid : Laid y
  pub there : c < y.size w
  pub spot : y.spot w c ≡ i
  pub room : 6 * y.many ≤ length ks
  pub group : a.group < 1024
  pub lane : a.lane < 1024
  pub line : a.line < 4294967296

-- No earlier touch races with this one, and it is kept as the last of the marks;
-- or the touch that is named is one of the marks and races with this one, and nothing has changed.
abbrev pub Touched : Layout → ℕ → ℕ → List Mark → List ℕ → List ℕ → Who → Bool → Option Found → Type 0
Touched y w c ms ks ks' a wrote None = ((m : Mark) → Among m ms → race m (mark_of w c a wrote) ≡ false) × AllKept y (ms ++ (mark_of w c a wrote ∷ [])) ks'
Touched y w c ms ks ks' a wrote (Some f) = Among (mark_of w c f.who f.wrote) ms × (race (mark_of w c f.who f.wrote) (mark_of w c a wrote) ≡ true) × (ks' ≡ ks)
