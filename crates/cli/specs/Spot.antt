-- Where a byte stands in a text.
use Rattle.std.specs.Prelude.{◌≡◌, ℕ, suc, ◌+◌, ◌<◌, ◌≤◌, min, ◌≢◌, List, length, take, count_by, ◌==◌, slice_index}
use Rattle.cli.specs.declared.spot.Spot.{Spot}

-- How many bytes 10.
abbrev pub newlines : List ℕ → ℕ
newlines bs = count_by (λ b. b == 10) bs

-- Byte i of the text, or its end if i lies behind it, is in this line, counted from 1, and at this column, counted from 1;
-- the line lies from start up to end, and has no byte 10.
pub record IsSpot (text : List ℕ) (i : ℕ) (s : Spot) : Type 0 where
  pub line : s.line ≡ newlines (take (min i (length text)) text) + 1
  pub column : s.start + s.column ≡ min i (length text) + 1
  pub within : s.end ≤ length text
  pub ends : s.end < length text → slice_index text s.end ≡ 10
  pub begins : (k : ℕ) → s.start ≡ suc k → slice_index text k ≡ 10
  pub plain : (k : ℕ) → s.start ≤ k → k < s.end → slice_index text k ≢ 10
