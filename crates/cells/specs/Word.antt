-- The word that a byte stands in.
use Rattle.std.specs.Prelude.{◌≡◌, ℕ, suc, ◌<◌, ◌≤◌, min, List, length, slice_index, slice_range}

-- The word that byte i of the text stands in, or that ends there (or at the text's end, if i lies behind it): the bytes from `from` up to `to`,
-- all above 32; what stands before them and behind them is not.
pub record IsWord (text : List ℕ) (i : ℕ) (word : List ℕ) : Type 0 where
  pub from : ℕ
  pub to : ℕ
  pub begun : from ≤ min i (length text)
  pub reaches : min i (length text) ≤ to
  pub within : to ≤ length text
  pub bytes : word ≡ slice_range text from to
  pub plain : (k : ℕ) → from ≤ k → k < to → 32 < slice_index text k
  pub begins : (k : ℕ) → from ≡ suc k → slice_index text k ≤ 32
  pub ends : to < length text → slice_index text to ≤ 32
