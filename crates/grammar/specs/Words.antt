-- Where a word ends.
use Rattle.std.specs.Prelude.{◌≡◌, ℕ, ◌<◌, ◌≤◌, true, false, List, length, slice_index}
use Rattle.grammar.specs.Spelling.{word_byte}

-- From byte i up to r the text has letters and digits alone, and at r it has none, or ends.
pub record WordEnd (text : List ℕ) (i r : ℕ) : Type 0 where
  pub from : i ≤ r
  pub within : i ≤ length text → r ≤ length text
  pub word : (k : ℕ) → i ≤ k → k < r → word_byte (slice_index text k) ≡ true
  pub apart : word_byte (slice_index text r) ≡ false
