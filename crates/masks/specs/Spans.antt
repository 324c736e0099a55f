-- Neighbouring lanes of a mask.
use Rattle.std.specs.Prelude.{◌≡◌, ℕ, ◌<◌, ◌≤◌, true, false}
use Rattle.masks.specs.declared.spans.Span.{Span}
use Rattle.masks.specs.Masks.{on}

-- From lane i on, the first lanes in the mask are those of the span; the lane behind it is not in the mask.
pub record Spanned (mask i : ℕ) (r : Span) : Type 0 where
  pub behind : i ≤ r.from
  pub some : r.from < r.to
  pub within : r.to ≤ 32
  pub off : (j : ℕ) → i ≤ j → j < r.from → on mask j ≡ false
  pub these : (j : ℕ) → r.from ≤ j → j < r.to → on mask j ≡ true
  pub ends : on mask r.to ≡ false
