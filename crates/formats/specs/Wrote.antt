-- What is written into a lent slice from a place on.
use Rattle.std.specs.Prelude.{◌≡◌, ℕ, ◌+◌, ◌≤◌, List, ◌++◌, length, take, drop}
use Rattle.formats.specs.declared.pen.Pen.{Pen}

-- The list with ws from place `at` on; before and behind it is as it was.
unfoldable pub written : List ℕ → ℕ → List ℕ → List ℕ
written xs at ws = take at xs ++ (ws ++ drop (at + length ws) xs)

-- ws was written from `at` on, up to `to`, and nothing else changed.
pub record Wrote (before after : List ℕ) (at to : ℕ) (ws : List ℕ) : Type 0 where
  pub ends : to ≡ at + length ws
  pub bytes : after ≡ written before at ws

-- A pen wrote ws, and stands behind it, within the slice; that is the same slice, as long as it was.
pub record Writes (before after : Pen) (ws : List ℕ) : Type 0 where
  pub same_slice : after.out.ghost_name ≡ before.out.ghost_name
  pub room : length after.out.now ≡ length before.out.now
  pub inside : after.at ≤ length after.out.now
  pub wrote : Wrote before.out.now after.out.now before.at after.at ws
