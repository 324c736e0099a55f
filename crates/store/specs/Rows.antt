-- One slot of neighbouring lanes.
use Rattle.std.specs.Prelude.{ℕ, zero, suc, ◌+◌, List, slice_set}
use Rattle.store.specs.declared.Sizes.{Sizes}
use Rattle.store.specs.Layout.{place_of}

-- Slot s of n lanes of group g, from lane l on, is v 0, v 1, .., written one after the other; all else is as it was.
unfoldable pub slot_row : Sizes → ℕ → ℕ → ℕ → (ℕ → ℕ) → ℕ → List ℕ → List ℕ
slot_row z g s l v zero ls = ls
slot_row z g s l v (suc n) ls = slice_set (slot_row z g s l v n ls) (place_of z g s (l + n)) (v n)

-- Own number k of n lanes of group g, from lane l on, is v 0, v 1, .., and each stands at a line.
abbrev pub put_row_spec : Sizes → ℕ → ℕ → ℕ → (ℕ → ℕ) → ℕ → ℕ → List ℕ → List ℕ
put_row_spec z g l k v line n ls = slot_row z g 0 l (λ _. line) n (slot_row z g (128 + k) l v n ls)
