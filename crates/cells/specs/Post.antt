-- What is read of a text.
use Rattle.std.specs.Prelude.{◌≡◌, ℕ, Bool, List, Ok, Err, vec_items, Result, Vec, ◌==◌}
use Rattle.std.specs.declared.alloc.Global.{Global}
use Rattle.cells.specs.declared.scan.Unread.{Unread}
use Rattle.cells.specs.declared.scan.Unread.TheVariants.{Bad, NoMemory}

-- The cells of a text, or its first bad byte, or no memory for them.
abbrev pub ReadsText : Result (List ℕ) ℕ → Result (Vec ℕ Global) Unread → Type 0
ReadsText read (Ok v) = read ≡ Ok (vec_items v)
ReadsText read (Err (Bad i)) = read ≡ Err i
ReadsText read (Err NoMemory) = Unit {0}

-- The byte at the end of a line.
abbrev pub is_end : ℕ → Bool
is_end c = c == 10
