-- Turns that are written down, one on a line: "of 0 1" for lane 1 of group 0, "release 0" for group 0.
use Rattle.std.specs.Prelude.{◌≡◌, ℕ, ◌+◌, ◌<◌, true, false, not, List, [], ◌∷◌, ◌++◌, length, drop, Ok, Err, vec_items, codes, Result, Vec, ◌==◌, slice_index}
use Rattle.grammar.specs.Spelling.{digit, each_byte, IsNumber}
use Rattle.std.specs.declared.alloc.Global.{Global}
use Rattle.machine.specs.declared.script.Fault.{Fault}
use Rattle.machine.specs.declared.script.Fault.TheVariants.{NoTurn, NoMemory}
use Rattle.machine.specs.declared.script.Written.{Written}
use Rattle.machine.specs.declared.script.Written.TheVariants.{Of, Release}

-- From byte i up to byte j stand digits, with none behind them, that are the number v, below 2^32.
pub record DigitsHere (bytes : List ℕ) (i v j : ℕ) : Type 0 where
  pub digits : List ℕ
  pub rest : List ℕ
  pub number : IsNumber v digits
  pub here : drop i bytes ≡ digits ++ rest
  pub ends : digit (slice_index rest 0) ≡ false
  pub few : v < 4294967296
  pub behind : j ≡ i + length digits

-- No byte is 0.
abbrev pub Plain : List ℕ → Type 0
Plain w = each_byte (λ b. not (b == 0)) w ≡ true

-- These bytes stand from byte i up to byte j.
abbrev pub BytesHere : List ℕ → List ℕ → ℕ → ℕ → Type 0
BytesHere bytes w i j = (drop i bytes ≡ w ++ drop j bytes) × (j ≡ i + length w)

-- Behind "of " or "release ", from byte i up to byte n: the numbers, and the line's end.
abbrev pub OfHere : List ℕ → ℕ → ℕ → ℕ → ℕ → Type 0
OfHere bytes i g l n = (b : ℕ) × (c : ℕ) × (d : ℕ) × DigitsHere bytes i g b × BytesHere bytes (codes " ") b c × DigitsHere bytes c l d × BytesHere bytes (codes "\n") d n

abbrev pub ReleaseHere : List ℕ → ℕ → ℕ → ℕ → Type 0
ReleaseHere bytes i g n = (b : ℕ) × DigitsHere bytes i g b × BytesHere bytes (codes "\n") b n

-- It is such a turn.
abbrev pub TurnsAt : (ℕ → ℕ → ℕ → Type 0) → Written → ℕ → Type 0
TurnsAt P (Of g l) n = P g l n
TurnsAt P (Release g) n = ⊥

abbrev pub GoesOn : (ℕ → ℕ → Type 0) → Written → ℕ → Type 0
GoesOn P (Of g l) n = ⊥
GoesOn P (Release g) n = P g n

-- From byte i up to byte n stands the line of the turn.
abbrev pub TurnHere : List ℕ → ℕ → Written → ℕ → Type 0
TurnHere bytes i (Of g l) n = (a : ℕ) × BytesHere bytes (codes "of ") i a × OfHere bytes a g l n
TurnHere bytes i (Release g) n = (a : ℕ) × BytesHere bytes (codes "release ") i a × ReleaseHere bytes a g n

-- From byte i up to byte j stand the lines of these turns, one after the other.
unfoldable pub TurnsHere : List ℕ → ℕ → List Written → ℕ → Type 0
TurnsHere bytes i [] j = i ≡ j
TurnsHere bytes i (w ∷ ws) j = (k : ℕ) × TurnHere bytes i w k × TurnsHere bytes k ws j

-- A file of turns is read as these turns; or its line with that number, counted from 1, is no turn, and those before it are; or there is no memory.
abbrev pub ScriptRead : List ℕ → Result (Vec Written Global) Fault → Type 0
ScriptRead bytes (Ok v) = TurnsHere bytes 0 (vec_items v) (length bytes)
ScriptRead bytes (Err (NoTurn line)) =
    (ws : List Written) × (i : ℕ) × TurnsHere bytes 0 ws i × (line ≡ length ws + 1) × (i < length bytes) × ((w : Written) (n : ℕ) → TurnHere bytes i w n → ⊥)
ScriptRead bytes (Err NoMemory) = Unit {0}
