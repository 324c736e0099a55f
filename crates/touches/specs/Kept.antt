-- What is kept of the touches of one cell, when it is enough, and what an answer from it says.
use Rattle.std.specs.Prelude.{◌≡◌, ℕ, ◌≤◌, Bool, true, false, ◌⊎◌, List, [], ◌∷◌, Some, None, Option, ◌≢◌}
use Rattle.lanes.specs.Grid.{Mark}
use Rattle.lanes.specs.Race.{race}
use Rattle.touches.specs.declared.Who.{Who}
use Rattle.touches.specs.declared.Found.{Found}
use Rattle.touches.specs.declared.Held.{Held}
use Rattle.touches.specs.declared.Readers.{Readers}
use Rattle.touches.specs.declared.Readers.TheVariants.{Nobody, One, Two}

-- The mark of a touch of cell c at place w (0 is the field, g + 1 is group g). The line is kept only to explain it.
abbrev pub mark_of : ℕ → ℕ → Who → Bool → Mark
mark_of w c a wrote = record { by_group = a.group; by_lane = a.lane; phase = a.phase; touch = record { where_is = w; cell = c; wrote = wrote } }

-- m is one of the marks.
unfoldable pub Among : Mark → List Mark → Type 0
Among m [] = ⊥
Among m (x ∷ xs) = (m ≡ x) ⊎ Among m xs

-- The new mark's phase is no lower than that of any earlier one of its group. Marks of a row of turns are so.
unfoldable pub Rising : List Mark → Mark → Type 0
Rising ms t = (m : Mark) → Among m ms → m.by_group ≡ t.by_group → m.phase ≤ t.phase

-- m is an earlier touch of the cell, of the given kind.
pub record Was (w c : ℕ) (ms : List Mark) (wrote : Bool) (m : Mark) : Type 0 where
  pub among : Among m ms
  pub place : m.touch.where_is ≡ w
  pub cell : m.touch.cell ≡ c
  pub kind : m.touch.wrote ≡ wrote

-- m is of a's group, and of an earlier phase or by a's lane: what races with m, later on, races with a.
pub record Under (m : Mark) (a : Who) : Type 0 where
  pub group : m.by_group ≡ a.group
  pub phase : m.phase ≤ a.phase
  pub lane : m.phase ≡ a.phase → m.by_lane ≡ a.lane

-- Two readers: of two groups; or all readers are of one group, and these are two lanes of its latest phase.
abbrev pub Pair : ℕ → ℕ → List Mark → Who → Who → Type 0
Pair w c ms a b =
    (a.group ≢ b.group)
    ⊎ ((a.group ≡ b.group) × (a.phase ≡ b.phase) × (a.lane ≢ b.lane) × ((m : Mark) → Was w c ms false m → (m.by_group ≡ a.group) × (m.phase ≤ a.phase)))

abbrev pub WriterKept : ℕ → ℕ → List Mark → Option Who → Type 0
WriterKept w c ms None = (m : Mark) → Was w c ms true m → ⊥
WriterKept w c ms (Some a) = Among (mark_of w c a true) ms × ((m : Mark) → Was w c ms true m → Under m a)

abbrev pub ReadersKept : ℕ → ℕ → List Mark → Readers → Type 0
ReadersKept w c ms Nobody = (m : Mark) → Was w c ms false m → ⊥
ReadersKept w c ms (One a) = Among (mark_of w c a false) ms × ((m : Mark) → Was w c ms false m → Under m a)
ReadersKept w c ms (Two a b) = Among (mark_of w c a false) ms × Among (mark_of w c b false) ms × Pair w c ms a b

-- What is held of cell c at place w stands for all touches of it among the marks.
pub record Keeps (w c : ℕ) (ms : List Mark) (k : Held) : Type 0 where
  pub writer : WriterKept w c ms k.writer
  pub readers : ReadersKept w c ms k.readers

-- Exactly if there is one: no earlier mark races with t; or the touch that is named is one of the marks, and races with t.
abbrev pub AnswersFor : ℕ → ℕ → List Mark → Mark → Option Found → Type 0
AnswersFor w c ms t None = (m : Mark) → Among m ms → race m t ≡ false
AnswersFor w c ms t (Some f) = Among (mark_of w c f.who f.wrote) ms × (race (mark_of w c f.who f.wrote) t ≡ true)
