-- The lanes of a row that are in a mask do one line, one after the other, lowest first.
use Rattle.std.specs.Prelude.{◌≡◌, ℕ, suc, ◌+◌, ◌<◌, ◌≤◌, true, List, [], ◌∷◌, ◌++◌, length, ◌≢◌, slice_index, Ok, Err}
use Rattle.lanes.specs.Syntax.{Body, end}
use Rattle.lanes.specs.Grid.{Grid, Turn, of, can, turn, turns, steps}
use Rattle.store.specs.declared.Sizes.{Sizes}
use Rattle.store.specs.declared.Todo.{Todo}
use Rattle.store.specs.Layout.{slots}
use Rattle.store.specs.Lent.{slot_of, grid_of, Lined, Only}
use Rattle.store.specs.Acts.{Ready, Goes}
use Rattle.machine.specs.declared.outcome.Stopped.TheVariants.{Raced, Wrong}
use Rattle.machine.specs.Sofar.{Sofar, After, Names, Outcome}
use Rattle.masks.specs.Masks.{on}
use Rattle.machine.specs.Line.{row_turns}

-- Lane l of group g did what it had to do next, and its touch was looked at: only what is its own has changed; its turn, which could
-- be done, was done; and, from where the machine was with ts, what came of it is so.
pub record LaneDid (z : Sizes) (ls cs ks ls' cs' ks' : List ℕ) (g l stop : ℕ) (todo : Todo) (c v : ℕ) (r : Outcome) : Type 0 where
  pub lined : (lines : ℕ) → stop < lines → Goes lines todo → Lined z lines ls → Lined z lines ls'
  pub only : Only z g l ls ls'
  pub names : Names g l r
  pub could : (at : ℕ → Body) → at stop ≡ end → Ready z at ls g l todo c v → can z.lanes (grid_of z at ls cs) (of g l) ≡ true
  pub grid : (at : ℕ → Body) → at stop ≡ end → Ready z at ls g l todo c v → grid_of z at ls' cs' ≡ turn z.lanes (grid_of z at ls cs) (of g l)
  pub after : (at : ℕ → Body) (d : Grid) (ts : List Turn) → at stop ≡ end → Ready z at ls g l todo c v → Sofar z at d ts ls cs ks →
      After z at d (ts ++ (of g l ∷ [])) ls' cs' ks' r

-- Each lane in the mask has that to do next, with the numbers that were worked out for it.
unfoldable pub ReadyRow : Sizes → (ℕ → Body) → List ℕ → ℕ → ℕ → ℕ → Todo → List ℕ → List ℕ → Type 0
ReadyRow z at ls g start mask todo xs ys = (i : ℕ) → i < 32 → on mask i ≡ true → Ready z at ls g (start + i) todo (slice_index xs i) (slice_index ys i)

-- The lanes in the mask among the first i did their line: nothing has changed but what is their own, and their turns, each of which
-- could be done, were done in that order.
pub record RowDid (z : Sizes) (ls cs ls' cs' : List ℕ) (g start mask stop : ℕ) (todo : Todo) (xs ys : List ℕ) (i : ℕ) : Type 0 where
  pub lined : (lines : ℕ) → stop < lines → Goes lines todo → Lined z lines ls → Lined z lines ls'
  pub rest : (g' s l : ℕ) → s < slots z → l < z.lanes → (g' ≡ g → (j : ℕ) → l ≡ start + j → j < i → on mask j ≢ true) →
      slot_of z ls' g' s l ≡ slot_of z ls g' s l
  pub words : (g' s l : ℕ) → 2 ≤ s → s < 128 → l < z.lanes → slot_of z ls' g' s l ≡ slot_of z ls g' s l
  pub grid : (at : ℕ → Body) → at stop ≡ end → ReadyRow z at ls g start mask todo xs ys →
      grid_of z at ls' cs' ≡ turns z.lanes (grid_of z at ls cs) (row_turns g start mask i)
  pub steps : (at : ℕ → Body) → at stop ≡ end → ReadyRow z at ls g start mask todo xs ys →
      steps z.lanes (grid_of z at ls cs) (row_turns g start mask i) ≡ length (row_turns g start mask i)

-- How far the line came, by its outcome: to the row's end; or it stopped at a lane of the mask, which is named if it went wrong.
-- The lanes of the mask before that one have done their step, and so has it, and none behind it has.
abbrev pub Ends : ℕ → ℕ → ℕ → ℕ → Outcome → Type 0
Ends g start mask i (Ok u) = i ≡ 32
Ends g start mask i (Err (Raced r)) = (j : ℕ) × (j < 32) × (i ≡ suc j) × (on mask j ≡ true)
Ends g start mask i (Err (Wrong h l k)) = (j : ℕ) × (j < 32) × (i ≡ suc j) × (on mask j ≡ true) × (h ≡ g) × (l ≡ start + j)

-- The line was done for the mask: for as many of the row's lanes as `many` says.
pub record RowOutcome (z : Sizes) (ls cs ks ls' cs' ks' : List ℕ) (g start mask stop : ℕ) (todo : Todo) (xs ys : List ℕ) (r : Outcome) : Type 0 where
  pub many : ℕ
  pub ends : Ends g start mask many r
  pub did : RowDid z ls cs ls' cs' g start mask stop todo xs ys many
  pub after : (at : ℕ → Body) (d : Grid) (ts : List Turn) → at stop ≡ end → ReadyRow z at ls g start mask todo xs ys → Sofar z at d ts ls cs ks →
      After z at d (ts ++ row_turns g start mask many) ls' cs' ks' r

-- So far, with none wrong and no race.
pub record RowSofar (z : Sizes) (ls cs ks ls' cs' ks' : List ℕ) (g start mask stop : ℕ) (todo : Todo) (xs ys : List ℕ) (i : ℕ) : Type 0 where
  pub did : RowDid z ls cs ls' cs' g start mask stop todo xs ys i
  pub sofar : (at : ℕ → Body) (d : Grid) (ts : List Turn) → at stop ≡ end → ReadyRow z at ls g start mask todo xs ys → Sofar z at d ts ls cs ks →
      Sofar z at d (ts ++ row_turns g start mask i) ls' cs' ks'
