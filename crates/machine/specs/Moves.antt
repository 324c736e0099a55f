-- Lanes that stand where their jumps lead, and a group that goes on.
use Rattle.std.specs.Prelude.{◌≡◌, ℕ, ◌+◌, ◌<◌, ◌≤◌, true, List, ◌≢◌}
use Rattle.lanes.specs.Syntax.{Body, barrier}
use Rattle.lanes.specs.Grid.{release, can, turn}
use Rattle.code.specs.Words.{step_at}
use Rattle.code.specs.Code.{Settled}
use Rattle.store.specs.declared.Sizes.{Sizes}
use Rattle.store.specs.Layout.{slots}
use Rattle.store.specs.Lent.{Only, slot_of, line_at, phase_of_spec, grid_of}
use Rattle.machine.specs.Line.{Runs}

-- Lane l of group g stands where the jumps from where it stood lead; nothing else has changed, and the grid is the same.
pub record LaneSettled (z : Sizes) (steps : List ℕ) (lines g l : ℕ) (ls ls' : List ℕ) : Type 0 where
  pub only : Only z g l ls ls'
  pub same : (s : ℕ) → 1 ≤ s → s < slots z → slot_of z ls' g s l ≡ slot_of z ls g s l
  pub runs : (at : ℕ → Body) → Runs z at steps lines ls → Runs z at steps lines ls'
  pub settled : (at : ℕ → Body) → Runs z at steps lines ls → Settled at (step_at steps lines) lines (line_at z ls g l) (line_at z ls' g l)
  pub grid : (at : ℕ → Body) (cs : List ℕ) → Runs z at steps lines ls → grid_of z at ls' cs ≡ grid_of z at ls cs

-- So do the first l lanes of group g.
pub record GroupSettled (z : Sizes) (steps : List ℕ) (lines g l : ℕ) (ls ls' : List ℕ) : Type 0 where
  pub rest : (g' s l' : ℕ) → 1 ≤ s → s < slots z → l' < z.lanes → slot_of z ls' g' s l' ≡ slot_of z ls g' s l'
  pub others : (g' l' : ℕ) → l' < z.lanes → (g' ≡ g → l' < l → ⊥) → line_at z ls' g' l' ≡ line_at z ls g' l'
  pub runs : (at : ℕ → Body) → Runs z at steps lines ls → Runs z at steps lines ls'
  pub settled : (at : ℕ → Body) (k : ℕ) → k < l → Runs z at steps lines ls → Settled at (step_at steps lines) lines (line_at z ls g k) (line_at z ls' g k)
  pub grid : (at : ℕ → Body) (cs : List ℕ) → Runs z at steps lines ls → grid_of z at ls' cs ≡ grid_of z at ls cs

-- Group g went on, if it could: the grid is the definition's after it, its phase is one more, and no other's has changed.
pub record WentOn (z : Sizes) (steps : List ℕ) (lines g : ℕ) (ls ls' : List ℕ) : Type 0 where
  pub phase : phase_of_spec z ls' g ≡ phase_of_spec z ls g + 1
  pub other_phases : (h : ℕ) → (h ≢ g) → phase_of_spec z ls' h ≡ phase_of_spec z ls h
  pub other_lines : (h l : ℕ) → l < z.lanes → (h ≢ g) → line_at z ls' h l ≡ line_at z ls h l
  pub runs : (at : ℕ → Body) (cs : List ℕ) → Runs z at steps lines ls → can z.lanes (grid_of z at ls cs) (release g) ≡ true → Runs z at steps lines ls'
  pub behind : (at : ℕ → Body) (cs : List ℕ) (l : ℕ) → l < z.lanes → Runs z at steps lines ls → can z.lanes (grid_of z at ls cs) (release g) ≡ true →
      at (line_at z ls g l) ≡ barrier (at (line_at z ls' g l))
  pub grid : (at : ℕ → Body) (cs : List ℕ) → Runs z at steps lines ls → can z.lanes (grid_of z at ls cs) (release g) ≡ true →
      grid_of z at ls' cs ≡ turn z.lanes (grid_of z at ls cs) (release g)
