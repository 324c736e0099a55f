-- What one lane has to do next, with the numbers worked out, and that it has done it: one turn of the grid.
use Rattle.std.specs.Prelude.{◌≡◌, ℕ, ◌+◌, ◌<◌, ◌≤◌, Bool, true, false, ◌⊎◌, List, [], ◌∷◌}
use Rattle.lanes.specs.Syntax.{Body, Expr, followed, end, put, read_shared, write_shared, read_all, write_all, barrier, when, while}
use Rattle.lanes.specs.Step.{Touch, value}
use Rattle.lanes.specs.Grid.{of, release, turn, can, marks, marks_at}
use Rattle.store.specs.declared.Sizes.{Sizes}
use Rattle.store.specs.declared.Todo.{Todo}
use Rattle.store.specs.declared.Todo.TheVariants.{Put, Read, Write, Branch}
use Rattle.store.specs.declared.Deed.{Deed}
use Rattle.store.specs.declared.Deed.TheVariants.{Quiet, Touched, Wrong}
use Rattle.store.specs.Layout.{slots, base, size, cells_room, numbered}
use Rattle.store.specs.Lent.{slot_of, line_at, own_of, lane_at, phase_of_spec, grid_of, Lined, Only}

-- A branch stands at an if or at a while, and its two lines are where each of the ways goes on.
pub record IfHere (at : ℕ → Body) (e : Expr) (yes no : ℕ) (b : Body) : Type 0 where
  pub first : Body
  pub second : Body
  pub behind : Body
  pub is : b ≡ when e first second behind
  pub if_so : at yes ≡ followed first behind
  pub if_not : at no ≡ followed second behind

pub record WhileHere (at : ℕ → Body) (e : Expr) (yes no : ℕ) (b : Body) : Type 0 where
  pub inner : Body
  pub behind : Body
  pub is : b ≡ while e inner behind
  pub if_so : at yes ≡ followed inner (while e inner behind)
  pub if_not : at no ≡ behind

-- What is left, b, begins with the line that `todo` says, and its numbers, each the value `val` of its expression, are c and v:
-- c is what is put, or the cell, or the condition; v is what is written.
abbrev pub NextIs : (ℕ → Body) → (Expr → ℕ) → Todo → ℕ → ℕ → Body → Type 0
NextIs at val (Put k i) c v b = (e : Expr) × (b ≡ put k e (at i)) × (c ≡ val e)
NextIs at val (Read true k i) c v b = (e : Expr) × (b ≡ read_all k e (at i)) × (c ≡ val e)
NextIs at val (Read false k i) c v b = (e : Expr) × (b ≡ read_shared k e (at i)) × (c ≡ val e)
NextIs at val (Write true i) c v b = (e : Expr) × (f : Expr) × (b ≡ write_all e f (at i)) × (c ≡ val e) × (v ≡ val f)
NextIs at val (Write false i) c v b = (e : Expr) × (f : Expr) × (b ≡ write_shared e f (at i)) × (c ≡ val e) × (v ≡ val f)
NextIs at val (Branch y n) c v b = (e : Expr) × (IfHere at e y n b ⊎ WhileHere at e y n b) × (c ≡ val e)

-- So it is with lane l of group g.
unfoldable pub Ready : Sizes → (ℕ → Body) → List ℕ → ℕ → ℕ → Todo → ℕ → ℕ → Type 0
Ready z at ls g l todo c v = NextIs at (value (own_of z ls g l) l g z.lanes) todo c v (at (line_at z ls g l))

-- The own number that it sets is there.
abbrev pub TodoFits : Sizes → Todo → Type 0
TodoFits z (Put k i) = k < z.owns
TodoFits z (Read f k i) = k < z.owns
TodoFits z (Write f i) = Unit {0}
TodoFits z (Branch y n) = Unit {0}

-- The lines where it goes on are below `lines`.
abbrev pub Goes : ℕ → Todo → Type 0
Goes lines (Put k i) = i < lines
Goes lines (Read f k i) = i < lines
Goes lines (Write f i) = i < lines
Goes lines (Branch y n) = (y < lines) × (n < lines)

-- Line q is one of them.
abbrev pub SentTo : Todo → ℕ → Type 0
SentTo (Put k i) q = q ≡ i
SentTo (Read f k i) q = q ≡ i
SentTo (Write f i) q = q ≡ i
SentTo (Branch y n) q = (q ≡ y) ⊎ (q ≡ n)

-- What was touched, and whether the lane went wrong.
abbrev pub touches_of : Deed → List Touch
touches_of Quiet = []
touches_of (Touched s) = record { where_is = numbered s.place; cell = s.cell; wrote = s.wrote } ∷ []
touches_of Wrong = []

abbrev pub went_wrong : Deed → Bool
went_wrong Quiet = false
went_wrong (Touched s) = false
went_wrong Wrong = true

-- A touch tells the place of its cell in the slice of cells.
abbrev pub Placed : Sizes → Deed → Type 0
Placed z Quiet = Unit {0}
Placed z (Touched s) = (numbered s.place ≤ z.groups) × (s.index ≡ base z (numbered s.place) + s.cell) × (s.index < cells_room z) × (s.cell < size z (numbered s.place))
Placed z Wrong = Unit {0}

-- The lane's turn was done: it could be; the grid is the definition's after it; what was touched are its marks; and a lane is wrong
-- after it that went wrong in it or was so before.
pub record Turned (z : Sizes) (at : ℕ → Body) (ls cs ls' cs' : List ℕ) (g l : ℕ) (deed : Deed) : Type 0 where
  pub could : can z.lanes (grid_of z at ls cs) (of g l) ≡ true
  pub grid : grid_of z at ls' cs' ≡ turn z.lanes (grid_of z at ls cs) (of g l)
  pub touch : marks_at z.lanes (grid_of z at ls cs) (of g l) ≡ marks g l (phase_of_spec z ls g) (touches_of deed)
  pub wrong : went_wrong deed ≡ true → (lane_at z at ls' g l).wrong ≡ true
  pub right : went_wrong deed ≡ false → (lane_at z at ls' g l).wrong ≡ (lane_at z at ls g l).wrong

-- A lane did what it had to do next; a wrong lane stands at the line `stop`, where nothing is left.
pub record Did (z : Sizes) (ls cs ls' cs' : List ℕ) (g l stop : ℕ) (todo : Todo) (c v : ℕ) (deed : Deed) : Type 0 where
  pub lined : (lines : ℕ) → stop < lines → Goes lines todo → Lined z lines ls → Lined z lines ls'
  pub only : Only z g l ls ls'
  pub placed : Placed z deed
  pub turned : (at : ℕ → Body) → at stop ≡ end → Ready z at ls g l todo c v → Turned z at ls cs ls' cs' g l deed

-- The first l lanes of group g stand one line further, and nothing else has changed.
pub record Further (z : Sizes) (g l : ℕ) (ls ls' : List ℕ) : Type 0 where
  pub on : (l' : ℕ) → l' < l → line_at z ls' g l' ≡ line_at z ls g l' + 1
  pub rest : (g' s l' : ℕ) → s < slots z → l' < z.lanes → (g' ≡ g → s ≡ 0 → l' < l → ⊥) → slot_of z ls' g' s l' ≡ slot_of z ls g' s l'

-- A group went on. Each of its lanes stood at a barrier, with what is behind it left at the next line: then it could go on, and the
-- grid is the definition's after it.
pub record Released (z : Sizes) (g : ℕ) (ls cs ls' : List ℕ) : Type 0 where
  pub lines : (l : ℕ) → l < z.lanes → line_at z ls' g l ≡ line_at z ls g l + 1
  pub rest : (g' s l : ℕ) → s < slots z → l < z.lanes → (g' ≡ g → (s ≡ 0) ⊎ (s ≡ 2) ⊎ (s ≡ 3) → ⊥) → slot_of z ls' g' s l ≡ slot_of z ls g' s l
  pub phase : phase_of_spec z ls' g ≡ phase_of_spec z ls g + 1
  pub lined : (most : ℕ) → ((l : ℕ) → l < z.lanes → line_at z ls g l + 1 < most) → Lined z most ls → Lined z most ls'
  pub could : (at : ℕ → Body) → ((l : ℕ) → l < z.lanes → at (line_at z ls g l) ≡ barrier (at (line_at z ls g l + 1))) →
      can z.lanes (grid_of z at ls cs) (release g) ≡ true
  pub grid : (at : ℕ → Body) → ((l : ℕ) → l < z.lanes → at (line_at z ls g l) ≡ barrier (at (line_at z ls g l + 1))) →
      grid_of z at ls' cs ≡ turn z.lanes (grid_of z at ls cs) (release g)
