-- What happens in a row of lanes as it is told by whoever runs it, what must be so for it to be in order, and what follows: every lane
-- that was in the mask at an if or a while comes to its join, once, no other lane does, and at the end no join is left open.
use Rattle.std.specs.Prelude.{◌≡◌, ℕ, suc, ◌+◌, ◌*◌, ◌<◌, ◌≤◌, Bool, true, false, cond, ◌&&◌, ◌||◌, ◌⊎◌, List, [], ◌∷◌, length, Some, None, Option, ◌==◌}
use Rattle.std.specs.List.{AllByRecursion}
use Rattle.masks.specs.Masks.{on, lacking}
use Rattle.code.specs.declared.step.Step.{Step}
use Rattle.code.specs.declared.step.Step.TheVariants.{Put, Read, Write, Branch, Jump, Barrier, End}
use Rattle.code.specs.Words.{step_at}
use Rattle.code.specs.Code.{is_loop}
use Rattle.code.specs.Settle.{Leads}
use Rattle.code.specs.Joins.{is_branch, JoinsAt, Regions}

-- What happens in a row. Joins are numbered as they are opened, from 0.
pub data Event : Type 0 where
  -- the lanes in the mask did the line at entry `line`, and lane i stands at entry `to i` now
  did : (mask line : ℕ) (to : ℕ → ℕ) → Event
  -- so they did at an if or a while, and a join was opened for them
  parted : (mask line : ℕ) (to : ℕ → ℕ) → Event
  -- the lanes in the mask went on from join n
  went : (n mask : ℕ) → Event
  -- the group went on: every lane is behind its barrier, and lane i stands at entry `to i` now
  passed : (to : ℕ → ℕ) → Event

-- A story is what has happened, the newest first.
abbrev pub Story : Type 0
Story = List Event

-- Where lane i stands.
unfoldable pub place : Story → ℕ → ℕ
place [] i = 0
place (did mask line to ∷ h) i = cond (on mask i) (to i) (place h i)
place (parted mask line to ∷ h) i = cond (on mask i) (to i) (place h i)
place (went n mask ∷ h) i = place h i
place (passed to ∷ h) i = to i

-- How many joins were opened.
unfoldable pub partings : Story → ℕ
partings [] = 0
partings (did mask line to ∷ h) = partings h
partings (parted mask line to ∷ h) = suc (partings h)
partings (went n mask ∷ h) = partings h
partings (passed to ∷ h) = partings h

-- A join that lanes have still to go on from: its number, the entry of its if or while, and those lanes.
pub record Open : Type 0 where
  pub number : ℕ
  pub branch : ℕ
  pub lanes : ℕ

-- The join without the lanes of the mask.
abbrev pub less : Open → ℕ → Open
less o mask = record { number = o.number; branch = o.branch; lanes = lacking o.lanes mask }

-- The lanes of the mask are taken out of a join that stands before others; a join without lanes is no more.
unfoldable pub thinned : Open → ℕ → List Open → List Open
thinned o mask os = cond (lacking o.lanes mask == 0) os (less o mask ∷ os)

-- The lanes of the mask are taken out of join n, wherever it stands.
unfoldable pub leave : ℕ → ℕ → List Open → List Open
leave n mask [] = []
leave n mask (o ∷ os) = cond (o.number == n) (thinned o mask os) (o ∷ leave n mask os)

-- The joins that are open, the newest first.
unfoldable pub open_joins : Story → List Open
open_joins [] = []
open_joins (did mask line to ∷ h) = open_joins h
open_joins (parted mask line to ∷ h) = record { number = partings h; branch = line; lanes = mask } ∷ open_joins h
open_joins (went n mask ∷ h) = leave n mask (open_joins h)
open_joins (passed to ∷ h) = open_joins h

-- The newest join that has lane i.
unfoldable pub topmost : List Open → ℕ → Option Open
topmost [] i = None
topmost (o ∷ os) i = cond (on o.lanes i) (Some o) (topmost os i)

-- Lane i has still to go on from join n.
unfoldable pub still_in : List Open → ℕ → ℕ → Bool
still_in [] n i = false
still_in (o ∷ os) n i = (o.number == n && on o.lanes i) || still_in os n i

-- The branches of the joins that have lane i, the newest first.
unfoldable pub branches_of : List Open → ℕ → List ℕ
branches_of [] i = []
branches_of (o ∷ os) i = cond (on o.lanes i) (o.branch ∷ branches_of os i) (branches_of os i)

-- The newest join that has lane i is one of the branch at entry b.
abbrev pub OwnJoin : Story → ℕ → ℕ → Type 0
OwnJoin h b i = (o : Open) × (topmost (open_joins h) i ≡ Some o) × (o.branch ≡ b)

-- Something that a lane does: no barrier, no jump and not the end.
abbrev pub is_act_spec : Step → Bool
is_act_spec (Put k x i) = true
is_act_spec (Read f k x i) = true
is_act_spec (Write f x y i) = true
is_act_spec (Branch x y n j f) = true
is_act_spec (Jump i) = false
is_act_spec (Barrier i) = false
is_act_spec End = false

abbrev pub is_barrier : Step → Bool
is_barrier (Put k x i) = false
is_barrier (Read f k x i) = false
is_barrier (Write f x y i) = false
is_barrier (Branch x y n j f) = false
is_barrier (Jump i) = false
is_barrier (Barrier i) = true
is_barrier End = false

module _ (code : ℕ → Step) where
  -- Lane i has come to join n: that is the newest join that has it, and it stands where the lanes of that branch join.
  pub record HasCome (h : Story) (n i : ℕ) : Type 0 where
    pub join : Open
    pub top : topmost (open_joins h) i ≡ Some join
    pub its_number : join.number ≡ n
    pub there : JoinsAt code join.branch (place h i)

  -- Lane i is held at a join that it has come to: it does nothing until it goes on from there.
  abbrev pub Held : Story → ℕ → Type 0
  Held h i = (n : ℕ) × HasCome h n i

  -- Lane i could do a line.
  pub record CouldStep (h : Story) (i : ℕ) : Type 0 where
    pub act : is_act_spec (code (place h i)) ≡ true
    pub free : Held h i → ⊥

  -- Lane i, one of the first w, could do the line at entry `line`, where it stands, and be sent to entry r by it.
  pub record CouldDo (w : ℕ) (h : Story) (line i r : ℕ) : Type 0 where
    pub within : i < w
    pub stands : place h i ≡ line
    pub could : CouldStep h i
    pub leads : Leads code line r

  -- The lanes in the mask, of which there is one, do the line together.
  pub record DoLine (w : ℕ) (h : Story) (mask line : ℕ) (to : ℕ → ℕ) : Type 0 where
    pub some : (i : ℕ) × (on mask i ≡ true)
    pub each : (i : ℕ) → on mask i ≡ true → CouldDo w h line i (to i)

  -- No join is opened where the line is no branch, or a while which the lanes are in already: one join serves all of its rounds.
  pub record FairDid (w : ℕ) (h : Story) (mask line : ℕ) (to : ℕ → ℕ) : Type 0 where
    pub lanes : DoLine w h mask line to
    pub again : is_branch (code line) ≡ true → (is_loop (code line) ≡ true) × ((i : ℕ) → on mask i ≡ true → OwnJoin h line i)

  -- A join is opened at every if, and at a while that the lanes come to from outside.
  pub record FairParted (w : ℕ) (h : Story) (mask line : ℕ) (to : ℕ → ℕ) : Type 0 where
    pub lanes : DoLine w h mask line to
    pub branch : is_branch (code line) ≡ true
    pub anew : is_loop (code line) ≡ true → (i : ℕ) → on mask i ≡ true → OwnJoin h line i → ⊥

  -- Lanes may go on from join n before all have come: no lane of the row could do a line, and none is held at a newer join.
  pub record KeptBack (w : ℕ) (h : Story) (n : ℕ) : Type 0 where
    pub still : (i : ℕ) → i < w → CouldStep h i → ⊥
    pub newest : (k i : ℕ) → HasCome h k i → k ≤ n

  -- All lanes that have come to join n go on from it, together, and these are all that it has, unless others are kept back.
  pub record FairWent (w : ℕ) (h : Story) (n mask : ℕ) : Type 0 where
    pub some : (i : ℕ) × (on mask i ≡ true)
    pub come : (i : ℕ) → on mask i ≡ true → HasCome h n i
    pub together : (i : ℕ) → HasCome h n i → on mask i ≡ true
    pub all : ((i : ℕ) → still_in (open_joins h) n i ≡ true → on mask i ≡ true) ⊎ KeptBack w h n

  -- Lane i waits at a barrier and is not held, and goes to entry r behind it.
  pub record Passes (h : Story) (i r : ℕ) : Type 0 where
    pub waits : is_barrier (code (place h i)) ≡ true
    pub free : Held h i → ⊥
    pub leads : Leads code (place h i) r

  -- What must be so where the event happens after the story, in a row of w lanes.
  abbrev pub Fair : ℕ → Story → Event → Type 0
  Fair w h (did mask line to) = FairDid w h mask line to
  Fair w h (parted mask line to) = FairParted w h mask line to
  Fair w h (went n mask) = FairWent w h n mask
  Fair w h (passed to) = (i : ℕ) → i < w → Passes h i (to i)

  -- Every event of the story was fair after those before it.
  unfoldable pub Happened : ℕ → Story → Type 0
  Happened w [] = Unit {0}
  Happened w (e ∷ h) = Happened w h × Fair w h e

  -- All w lanes have ended and none is held.
  pub record Over (w : ℕ) (h : Story) : Type 0 where
    pub ended : (i : ℕ) → i < w → code (place h i) ≡ End
    pub free : (i : ℕ) → i < w → Held h i → ⊥

-- Lane i was in the mask when join n was opened.
unfoldable pub parted_with : Story → ℕ → ℕ → Bool
parted_with [] n i = false
parted_with (did mask line to ∷ h) n i = parted_with h n i
parted_with (parted mask line to ∷ h) n i = cond (partings h == n) (on mask i) (parted_with h n i)
parted_with (went k mask ∷ h) n i = parted_with h n i
parted_with (passed to ∷ h) n i = parted_with h n i

-- By this event lane i goes on from join n.
unfoldable pub leaves_by : Event → ℕ → ℕ → Bool
leaves_by (did mask line to) n i = false
leaves_by (parted mask line to) n i = false
leaves_by (went k mask) n i = k == n && on mask i
leaves_by (passed to) n i = false

-- How often lane i went on from join n.
unfoldable pub goes_on : Story → ℕ → ℕ → ℕ
goes_on [] n i = 0
goes_on (e ∷ h) n i = cond (leaves_by e n i) 1 0 + goes_on h n i

-- Numbers of joins fall from the newest on, and are below n.
unfoldable pub Falls : ℕ → List Open → Type 0
Falls n [] = Unit {0}
Falls n (o ∷ os) = (o.number < n) × Falls o.number os

-- An open join has a lane, its lanes are of the row, and its branch is one.
pub record Sound (code : ℕ → Step) (w : ℕ) (o : Open) : Type 0 where
  pub some : (i : ℕ) × (on o.lanes i ≡ true)
  pub within : (i : ℕ) → on o.lanes i ≡ true → i < w
  pub branch : is_branch (code o.branch) ≡ true

-- Lane i waits at a barrier, and no lane of the row could do a line.
pub record LeftBehind (code : ℕ → Step) (w : ℕ) (h : Story) (i : ℕ) : Type 0 where
  pub waits : is_barrier (code (place h i)) ≡ true
  pub free : Held code h i → ⊥
  pub still : (j : ℕ) → j < w → CouldStep code h j → ⊥

-- What is so of the joins of a story that happened, at any time.
pub record Kept (code : ℕ → Step) (w : ℕ) (h : Story) : Type 0 where
  -- a lane went on from a join once if it was in the mask there and has gone on, else never
  pub tally : (n i : ℕ) → goes_on h n i + cond (still_in (open_joins h) n i) 1 0 ≡ cond (parted_with h n i) 1 0
  -- only lanes that were in the mask come to a join, and none that has gone on from it comes again
  pub comes : (n i : ℕ) → HasCome code h n i → (parted_with h n i ≡ true) × (goes_on h n i ≡ 0)
  -- a lane that has come to a join stays there until it goes on from it
  pub stays : (e : Event) → Fair code w h e → (n i : ℕ) → HasCome code h n i → leaves_by e n i ≡ false → HasCome code (e ∷ h) n i
  -- if a lane is left behind where others go on from its join, it waits at a barrier, and no lane of the row could do a line
  pub left : (n mask : ℕ) → FairWent code w h n mask → (i : ℕ) → still_in (open_joins h) n i ≡ true → on mask i ≡ false → LeftBehind code w h i
  -- when all lanes have ended no join is open, and every lane went on once from each join at which it was in the mask, and from no other
  pub at_end : Over code w h → (open_joins h ≡ []) × ((n i : ℕ) → goes_on h n i ≡ cond (parted_with h n i) 1 0)
  -- a lane is in 16 joins at most, and so many are open for each lane at most
  pub few : (i : ℕ) → length (branches_of (open_joins h) i) ≤ 16
  pub room : length (open_joins h) ≤ 16 * w
  -- how the open joins are numbered, and what each is like
  pub falls : Falls (partings h) (open_joins h)
  pub sound : AllByRecursion (Sound code w) (open_joins h)

-- So it is of every story that happened, where what stands in a branch of the steps stays in it until its lanes join.
unfoldable pub JoinsKept : Type 0
JoinsKept =
    (steps : List ℕ) (lines w : ℕ) (h : Story) → Regions (step_at steps lines) lines → Happened (step_at steps lines) w h → Kept (step_at steps lines) w h
