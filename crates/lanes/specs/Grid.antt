-- The whole grid of groups of lanes, one turn of it, and a row of turns, which is one order in which all is done.
use Rattle.std.specs.Prelude.{ℕ, suc, ◌+◌, Bool, true, false, cond, ◌&&◌, List, [], ◌∷◌, ◌++◌, length, replicate, nat_lt, slice_index_or, slice_set}
use Rattle.lanes.specs.Syntax.{Program, Body, end, at_barrier, ended, past_barrier}
use Rattle.lanes.specs.Step.{Lane, Memory, cells, Touch, Act, act, lane_of, after, touched, goes_to, stepping}

-- A group: its lanes, and its phase, which is how many barriers it has passed.
pub record Group : Type 0 where
  pub lanes_of : List Lane
  pub phase : ℕ

pub record Grid : Type 0 where
  pub groups_of : List Group
  pub memory : Memory

abbrev pub no_lane : Lane
no_lane = record { own = []; left = end; wrong = false }

abbrev pub no_group : Group
no_group = record { lanes_of = []; phase = 0 }

unfoldable pub the_group : Grid → ℕ → Group
the_group d g = slice_index_or d.groups_of g no_group

unfoldable pub the_lane : Grid → ℕ → ℕ → Lane
the_lane d g l = slice_index_or (the_group d g).lanes_of l no_lane

-- f holds of what is left to each lane.
unfoldable pub all_lanes : (Body → Bool) → List Lane → Bool
all_lanes f [] = true
all_lanes f (x ∷ xs) = f x.left && all_lanes f xs

-- Each lane stands behind the barrier at which it waited.
unfoldable pub all_past : List Lane → List Lane
all_past [] = []
all_past (x ∷ xs) = goes_to x (past_barrier x.left) ∷ all_past xs

-- A turn: lane l of group g does a step, or group g goes on behind its barriers.
pub data Turn : Type 0 where
  of : ℕ → ℕ → Turn
  release : ℕ → Turn

-- The turn can be done, with n lanes in a group: the lane can step, or all lanes of the group wait at a barrier.
unfoldable pub can : ℕ → Grid → Turn → Bool
can n d (of g l) = (nat_lt g (length d.groups_of) && nat_lt l n) && stepping (the_lane d g l).left
can n d (release g) = nat_lt g (length d.groups_of) && all_lanes at_barrier (the_group d g).lanes_of

-- The act of lane l of group g.
unfoldable pub the_act : ℕ → Grid → ℕ → ℕ → Act
the_act n d g l = act n l g (length (cells d.memory 0)) (length (cells d.memory (suc g))) (the_lane d g l)

abbrev pub with_lane : Group → ℕ → Lane → Group
with_lane q l y = record { lanes_of = slice_set q.lanes_of l y; phase = q.phase }

abbrev pub gone_on : Group → Group
gone_on q = record { lanes_of = all_past q.lanes_of; phase = suc q.phase }

-- What a turn does where it can be done.
unfoldable pub did : ℕ → Grid → Turn → Grid
did n d (of g l) =
    record { groups_of = slice_set d.groups_of g (with_lane (the_group d g) l (lane_of (the_act n d g l) d.memory)); memory = after (the_act n d g l) d.memory }
did n d (release g) = record { groups_of = slice_set d.groups_of g (gone_on (the_group d g)); memory = d.memory }

-- A turn that can't be done does nothing.
unfoldable pub turn : ℕ → Grid → Turn → Grid
turn n d t = cond (can n d t) (did n d t) d

unfoldable pub turns : ℕ → Grid → List Turn → Grid
turns n d [] = d
turns n d (t ∷ ts) = turns n (turn n d t) ts

-- A mark: who touched what, and in which phase of its group.
pub record Mark : Type 0 where
  pub by_group : ℕ
  pub by_lane : ℕ
  pub phase : ℕ
  pub touch : Touch

unfoldable pub marks : ℕ → ℕ → ℕ → List Touch → List Mark
marks g l p [] = []
marks g l p (t ∷ ts) = record { by_group = g; by_lane = l; phase = p; touch = t } ∷ marks g l p ts

-- The marks of one turn that can be done: one at most.
unfoldable pub marks_at : ℕ → Grid → Turn → List Mark
marks_at n d (of g l) = marks g l (the_group d g).phase (touched (the_act n d g l))
marks_at n d (release g) = []

-- The marks of a row of turns, in its order.
unfoldable pub marked : ℕ → Grid → List Turn → List Mark
marked n d [] = []
marked n d (t ∷ ts) = cond (can n d t) (marks_at n d t) [] ++ marked n (turn n d t) ts

-- How many steps of lanes a row of turns has. That a group goes on is none.
abbrev pub weight : Turn → ℕ
weight (of g l) = 1
weight (release g) = 0

unfoldable pub steps : ℕ → Grid → List Turn → ℕ
steps n d [] = 0
steps n d (t ∷ ts) = cond (can n d t) (weight t) 0 + steps n (turn n d t) ts

-- All lanes of all groups have ended.
unfoldable pub all_ended : List Group → Bool
all_ended [] = true
all_ended (g ∷ gs) = all_lanes ended g.lanes_of && all_ended gs

-- The grid before any turn: own numbers and cells of groups 0, the field as given, phases 0.
unfoldable pub begin : Program → ℕ → ℕ → List ℕ → Grid
begin p groups n all =
    record {
      groups_of = replicate groups (record { lanes_of = replicate n (record { own = replicate p.owns 0; left = p.body; wrong = false }); phase = 0 });
      memory = record { all = all; groups = replicate groups (replicate p.shared 0) };
    }
