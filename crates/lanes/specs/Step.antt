-- What one lane does in one step. Which cell it touches is decided by the lane and by how many cells there are (an act);
-- then the act is performed on memory.
use Rattle.std.specs.Prelude.{ℕ, zero, suc, ◌+◌, ◌-◌, ◌*◌, ◌/◌, ◌%◌, Bool, true, false, cond, not, ◌||◌, List, [], ◌∷◌, ◌==◌, nat_lt, slice_index, slice_index_or, slice_set}
use Rattle.lanes.specs.Syntax.{Expr, fixed, var, lane, group, lanes, plus, minus, times, over, rest_of, less, same, Body, end, put, read_shared, write_shared, read_all, write_all, barrier, when, while, followed, at_barrier, ended}

-- Numbers are 0 to 2^32 - 1.
abbrev pub whole : ℕ
whole = 4294967296

-- The operations: modulo 2^32; a quotient and a remainder by 0 are 0; a comparison is 1 or 0.
abbrev pub sum_of : ℕ → ℕ → ℕ
sum_of a b = (a + b) % whole

abbrev pub difference_of : ℕ → ℕ → ℕ
difference_of a b = (a + (whole - b)) % whole

abbrev pub product_of : ℕ → ℕ → ℕ
product_of a b = (a * b) % whole

abbrev pub quotient_of : ℕ → ℕ → ℕ
quotient_of a b = cond (b == 0) 0 (a / b)

abbrev pub remainder_of : ℕ → ℕ → ℕ
remainder_of a b = cond (b == 0) 0 (a % b)

abbrev pub less_of : ℕ → ℕ → ℕ
less_of a b = cond (nat_lt a b) 1 0

abbrev pub same_of : ℕ → ℕ → ℕ
same_of a b = cond (a == b) 1 0

-- The number that an expression is, for own numbers v, lane l of group g, and n lanes in a group.
unfoldable pub value : List ℕ → ℕ → ℕ → ℕ → Expr → ℕ
value v l g n (fixed a) = a % whole
value v l g n (var k) = slice_index v k
value v l g n lane = l
value v l g n group = g
value v l g n lanes = n
value v l g n (plus e f) = sum_of (value v l g n e) (value v l g n f)
value v l g n (minus e f) = difference_of (value v l g n e) (value v l g n f)
value v l g n (times e f) = product_of (value v l g n e) (value v l g n f)
value v l g n (over e f) = quotient_of (value v l g n e) (value v l g n f)
value v l g n (rest_of e f) = remainder_of (value v l g n e) (value v l g n f)
value v l g n (less e f) = less_of (value v l g n e) (value v l g n f)
value v l g n (same e f) = same_of (value v l g n e) (value v l g n f)

-- A lane: one of the many that run the program. Its own numbers, what is left to do, and whether it went wrong, which is
-- that it touched a cell that isn't there.
pub record Lane : Type 0 where
  pub own : List ℕ
  pub left : Body
  pub wrong : Bool

-- Memory: the field, whose cells all lanes share, and the cells of each group.
pub record Memory : Type 0 where
  pub all : List ℕ
  pub groups : List (List ℕ)

-- The cells at a place: place 0 is the field, place g + 1 is group g's.
abbrev pub cells : Memory → ℕ → List ℕ
cells m zero = m.all
cells m (suc g) = slice_index_or m.groups g []

abbrev pub with_cells : Memory → ℕ → List ℕ → Memory
with_cells m zero xs = record { all = xs; groups = m.groups }
with_cells m (suc g) xs = record { all = m.all; groups = slice_set m.groups g xs }

-- Memory with v in cell c of a place.
unfoldable pub store : Memory → ℕ → ℕ → ℕ → Memory
store m w c v = with_cells m w (slice_set (cells m w) c v)

-- A touch: a cell of a place, read or written.
pub record Touch : Type 0 where
  pub where_is : ℕ
  pub cell : ℕ
  pub wrote : Bool

-- The lane with own number k, or with what is left; or gone wrong, with nothing left.
abbrev pub with_own : Lane → ℕ → ℕ → Lane
with_own x k a = record { own = slice_set x.own k a; left = x.left; wrong = x.wrong }

abbrev pub goes_to : Lane → Body → Lane
goes_to x b = record { own = x.own; left = b; wrong = x.wrong }

abbrev pub gone_wrong : Lane → Lane
gone_wrong x = record { own = x.own; left = end; wrong = true }

-- What a step does: nothing with memory (the lane is then y); a read of cell c at place w into own number k of y; a write of v.
pub data Act : Type 0 where
  quiet : Lane → Act
  reads : ℕ → ℕ → ℕ → Lane → Act
  writes : ℕ → ℕ → ℕ → Lane → Act

-- The act if cell c is one of `many`; else the lane goes wrong.
abbrev pub if_there : ℕ → ℕ → Lane → Act → Act
if_there c many x a = cond (nat_lt c many) a (quiet (gone_wrong x))

-- The act of lane l of group g, with n lanes in a group, f cells in the field and s cells in the group.
-- At a barrier and at the end there is nothing to do.
unfoldable pub act : ℕ → ℕ → ℕ → ℕ → ℕ → Lane → Act
act n l g f s x = by x.left
  where
    val : Expr → ℕ
    val e = value x.own l g n e

    by : Body → Act
    by end = quiet x
    by (barrier b) = quiet x
    by (put k e b) = quiet (with_own (goes_to x b) k (val e))
    by (read_shared k e b) = if_there (val e) s x (reads (suc g) (val e) k (goes_to x b))
    by (write_shared e v b) = if_there (val e) s x (writes (suc g) (val e) (val v) (goes_to x b))
    by (read_all k e b) = if_there (val e) f x (reads 0 (val e) k (goes_to x b))
    by (write_all e v b) = if_there (val e) f x (writes 0 (val e) (val v) (goes_to x b))
    by (when e c d b) = quiet (goes_to x (cond (val e == 0) (followed d b) (followed c b)))
    by (while e c b) = quiet (goes_to x (cond (val e == 0) b (followed c (while e c b))))

-- The act performed: the lane after it, memory after it, and what was touched.
unfoldable pub lane_of : Act → Memory → Lane
lane_of (quiet y) m = y
lane_of (reads w c k y) m = with_own y k (slice_index (cells m w) c)
lane_of (writes w c v y) m = y

unfoldable pub after : Act → Memory → Memory
after (quiet y) m = m
after (reads w c k y) m = m
after (writes w c v y) m = store m w c v

unfoldable pub touched : Act → List Touch
touched (quiet y) = []
touched (reads w c k y) = record { where_is = w; cell = c; wrote = false } ∷ []
touched (writes w c v y) = record { where_is = w; cell = c; wrote = true } ∷ []

-- The lane can do a step: it is neither at a barrier nor at its end.
abbrev pub stepping : Body → Bool
stepping b = not (at_barrier b || ended b)
