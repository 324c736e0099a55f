-- Entries of a body, and what is left to do at each. Every line of a body is an entry. An if has its entry, those of its first
-- lines, an else and the second lines unless there are none, and an end; a while has its entry, those of its lines, and an end.
-- At an else and an end nothing is done: what is left there is what is left where it goes on.
use Rattle.std.specs.Prelude.{ℕ, zero, suc, ◌+◌, ◌-◌, cond, nat_le, nat_lt}
use Rattle.lanes.specs.Syntax.{Body, followed, ended, end, put, read_shared, write_shared, read_all, write_all, barrier, when, while}

-- An else with n entries behind it, missing if its body d is empty.
abbrev pub else_part : Body → ℕ → ℕ
else_part d n = cond (ended d) 0 (suc n)

-- How many entries a body has.
unfoldable pub lines_of : Body → ℕ
lines_of end = 0
lines_of (put k e b) = suc (lines_of b)
lines_of (read_shared k e b) = suc (lines_of b)
lines_of (write_shared e f b) = suc (lines_of b)
lines_of (read_all k e b) = suc (lines_of b)
lines_of (write_all e f b) = suc (lines_of b)
lines_of (barrier b) = suc (lines_of b)
lines_of (when e c d b) = suc (suc (lines_of c) + (else_part d (lines_of d) + lines_of b))
lines_of (while e c b) = suc (suc (lines_of c) + lines_of b)

-- How many entries the else and the second lines of an if have.
unfoldable pub else_lines_spec : Body → ℕ
else_lines_spec d = else_part d (lines_of d)

-- What is left to do for a lane that stands at entry i. Inside an if it is followed by what is behind the if, inside a while by
-- the while itself. Behind the last entry it is nothing.
unfoldable pub left_at : Body → ℕ → Body
left_at end i = end
left_at (put k e b) zero = put k e b
left_at (put k e b) (suc i) = left_at b i
left_at (read_shared k e b) zero = read_shared k e b
left_at (read_shared k e b) (suc i) = left_at b i
left_at (write_shared e f b) zero = write_shared e f b
left_at (write_shared e f b) (suc i) = left_at b i
left_at (read_all k e b) zero = read_all k e b
left_at (read_all k e b) (suc i) = left_at b i
left_at (write_all e f b) zero = write_all e f b
left_at (write_all e f b) (suc i) = left_at b i
left_at (barrier b) zero = barrier b
left_at (barrier b) (suc i) = left_at b i
left_at (when e c d b) zero = when e c d b
left_at (when e c d b) (suc i) =
    cond (nat_le i (lines_of c)) (followed (left_at c i) b)
    (cond (nat_lt (i - suc (lines_of c)) (else_lines_spec d)) (followed (left_at d (i - suc (lines_of c))) b) (left_at b ((i - suc (lines_of c)) - else_lines_spec d)))
left_at (while e c b) zero = while e c b
left_at (while e c b) (suc i) = cond (nat_le i (lines_of c)) (followed (left_at c i) (while e c b)) (left_at b (i - suc (lines_of c)))
