-- What a program is: expressions, lines in each other, and how many numbers and cells it has.
use Rattle.std.specs.Prelude.{ℕ, Bool, true, false}

-- An expression. `fixed a` is a number, `var k` the lane's own number k, `lane` the lane's number in its group,
-- `group` the group's number, `lanes` how many lanes a group has.
pub data Expr : Type 0 where
  fixed : ℕ → Expr
  var : ℕ → Expr
  lane : Expr
  group : Expr
  lanes : Expr
  plus : Expr → Expr → Expr
  minus : Expr → Expr → Expr
  times : Expr → Expr → Expr
  over : Expr → Expr → Expr
  rest_of : Expr → Expr → Expr
  less : Expr → Expr → Expr
  same : Expr → Expr → Expr

-- What there is to do, line by line; the last argument is what comes behind the line.
-- `put k e`: own number k is e. `read_shared k e`, `write_shared e f`: the group's cell e comes to own number k, or becomes f;
-- `read_all`, `write_all`: the same with the field's cell. `barrier`: the lane waits until all lanes of its group wait.
-- `when e c d`: c if e isn't 0, else d. `while e c`: c as long as e isn't 0 before it.
pub data Body : Type 0 where
  end : Body
  put : ℕ → Expr → Body → Body
  read_shared : ℕ → Expr → Body → Body
  write_shared : Expr → Expr → Body → Body
  read_all : ℕ → Expr → Body → Body
  write_all : Expr → Expr → Body → Body
  barrier : Body → Body
  when : Expr → Body → Body → Body → Body
  while : Expr → Body → Body → Body

-- A program: its body, how many own numbers a lane has, how many cells a group has in common.
pub record Program : Type 0 where
  pub body : Body
  pub owns : ℕ
  pub shared : ℕ

-- One body behind another.
unfoldable pub followed : Body → Body → Body
followed end c = c
followed (put k e b) c = put k e (followed b c)
followed (read_shared k e b) c = read_shared k e (followed b c)
followed (write_shared e f b) c = write_shared e f (followed b c)
followed (read_all k e b) c = read_all k e (followed b c)
followed (write_all e f b) c = write_all e f (followed b c)
followed (barrier b) c = barrier (followed b c)
followed (when e x y b) c = when e x y (followed b c)
followed (while e x b) c = while e x (followed b c)

-- The next thing to do is a barrier.
unfoldable pub at_barrier : Body → Bool
at_barrier end = false
at_barrier (put k e b) = false
at_barrier (read_shared k e b) = false
at_barrier (write_shared e f b) = false
at_barrier (read_all k e b) = false
at_barrier (write_all e f b) = false
at_barrier (barrier b) = true
at_barrier (when e c d b) = false
at_barrier (while e c b) = false

-- Nothing is left to do.
unfoldable pub ended : Body → Bool
ended end = true
ended (put k e b) = false
ended (read_shared k e b) = false
ended (write_shared e f b) = false
ended (read_all k e b) = false
ended (write_all e f b) = false
ended (barrier b) = false
ended (when e c d b) = false
ended (while e c b) = false

-- What is left behind the barrier that is next; all else stays.
unfoldable pub past_barrier : Body → Body
past_barrier end = end
past_barrier (put k e b) = put k e b
past_barrier (read_shared k e b) = read_shared k e b
past_barrier (write_shared e f b) = write_shared e f b
past_barrier (read_all k e b) = read_all k e b
past_barrier (write_all e f b) = write_all e f b
past_barrier (barrier b) = b
past_barrier (when e c d b) = when e c d b
past_barrier (while e c b) = while e c b
