-- The operators of the language.
use Rattle.std.specs.Prelude.{◌≡◌, ℕ, ◌<◌, ◌≤◌, ◌≢◌, List, length, Some, None, Option, slice_index}
use Rattle.lanes.specs.Syntax.{Expr, plus, minus, times, over, rest_of, less, same}
use Rattle.lanes.specs.Step.{sum_of, difference_of, product_of, quotient_of, remainder_of, less_of, same_of}
use Rattle.values.specs.declared.ops.Op.{Op}
use Rattle.values.specs.declared.ops.Op.TheVariants.{Plus, Minus, Times, Over, Rest, Less, Same}

-- What an operator makes of two numbers.
abbrev pub op_of : Op → ℕ → ℕ → ℕ
op_of Plus a b = sum_of a b
op_of Minus a b = difference_of a b
op_of Times a b = product_of a b
op_of Over a b = quotient_of a b
op_of Rest a b = remainder_of a b
op_of Less a b = less_of a b
op_of Same a b = same_of a b

-- The expression that it makes of two.
abbrev pub node : Op → Expr → Expr → Expr
node Plus e f = plus e f
node Minus e f = minus e f
node Times e f = times e f
node Over e f = over e f
node Rest e f = rest_of e f
node Less e f = less e f
node Same e f = same e f

-- Its byte in a text.
abbrev pub byte_of : Op → ℕ
byte_of Plus = 43
byte_of Minus = 45
byte_of Times = 42
byte_of Over = 47
byte_of Rest = 37
byte_of Less = 60
byte_of Same = 61

-- The operator that a byte is, if it is one.
abbrev pub OpAt : ℕ → Option Op → Type 0
OpAt b (Some op) = byte_of op ≡ b
OpAt b None = (op : Op) → byte_of op ≢ b

-- Each of the numbers z is what P says of those of x and y, as far as both go; the others are those of x.
pub record AppliedBy (P : ℕ → ℕ → ℕ → Type 0) (x y z : List ℕ) : Type 0 where
  pub long : length z ≡ length x
  pub each : (k : ℕ) → k < length x → k < length y → P (slice_index x k) (slice_index y k) (slice_index z k)
  pub rest : (k : ℕ) → length y ≤ k → slice_index z k ≡ slice_index x k

-- Each of the numbers z is x op y, as far as both go; the others are those of x.
pub record Applied (op : Op) (x y z : List ℕ) : Type 0 where
  pub long : length z ≡ length x
  pub each : (k : ℕ) → k < length x → k < length y → slice_index z k ≡ op_of op (slice_index x k) (slice_index y k)
  pub rest : (k : ℕ) → length y ≤ k → slice_index z k ≡ slice_index x k
