-- Numbers in hexadecimal, in lower case.
use Rattle.std.specs.Prelude.{ℕ, ◌+◌, ◌/◌, ◌%◌, cond, List, [], ◌∷◌, ◌++◌, nat_lt}

-- The byte of a digit: 0 to 9, a to f.
abbrev pub hex_digit : ℕ → ℕ
hex_digit d = cond (nat_lt d 10) (48 + d) (87 + d)

abbrev pub hex_two : ℕ → List ℕ
hex_two n = hex_digit (n / 16) ∷ hex_digit (n % 16) ∷ []

abbrev pub hex_four : ℕ → List ℕ
hex_four n = hex_two (n / 256) ++ hex_two (n % 256)

-- Eight digits, the highest first.
unfoldable pub hex_eight : ℕ → List ℕ
hex_eight n = hex_four (n / 65536) ++ hex_four (n % 65536)
