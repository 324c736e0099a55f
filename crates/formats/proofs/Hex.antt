-- A number's four bytes, highest first, in hexadecimal.
use Rattle.std.proofs.Common.{◌≡◌, ℕ, ◌<◌, ◌++◌, refl, arith, w32}
use Rattle.std.specs.List.{flat_map}
use Rattle.std.specs.Int.{to_be_bytes}
use Rattle.formats.specs.Hex.{hex_two, hex_eight}

same_bytes : (a b c d w x y z : ℕ) → a ≡ w → b ≡ x → c ≡ y → d ≡ z → hex_two a ++ (hex_two b ++ (hex_two c ++ hex_two d)) ≡ (hex_two w ++ hex_two x) ++ (hex_two y ++ hex_two z)
same_bytes a b c d w x y z p q r s = rw (p, q, r, s) refl

pub hex-bytes : (n : ℕ) → n < 4294967296 → flat_map hex_two (to_be_bytes w32 n) ≡ hex_eight n
unfolding hex_eight
hex-bytes n h = same_bytes _ _ _ _ _ _ _ _ (omega arith) (omega arith) (omega arith) (omega arith)
