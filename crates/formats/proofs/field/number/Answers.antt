use Rattle.std.proofs.Common.{◌≡◌, ℕ, ◌++◌, take, drop, ap, ◌∙◌, arith}
use Rattle.formats.specs.Bytes.{number_at}
use Rattle.formats.proofs.Low.{eight-is, number-copied, eight_zeros, zeros, small}
use Rattle.formats.proofs.field.number.Goals as goal

pub returns : goal.returns
returns g c =
    let bs = c.args.bytes.now in
    let n = g.row.N in
    let part : c.copy_from_slice.new.self ≡ take n (drop c.args.at bs) =
    c.copy_from_slice.ensures.after ∙ ap (λ (k : ℕ). take k (drop c.args.at bs)) (omega arith) in
    let value : c.from_le_bytes.result ≡ number_at n bs c.args.at =
    c.from_le_bytes.ensures ∙ eight-is (c.copy_from_slice.new.self ++ drop n eight_zeros)
    ∙ rw part (number-copied n bs (drop n eight_zeros) c.args.at (omega arith) (omega arith) (zeros n)) in
    record { value = value; bound = omega (arith, value, small n bs c.args.at (λ k. omega (arith, c.type_inv.bytes k))) }
