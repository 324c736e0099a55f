use Rattle.std.proofs.Common.{◌≡◌, ℕ, ◌-◌, ◌*◌, ◌%◌, ◌^◌, ltb, ap, ◌∙◌, arith}
use Rattle.std.proofs.lemmas.Nat.{one_shl}
use Rattle.masks.specs.Masks.{on}
use Rattle.masks.proofs.Bits.{on-first}
use Rattle.masks.proofs.first_lanes.Goals as goal

pub returns-then-width-eq32 : goal.returns-then-width-eq32
returns-then-width-eq32 c = λ i. let e : 32 ≡ c.args.width = omega arith in on-first 32 i ∙ ap (λ (w : ℕ). ltb i w) e

pub returns : goal.returns
returns c = λ i.
    let e : (1 * 2 ^ c.args.width) % 4294967296 ≡ 2 ^ c.args.width = one_shl c.args.width 32 (omega arith) in
    ap (λ (m : ℕ). on (m - 1) i) e ∙ on-first c.args.width i
