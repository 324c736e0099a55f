use Rattle.std.proofs.Common.{arith}
use Rattle.formats.specs.Field.{read_as}
use Rattle.formats.proofs.Again.{read-field}
use Rattle.formats.proofs.field.read_field.Goals as goal

pub returns : goal.returns
unfolding read_as
returns c =
    record { value = c.read_front.ensures; field = read-field c.args.bytes.now c.read_front.result (λ k. omega (arith, c.type_inv.bytes k)) c.read_front.ensures }
