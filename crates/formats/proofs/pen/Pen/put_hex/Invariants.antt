use Rattle.std.proofs.Common.{◌≡◌, ◌+◌, ◌*◌, take}
use Rattle.std.specs.List.{flat_map}
use Rattle.formats.specs.Hex.{hex_two}
use Rattle.formats.specs.Wrote.{Writes}
use Rattle.formats.proofs.pen.Pen.put_hex.Given as goal

abbrev pub invariant-loop-byte : goal.invariant-loop-byte
invariant-loop-byte l =
    record { wrote : Writes l.initial.self l.self (flat_map hex_two (take l.byte-index l.byte-items)); at : l.self.at ≡ l.initial.self.at + 2 * l.byte-index }
