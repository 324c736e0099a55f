use Rattle.std.proofs.Common.{arith}
use Rattle.std.proofs.lemmas.Bool.Decides.{nat_tests}
use Rattle.formats.specs.Printed.{byte_behind}
use Rattle.formats.proofs.print.behind.Goals as goal

pub returns-then-i-eq7 : goal.returns-then-i-eq7
unfolding byte_behind
returns-then-i-eq7 c = grind (arith, nat_tests)

pub returns-else-i-eq7 : goal.returns-else-i-eq7
unfolding byte_behind
returns-else-i-eq7 c = grind (arith, nat_tests)
