use Rattle.std.proofs.Common.{arith}
use Rattle.std.proofs.lemmas.Bool.Decides.{nat_tests}
use Rattle.gl_demo.specs.Leg.{on_the_way}
use Rattle.gl_demo.proofs.leg.along.Goals as goal

pub returns-then-from-to-clause-value : goal.returns-then-from-to-clause-value
unfolding on_the_way
returns-then-from-to-clause-value c = grind (arith, nat_tests)

pub returns-else-from-to-clause-value : goal.returns-else-from-to-clause-value
unfolding on_the_way
returns-else-from-to-clause-value c = grind (arith, nat_tests)
