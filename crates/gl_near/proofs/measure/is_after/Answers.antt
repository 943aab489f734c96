use Rattle.std.proofs.Common.{arith}
use Rattle.std.proofs.lemmas.Int.{ints}
use Rattle.gl_near.proofs.measure.is_after.Goals as goal

pub returns : goal.returns
returns c = (λ t. grind (arith, ints, c.from.ensures, c.from-2.ensures, c.from-3.ensures), λ t. grind (arith, ints, c.from.ensures, c.from-2.ensures, c.from-3.ensures))
