use Rattle.std.proofs.Common.{arith}
use Rattle.std.proofs.lemmas.Int.{clamps, ints}
use Rattle.gl_badge.specs.Gain.{rise}
use Rattle.gl_badge.proofs.gain_goal.rise.Goals as goal

pub returns : goal.returns
unfolding rise
returns c = omega (arith, ints, clamps, c.unsigned_abs.ensures.value, c.max.ensures.value)
