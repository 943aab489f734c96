use Rattle.std.proofs.Common.{arith}
use Rattle.gl_triangle.proofs.Rounds.{length-fixes_of}
use Rattle.gl_triangle.proofs.trial.try_thirds.Goals as goal

pub closes-requires : goal.closes-requires
closes-requires c = omega (arith, length-fixes_of c.args.goal.now, c.requires.from)
