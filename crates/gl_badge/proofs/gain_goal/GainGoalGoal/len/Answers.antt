use Rattle.std.proofs.Common.{length, arith}
use Rattle.gl_badge.specs.Gain.{gain_goal}
use Rattle.gl_badge.proofs.Pairs.{two-length}
use Rattle.gl_badge.proofs.gain_goal.GainGoalGoal.len.Goals as goal

pub returns : goal.returns
unfolding gain_goal
returns c = omega (arith, c.len.ensures, two-length (length c.args.self.now.hulls) c.args.axis c.requires)
