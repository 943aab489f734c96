use Rattle.std.proofs.Common.{length, sym, arith}
use Rattle.gl_badge.specs.Gain.{gain_goal}
use Rattle.gl_badge.proofs.Pairs.{two-fix_at, two-length}
use Rattle.gl_badge.proofs.gain_goal.GainGoalGoal.fix.Goals as goal

pub returns : goal.returns
unfolding gain_goal
returns c =
    let count = length c.args.self.now.hulls in
    sym (two-fix_at count c.args.axis c.args.place c.requires.axis_in (omega (arith, two-length count c.args.axis c.requires.axis_in, c.requires.place_in)))
