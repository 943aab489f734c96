use Rattle.std.proofs.Common.{◌∙◌, length, ap, arith}
use Rattle.gl_goal.specs.Free.{free_goal}
use Rattle.gl_goal.specs.Lemmas.Free.{length-numbers_between}
use Rattle.gl_goal.proofs.Fives.{five_axis}
use Rattle.gl_goal.proofs.free_goal.FreeGoalGoal.len.Goals as goal

pub returns : goal.returns
unfolding free_goal
returns c =
    let g = c.args.self.now in
    omega (arith, ap length (five_axis g.first g.last c.args.axis c.requires) ∙ length-numbers_between g.first g.last)
