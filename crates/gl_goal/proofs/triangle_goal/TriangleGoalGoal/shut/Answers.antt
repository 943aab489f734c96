use Rattle.std.proofs.Common.{arith}
use Rattle.gl_goal.specs.Triangle.{triangle_goal}
use Rattle.gl_goal.proofs.Triangles.{end-in}
use Rattle.gl_goal.proofs.triangle_goal.TriangleGoalGoal.shut.Goals as goal

pub closes-requires : goal.closes-requires
unfolding triangle_goal
closes-requires c = end-in c.args.self.now c.args.cell.now 0 _ c.requires (omega arith)
