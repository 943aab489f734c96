use Rattle.gl_goal.proofs.Triangles.{three_hulls}
use Rattle.gl_goal.proofs.triangle.TriangleGoal.hulls_of.Goals as goal

pub returns : goal.returns
returns c = three_hulls c.args.self.now c.args.cell.now _ _ _ c.requires c.hull.ensures c.hull-2.ensures c.hull-3.ensures
