use Rattle.std.proofs.Common.{arith}
use Rattle.gl_goal.proofs.FreeHulls.{hull-fits, hulls_of-five}
use Rattle.gl_goal.proofs.free.FreeGoal.hulls_of.Goals as goal

pub hull-requires : goal.hull-requires
hull-requires c = hull-fits c.args.self.now c.args.cell.now 0 _ c.requires (omega arith)

pub hull-requires-2 : goal.hull-requires-2
hull-requires-2 c = hull-fits c.args.self.now c.args.cell.now 1 _ c.requires (omega arith)

pub hull-requires-3 : goal.hull-requires-3
hull-requires-3 c = hull-fits c.args.self.now c.args.cell.now 2 _ c.requires (omega arith)

pub hull-requires-4 : goal.hull-requires-4
hull-requires-4 c = hull-fits c.args.self.now c.args.cell.now 3 _ c.requires (omega arith)

pub hull-requires-5 : goal.hull-requires-5
hull-requires-5 c = hull-fits c.args.self.now c.args.cell.now 4 _ c.requires (omega arith)

pub returns : goal.returns
returns c =
    hulls_of-five c.args.self.now c.args.cell.now c.index-cell-0.result c.index-cell-1.result c.index-cell-2.result c.index-cell-3.result c.index-cell-4.result _ _ _ _ _ c.requires
    c.hull.ensures.value c.hull-2.ensures.value c.hull-3.ensures.value c.hull-4.ensures.value c.hull-5.ensures.value
