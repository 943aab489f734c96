use Rattle.std.proofs.Common.{arith}
use Rattle.gl_goal.proofs.Listed.{axes-most, way_more}
use Rattle.gl_goal.proofs.lists.Lists.way.Goals as goal

pub loop-axis-preserved : goal.loop-axis-preserved
loop-axis-preserved c =
    way_more _ _ _ _ _ _ _ c.loop-axis.invariant c.point-next.ensures c.leg-length.ensures.value c.leg-length.ensures.bound

pub invariant_of-result : goal.invariant_of-result
invariant_of-result c = record {
  below = omega (arith, c.loop-axis.invariant.most, c.requires.axes_in, axes-most c.args.self.now.lists c.args.tuple.now c.requires.tuple);
}
