use Rattle.std.proofs.Common.{arith}
use Rattle.gl_goal.proofs.Listed.{cell-axes, greatest_way_more}
use Rattle.gl_goal.proofs.lists.Lists.greatest_way.Goals as goal

pub loop-axis-preserved : goal.loop-axis-preserved
loop-axis-preserved c =
    greatest_way_more _ _ _ _ _ _ _ c.loop-axis.invariant c.hull-next.ensures c.leg_at_most-length.ensures.value c.leg_at_most-length.ensures.bound

pub invariant_of-result : goal.invariant_of-result
invariant_of-result c = record {
  below = omega (arith, c.loop-axis.invariant.most, c.requires.axes_in, cell-axes c.args.self.now.lists c.args.cell.now c.requires.covers, c.args.cell.now.ten_axes);
}
