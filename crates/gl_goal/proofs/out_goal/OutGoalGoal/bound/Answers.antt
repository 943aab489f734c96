use Rattle.std.proofs.Common.{arith}
use Rattle.gl_box.specs.Cell.{spans_of}
use Rattle.gl_goal.specs.Out.{out_goal}
use Rattle.gl_goal.proofs.Courses.{way_out-bound}
use Rattle.gl_goal.proofs.out_goal.OutGoalGoal.bound.Goals as goal

pub returns : goal.returns
unfolding out_goal
returns c =
    let g = c.args.self.now in
    omega (
      arith,
      c.saturating_sub.ensures,
      way_out-bound g.lists.fixes g.lists.lists
          (spans_of c.args.cell.now) g.start g.target c.count-last.result _ _ _ _ _ _ _ c.count-last.ensures.lists c.requires c.count-last.ensures.count c.point.ensures c.point-target.ensures
          c.greatest_way-way.ensures.length c.greatest_way-way.ensures.end c.hull.ensures c.leg_at_least-rest.ensures.value c.leg_at_most.ensures.value,
    )
