use Rattle.std.proofs.Common.{arith}
use Rattle.gl_box.specs.Cell.{spans_of}
use Rattle.gl_goal.specs.Area.{area_goal}
use Rattle.gl_goal.proofs.Courses.{course-bound}
use Rattle.gl_goal.proofs.area_goal.AreaGoalGoal.bound.Goals as goal

pub returns : goal.returns
unfolding area_goal
returns c =
    let g = c.args.self.now in
    omega (
      arith,
      c.saturating_sub.ensures,
      course-bound g.lists.fixes g.lists.lists
          (spans_of c.args.cell.now) g.start g.finish c.count.result _ _ _ _ _ c.requires c.count.ensures.count c.point.ensures c.point-2.ensures c.greatest_way-way.ensures.length
          c.greatest_way-way.ensures.end c.leg_at_most.ensures.value,
    )
