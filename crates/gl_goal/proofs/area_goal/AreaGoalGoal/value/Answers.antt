use Rattle.std.proofs.Common.{arith}
use Rattle.gl_box.specs.Tuple.{places_of}
use Rattle.gl_goal.specs.Area.{area_goal}
use Rattle.gl_goal.specs.Chain.{fixes_at, points_of}
use Rattle.gl_goal.specs.Goal.{chosen}
use Rattle.gl_goal.proofs.Courses.{course-flown}
use Rattle.gl_goal.proofs.area_goal.AreaGoalGoal.value.Goals as goal

pub returns : goal.returns
unfolding area_goal
returns c =
    let g = c.args.self.now in
    let points = points_of (fixes_at g.lists.fixes (chosen g.lists.lists (places_of c.args.tuple.now))) in
    omega (
      arith,
      c.saturating_sub.ensures,
      course-flown g.lists.fixes g.lists.lists
          (places_of c.args.tuple.now) g.start g.finish c.count.result _ _ _ c.count.ensures.lists c.requires c.count.ensures.count c.way-way.ensures.length c.way-way.ensures.end c.leg.ensures.value,
    )
