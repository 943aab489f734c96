use Rattle.std.proofs.Common.{arith}
use Rattle.gl_box.specs.Tuple.{places_of}
use Rattle.gl_goal.specs.Out.{out_goal}
use Rattle.gl_goal.proofs.Courses.{way_out-flown}
use Rattle.gl_goal.proofs.out_goal.OutGoalGoal.value.Goals as goal

pub returns : goal.returns
unfolding out_goal
returns c =
    let g = c.args.self.now in
    omega (
      arith,
      c.saturating_sub.ensures,
      way_out-flown g.lists.fixes g.lists.lists
          (places_of c.args.tuple.now) g.start g.target c.count-last.result _ _ _ _ _ c.count-last.ensures.lists c.requires c.count-last.ensures.count c.way-way.ensures.length c.way-way.ensures.end
          c.point.ensures c.leg-rest.ensures.value c.leg.ensures.value,
    )
