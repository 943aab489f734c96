-- The goal of any kind meets the laws of a goal.
use Rattle.gl_goal.specs.declared.any.AnyGoal.{AnyGoal}
use Rattle.gl_goal.specs.declared.any.AnyGoal.TheVariants.{Area, Out, Free, Triangle}
use Rattle.gl_goal.specs.AreaGoal.{area_lists}
use Rattle.gl_goal.specs.OutGoal.{out_lists}
use Rattle.gl_goal.specs.Goal.{IsGoal}
use Rattle.gl_goal.specs.Lemmas.Area.{area_goal-is_goal}
use Rattle.gl_goal.specs.Lemmas.Free.{free_goal-is_goal}
use Rattle.gl_goal.specs.Lemmas.Out.{out_goal-is_goal}
use Rattle.gl_goal.specs.Lemmas.Triangle.{triangle_goal-is_goal}
use Rattle.gl_goal.specs.AnyGoal.{any_rule}

pub any_goal-is_goal : (g : AnyGoal) → IsGoal (any_rule g)
any_goal-is_goal (Area g) =
    area_goal-is_goal g.lists.fixes g.lists.lists g.start g.finish g.off (area_lists g)
any_goal-is_goal (Out g) =
    out_goal-is_goal g.lists.fixes g.lists.lists g.start g.fixed g.target (out_lists g)
    g.fixed_below
any_goal-is_goal (Free g) =
    free_goal-is_goal g.fixes.items g.first g.last g.loss g.in_order g.within
any_goal-is_goal (Triangle g) =
    triangle_goal-is_goal g.lists.fixes g.first g.last g.closing g.in_order g.within
