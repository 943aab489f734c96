use Rattle.gl_goal.specs.declared.area.AreaGoal.{AreaGoal}
use Rattle.gl_goal.specs.Area.{area_goal}
use Rattle.gl_goal.specs.Lists.{AreLists}
use Rattle.gl_goal.specs.Goal.{Goal}

-- the goal that the fields of an `AreaGoal` stand for
abbrev pub area_rule : AreaGoal → Goal
area_rule g = area_goal g.lists.fixes g.lists.lists g.start g.finish g.off

-- its lists are well formed
pub area_lists : (g : AreaGoal) → AreLists g.lists.fixes g.lists.lists
area_lists g = record {
  some_list = g.some_list;
  ten_lists = g.ten_lists;
  some_number = g.some_number;
  rising = g.rising;
  named = g.named;
}
