use Rattle.gl_goal.specs.declared.outlanding.OutGoal.{OutGoal}
use Rattle.gl_goal.specs.Out.{out_goal}
use Rattle.gl_goal.specs.Lists.{AreLists}
use Rattle.gl_goal.specs.Goal.{Goal}

-- the goal that the fields of an `OutGoal` stand for
abbrev pub out_rule : OutGoal → Goal
out_rule g = out_goal g.lists.fixes g.lists.lists g.start g.fixed g.target

-- its lists are well formed
pub out_lists : (g : OutGoal) → AreLists g.lists.fixes g.lists.lists
out_lists g = record {
  some_list = g.some_list;
  ten_lists = g.ten_lists;
  some_number = g.some_number;
  rising = g.rising;
  named = g.named;
}
