use Rattle.gl_goal.specs.declared.free.FreeGoal.{FreeGoal}
use Rattle.gl_goal.specs.Free.{free_goal}
use Rattle.gl_goal.specs.Goal.{Goal}

-- the goal that the fields of a `FreeGoal` stand for
abbrev pub rule_of : FreeGoal → Goal
rule_of g = free_goal g.fixes.items g.first g.last g.loss
