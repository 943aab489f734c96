use Rattle.gl_goal.specs.declared.triangle.TriangleGoal.{TriangleGoal}
use Rattle.gl_goal.specs.Goal.{Goal}
use Rattle.gl_goal.specs.Triangle.{triangle_goal}

-- the goal that the fields of a `TriangleGoal` stand for
abbrev pub triangle_rule : TriangleGoal → Goal
triangle_rule g = triangle_goal g.lists.fixes g.first g.last g.closing
