use Rattle.gl_badge.specs.declared.gain.GainGoal.{GainGoal}
use Rattle.gl_badge.specs.Gain.{gain_goal}
use Rattle.gl_goal.specs.Goal.{Goal}

-- the goal that the fields of a `GainGoal` stand for
abbrev pub gain_rule : GainGoal → Goal
gain_rule g = gain_goal g.hulls
