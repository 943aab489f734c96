-- The goal of any kind is that of its kind.
use Rattle.std.specs.Prelude.{◌<◌, List, length, All}
use Rattle.gl_goal.specs.declared.leg.Leg.{Leg}
use Rattle.gl_goal.specs.declared.any.AnyGoal.{AnyGoal}
use Rattle.gl_goal.specs.declared.any.AnyGoal.TheVariants.{Area, Out, Free, Triangle}
use Rattle.gl_goal.specs.AreaGoal.{area_rule}
use Rattle.gl_goal.specs.FreeGoal.{rule_of}
use Rattle.gl_goal.specs.FreeLegs.{IsLeg}
use Rattle.gl_goal.specs.OutGoal.{out_rule}
use Rattle.gl_goal.specs.Goal.{Goal}
use Rattle.gl_goal.specs.TriangleGoal.{triangle_rule}

abbrev pub any_rule : AnyGoal → Goal
any_rule (Area g) = area_rule g
any_rule (Out g) = out_rule g
any_rule (Free g) = rule_of g
any_rule (Triangle g) = triangle_rule g

-- what its measured legs are; only free distances keep any
abbrev pub any_legs : AnyGoal → List Leg → Type 0
any_legs (Area g) legs = Unit {0}
any_legs (Out g) legs = Unit {0}
any_legs (Free g) legs = (0 < length legs) × All (IsLeg g) legs
any_legs (Triangle g) legs = Unit {0}
