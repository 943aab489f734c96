use Rattle.std.proofs.Common.{arith}
use Rattle.std.proofs.lemmas.List.{length-replicate}
use Rattle.std.proofs.lemmas.List.Elements.{All-replicate}
use Rattle.gl_goal.specs.declared.leg.Leg.{Leg}
use Rattle.gl_goal.specs.FreeLegs.{IsLeg}
use Rattle.gl_goal.proofs.free_goal.FreeGoalGoal.leg.Goals as goal

pub returns : goal.returns
returns c = λ count some.
    (omega (arith, length-replicate {A = Leg} count c.measured.result), All-replicate (IsLeg c.args.self.now) count c.measured.result c.measured.ensures.leg)
