-- A claim of a flight, and a claim with its goal as contracts see it.
use Rattle.std.specs.Prelude.{List, map}
use Rattle.gl_goal.specs.declared.any.AnyGoal.{AnyGoal}
use Rattle.gl_goal.specs.AnyGoal.{any_rule}
use Rattle.gl_goal.specs.Goal.{Goal}
use Rattle.gl_proof.specs.declared.claim.ClaimKind.{ClaimKind}

-- a claim of a flight: its kind, and the rule of its goal
pub record FlightClaim : Type 0 where
  pub kind : ClaimKind
  pub rule : Goal

-- the kind of a claim, and the rule of its goal
abbrev pub rule_of_claim : ClaimKind × AnyGoal → FlightClaim
rule_of_claim claim = record { kind = claim.0; rule = any_rule claim.1 }

abbrev pub rules_of_claims : List (ClaimKind × AnyGoal) → List FlightClaim
rules_of_claims claims = map rule_of_claim claims
