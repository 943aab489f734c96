-- The claims of a flight, as they are made one after the other.
use Rattle.std.specs.Prelude.{◌≡◌, List, ◌++◌}
use Rattle.gl_goal.specs.declared.any.AnyGoal.{AnyGoal}
use Rattle.gl_igc.specs.declared.fix.Fix.{Fix}
use Rattle.gl_proof.specs.declared.claim.ClaimKind.{ClaimKind}
use Rattle.gl_task.specs.declared.task.Task.{Task}
use Rattle.gl_judge.specs.declared.outcome.Judged.{Judged}
use Rattle.gl_judge.specs.declared.stretch.Stretch.{Stretch}
use Rattle.gl_judge.specs.Claimed.{FlightClaim, rules_of_claims}
use Rattle.gl_judge.specs.Claims.{AreChoices, HaveLegal, list_claims}

-- some claims of which this holds were appended to a list, each with a legal choice
pub record AreAppended (old new : List (ClaimKind × AnyGoal)) (Hold : List FlightClaim → Type 0)
    : Type 0 where
  pub more : List (ClaimKind × AnyGoal)
  pub is : new ≡ old ++ more
  pub hold : Hold (rules_of_claims more)
  pub legal : HaveLegal (rules_of_claims more)

-- the claims of a flight whose outcome is known: those for the distance, and then those of the
-- lists
pub record AreClaims (task : Task) (fixes : List Fix) (judged : Stretch) (outcome : Judged)
    (claims : List FlightClaim) : Type 0 where
  pub choices : List FlightClaim
  pub are : AreChoices task.kind task fixes judged outcome choices
  pub all : claims ≡ choices ++ list_claims task fixes judged
