-- What is expected of a proof, claim by claim.
use Rattle.std.specs.Prelude.{◌≡◌, ℕ, List, map}
use Rattle.gl_goal.specs.Certificate.{IsCertificate}
use Rattle.gl_goal.specs.Goal.{IsOptimum, Goal}
use Rattle.gl_proof.specs.declared.claim.ClaimKind.{ClaimKind}
use Rattle.gl_proof.specs.Claim.{Statement}
use Rattle.gl_judge.specs.Claimed.{FlightClaim}

-- a claim that a proof has to have: the number of an entrant, a kind and the rule of a goal
pub record Expected : Type 0 where
  pub number : List ℕ
  pub kind : ClaimKind
  pub rule : Goal

-- A statement proves an expected claim: it has its number and its kind, it is a certificate of its
-- goal, and no legal choice is worth more than its total, which one is worth; without a total no
-- choice is legal.
pub record Proves (expected : Expected) (statement : Statement) : Type 0 where
  pub number : statement.number ≡ expected.number
  pub kind : statement.kind ≡ expected.kind
  pub certificate :
      IsCertificate expected.rule statement.total statement.fixes statement.boxes
  pub optimum : IsOptimum expected.rule statement.total

-- what is expected of an entrant: each claim of the flight, under the entrant's number
abbrev pub expected_of : List ℕ → List FlightClaim → List Expected
expected_of number claims =
    map
    (λ (claim : FlightClaim). record { number = number; kind = claim.kind; rule = claim.rule })
    claims
