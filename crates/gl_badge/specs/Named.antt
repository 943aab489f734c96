-- How badge claims are named in a proof.
use Rattle.std.specs.Prelude.{ℕ, List, map, codes}
use Rattle.gl_goal.specs.Goal.{Goal}
use Rattle.gl_proof.specs.declared.claim.ClaimKind.{ClaimKind}
use Rattle.gl_proof.specs.declared.claim.ClaimKind.TheVariants as kind
use Rattle.gl_badge.specs.declared.badge.Badge.{Badge}
use Rattle.gl_badge.specs.declared.badge.Badge.TheVariants.{Distance, Gain, DeclaredGoal}
use Rattle.gl_day.specs.Expected.{Expected}

-- what stands in the place of an entrant's number
abbrev pub number_of : Badge → List ℕ
number_of Distance = codes "DISTANCE"
number_of Gain = codes "GAIN"
number_of DeclaredGoal = codes "GOAL"

-- the word of its kind: each goal has that of the goal of a day that is most like it
abbrev pub kind_of : Badge → ClaimKind
kind_of Distance = kind.Free
kind_of Gain = kind.Out
kind_of DeclaredGoal = kind.Area

-- what is expected of a proof for a badge with a goal: its number, its kind and the goal
abbrev pub expected_claim : Badge → Goal → Expected
expected_claim badge rule =
    record { number = number_of badge; kind = kind_of badge; rule = rule }

-- what is expected of a proof, for each badge claim
abbrev pub expected_of : List (Badge × Goal) → List Expected
expected_of claims = map (λ claim. expected_claim claim.0 claim.1) claims
