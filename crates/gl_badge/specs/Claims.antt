-- The badge claims of a flight, each with its goal.
use Rattle.std.specs.Prelude.{◌≡◌, ℕ, ◌-◌, pos, List, [], ◌∷◌, length, map}
use Rattle.gl_sphere.specs.declared.place.Vec3.{Vec3}
use Rattle.gl_igc.specs.declared.fix.Fix.{Fix}
use Rattle.gl_igc.specs.declared.recording.Recording.{Recording}
use Rattle.gl_goal.specs.Area.{area_goal}
use Rattle.gl_goal.specs.AreaGoal.{area_rule}
use Rattle.gl_goal.specs.Chain.{last_of}
use Rattle.gl_goal.specs.Free.{free_goal}
use Rattle.gl_goal.specs.FreeGoal.{rule_of}
use Rattle.gl_goal.specs.Goal.{Goal}
use Rattle.gl_badge.specs.declared.badge.Badge.{Badge}
use Rattle.gl_badge.specs.declared.badge.Badge.TheVariants as badge
use Rattle.gl_badge.specs.declared.claim.BadgeClaim.{BadgeClaim}
use Rattle.gl_badge.specs.declared.claim.BadgeClaim.TheVariants.{Distance, Gain, DeclaredGoal}
use Rattle.gl_badge.specs.declared.shown.Course.{Course}
use Rattle.gl_badge.specs.declared.shown.Course.TheVariants.{Undeclared, Long, Missed, Lists}
use Rattle.gl_badge.specs.Course.{IsCourse}
use Rattle.gl_badge.specs.Gain.{gain_goal}
use Rattle.gl_badge.specs.GainGoal.{gain_rule}

-- which badge a claim is for, and the rule of its goal
abbrev pub rule_of_claim : BadgeClaim → Badge × Goal
rule_of_claim (Distance goal) = (badge.Distance, rule_of goal)
rule_of_claim (Gain goal) = (badge.Gain, gain_rule goal)
rule_of_claim (DeclaredGoal goal) = (badge.DeclaredGoal, area_rule goal)

abbrev pub rules_of_claims : List BadgeClaim → List (Badge × Goal)
rules_of_claims claims = map rule_of_claim claims

-- the free distance over all fixes, with a loss of at most 1,000 m
abbrev pub distance_claim : List Fix → Badge × Goal
distance_claim fixes = (badge.Distance, free_goal fixes 0 (length fixes - 1) (pos 1_000))

-- the gain of height over all fixes
abbrev pub gain_claim : List Fix → Badge × Goal
gain_claim fixes = (badge.Gain, gain_goal fixes)

-- the way from the first of some points through one fix of each list to the last of the points
abbrev pub goals_through : List Fix → List (List ℕ) → List Vec3 → List (Badge × Goal)
goals_through fixes lists [] = []
goals_through fixes lists (start ∷ points) =
    (badge.DeclaredGoal, area_goal fixes lists start (last_of start points) 0) ∷ []

-- the claim for a declared course of which each point was reached
abbrev pub goal_claims : List Fix → Course → List (Badge × Goal)
goal_claims fixes Undeclared = []
goal_claims fixes Long = []
goal_claims fixes (Missed number) = []
goal_claims fixes (Lists lists points) =
    goals_through fixes (map (λ list. list.items) lists.items) points.items

-- the badge claims of a recording, in their order
pub record AreBadgeClaims (recording : Recording) (claims : List (Badge × Goal)) : Type 0 where
  pub course : Course
  pub is : IsCourse recording course
  pub all : claims
      ≡ distance_claim recording.fixes ∷ gain_claim recording.fixes
      ∷ goal_claims recording.fixes course
