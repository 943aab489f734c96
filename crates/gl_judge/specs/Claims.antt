-- Which claims are expected of a flight, each with its goal.
use Rattle.std.specs.Prelude.{◌≡◌, ℕ, ◌-◌, Bool, ◌&&◌, nat_lt, if◌then◌else◌, List, [], ◌∷◌, ◌++◌, All}
use Rattle.gl_airspace.specs.declared.volume.Airspace.{Airspace}
use Rattle.gl_igc.specs.declared.fix.Fix.{Fix}
use Rattle.gl_igc.specs.declared.recording.Recording.{Recording}
use Rattle.gl_goal.specs.Free.{free_goal}
use Rattle.gl_goal.specs.Goal.{IsLegal, Goal}
use Rattle.gl_goal.specs.Triangle.{triangle_goal}
use Rattle.gl_proof.specs.declared.claim.ClaimKind.{ClaimKind}
use Rattle.gl_proof.specs.declared.claim.ClaimKind.TheVariants as kind
use Rattle.gl_task.specs.declared.day_type.Kind.{Kind}
use Rattle.gl_task.specs.declared.day_type.Kind.TheVariants.{Racing, Area}
use Rattle.gl_task.specs.declared.task.Task.{Task}
use Rattle.gl_judge.specs.declared.outcome.Judged.{Judged}
use Rattle.gl_judge.specs.declared.outcome.Judged.TheVariants.{Finished, Outlanded, NoStart}
use Rattle.gl_judge.specs.declared.stretch.Stretch.{Stretch}
use Rattle.gl_judge.specs.Choices.{IsOutChoice, area_choice}
use Rattle.gl_judge.specs.JudgedFixes.{IsJudgedRange}
use Rattle.gl_judge.specs.Outcome.{IsOutcome}
use Rattle.gl_judge.specs.Claimed.{FlightClaim}

-- The claims for the distance of a flight: one who finished a task of areas has one, and so has an
-- outlanding.
abbrev pub AreChoices : Kind → Task → List Fix → Stretch → Judged → List FlightClaim → Type 0
AreChoices Racing task fixes judged (Finished window seconds) claims = claims ≡ []
AreChoices (Area minimum) task fixes judged (Finished window seconds) claims =
    claims ≡ (record { kind = kind.Area; rule = area_choice task fixes window }) ∷ []
AreChoices contest task fixes judged (Outlanded window zones) claims =
    (goal : Goal) × IsOutChoice contest task fixes judged window zones goal
    × (claims ≡ (record { kind = kind.Out; rule = goal }) ∷ [])
AreChoices contest task fixes judged NoStart claims = claims ≡ []

-- a claim of a list, where the list is asked for and a fix is judged
abbrev pub claim_if : Bool → Stretch → FlightClaim → List FlightClaim
claim_if asked judged claim = if asked && nat_lt judged.from judged.to then claim ∷ [] else []

-- the claim of the list of free distances, over all judged fixes
abbrev pub free_claims : Task → List Fix → Stretch → List FlightClaim
free_claims task fixes judged =
    claim_if task.free judged
    (record {
      kind = kind.Free;
      rule = free_goal fixes judged.from (judged.to - 1) task.rules.loss;
    })

-- the claim of the list of triangles, over all judged fixes
abbrev pub triangle_claims : Task → List Fix → Stretch → List FlightClaim
triangle_claims task fixes judged =
    claim_if task.triangle judged
    (record {
      kind = kind.Triangle;
      rule = triangle_goal fixes judged.from (judged.to - 1) task.rules.closing;
    })

-- the claims of the lists
abbrev pub list_claims : Task → List Fix → Stretch → List FlightClaim
list_claims task fixes judged =
    free_claims task fixes judged ++ triangle_claims task fixes judged

-- the claims that are expected of a flight, in their order
pub record AreExpected (task : Task) (air : Airspace) (recording : Recording)
    (claims : List FlightClaim) : Type 0 where
  pub judged : Stretch
  pub range : IsJudgedRange task.closes air.volumes recording.fixes judged
  pub outcome : Judged
  pub is : IsOutcome task recording judged outcome
  pub choices : List FlightClaim
  pub are : AreChoices task.kind task recording.fixes judged outcome choices
  pub all : claims ≡ choices ++ list_claims task recording.fixes judged

-- a kind of claim of which some choice is always legal
abbrev pub HasLegal : ClaimKind → Goal → Type 0
HasLegal kind.Area goal = (tuple : List ℕ) × IsLegal goal tuple
HasLegal kind.Out goal = (tuple : List ℕ) × IsLegal goal tuple
HasLegal kind.Free goal = (tuple : List ℕ) × IsLegal goal tuple
HasLegal kind.Triangle goal = Unit {0}

-- each claim has a legal choice
abbrev pub HaveLegal : List FlightClaim → Type 0
HaveLegal claims = All (λ claim. HasLegal claim.kind claim.rule) claims
