-- The claims of a flight are those for its distance and of its lists, one after the other.
use Rattle.std.proofs.Common.{◌≡◌, ◌∙◌, refl, sym, ap, subst, ℕ, ◌-◌, ℤ, List, [], ◌∷◌, ◌++◌, append_assoc, arith}
use Rattle.std.proofs.lemmas.List.{map-append}
use Rattle.std.proofs.lemmas.List.Elements.{All-append, All-cons}
use Rattle.gl_goal.specs.declared.any.AnyGoal.{AnyGoal}
use Rattle.gl_goal.specs.Free.{free_goal}
use Rattle.gl_goal.specs.Goal.{Goal}
use Rattle.gl_goal.specs.Triangle.{triangle_goal}
use Rattle.gl_igc.specs.declared.fix.Fix.{Fix}
use Rattle.gl_proof.specs.declared.claim.ClaimKind.{ClaimKind}
use Rattle.gl_proof.specs.declared.claim.ClaimKind.TheVariants as kind
use Rattle.gl_task.specs.declared.day_type.Kind.{Kind}
use Rattle.gl_task.specs.declared.day_type.Kind.TheVariants.{Racing, Area}
use Rattle.gl_task.specs.declared.task.Task.{Task}
use Rattle.gl_judge.specs.declared.outcome.Judged.{Judged}
use Rattle.gl_judge.specs.declared.outcome.Judged.TheVariants.{Finished, Outlanded, NoStart}
use Rattle.gl_judge.specs.declared.outcome.Window.{Window}
use Rattle.gl_judge.specs.declared.stretch.Stretch.{Stretch}
use Rattle.gl_judge.specs.Choices.{IsOutChoice, area_choice}
use Rattle.gl_judge.specs.Claimed.{FlightClaim, rule_of_claim, rules_of_claims}
use Rattle.gl_judge.specs.Claims.{AreChoices, HasLegal, HaveLegal, claim_if, free_claims, triangle_claims}
use Rattle.gl_judge.specs.Code.Claims.{AreAppended, AreClaims}

abbrev claim_by : ClaimKind → Goal → FlightClaim
claim_by kind rule = record { kind = kind; rule = rule }

none_legal : HaveLegal []
none_legal k d below = absurd (omega arith)

nil_behind : (claims : List (ClaimKind × AnyGoal)) → claims ≡ claims ++ []
nil_behind [] = refl
nil_behind (claim ∷ claims) = ap (λ (l : List (ClaimKind × AnyGoal)). claim ∷ l) (nil_behind claims)

-- nothing is appended
pub none_appended : (claims : List (ClaimKind × AnyGoal)) (Hold : List FlightClaim → Type 0) → Hold [] → AreAppended claims claims Hold
none_appended claims Hold hold = record { more = []; is = nil_behind claims; hold = hold; legal = none_legal }

-- one claim is
pub one_appended : (old new : List (ClaimKind × AnyGoal)) (claim : ClaimKind × AnyGoal) (Hold : List FlightClaim → Type 0) → new ≡ old ++ claim ∷ [] → Hold (rule_of_claim claim ∷ [])
    → HasLegal claim.0 (rule_of_claim claim).rule → AreAppended old new Hold
one_appended old new claim Hold is hold legal = record {
  more = claim ∷ [];
  is = is;
  hold = hold;
  legal = All-cons (λ (claim : FlightClaim). HasLegal claim.kind claim.rule) (rule_of_claim claim) [] legal none_legal;
}

-- none is for the distance where the task was flown as a race, or there was no start
pub raced : (contest : Kind) (task : Task) (fixes : List Fix) (judged : Stretch) (outcome : Judged) (window : Window) (seconds : ℕ) → outcome ≡ Finished window seconds → contest ≡ Racing
    → AreChoices contest task fixes judged outcome []
raced contest task fixes judged outcome window seconds outcome_is kind_is = rw (kind_is, outcome_is)

pub not_started : (contest : Kind) (task : Task) (fixes : List Fix) (judged : Stretch) (outcome : Judged) → outcome ≡ NoStart → AreChoices contest task fixes judged outcome []
not_started Racing task fixes judged outcome is = rw is
not_started (Area minimum) task fixes judged outcome is = rw is

-- one who finished a task of areas has a claim, and so has an outlanding
pub area_flown : (contest : Kind) (task : Task) (fixes : List Fix) (judged : Stretch) (outcome : Judged) (window : Window) (seconds minimum : ℕ) (rule : Goal) → outcome ≡ Finished window seconds
    → contest ≡ Area minimum → rule ≡ area_choice task fixes window → AreChoices contest task fixes judged outcome ((record { kind = kind.Area; rule = rule }) ∷ [])
area_flown contest task fixes judged outcome window seconds minimum rule outcome_is kind_is is =
    rw (kind_is, outcome_is) (ap (λ (rule : Goal). claim_by kind.Area rule ∷ []) is)

pub outlanded : (contest : Kind) (task : Task) (fixes : List Fix) (judged : Stretch) (outcome : Judged) (window : Window) (zones : ℕ) (rule : Goal) → outcome ≡ Outlanded window zones
    → IsOutChoice contest task fixes judged window zones rule → AreChoices contest task fixes judged outcome ((record { kind = kind.Out; rule = rule }) ∷ [])
outlanded Racing task fixes judged outcome window zones rule outcome_is is = rw outcome_is (rule, is, refl)
outlanded (Area minimum) task fixes judged outcome window zones rule outcome_is is = rw outcome_is (rule, is, refl)

-- a list that isn't asked for has no claim
pub free_unlisted : (task : Task) (fixes : List Fix) (judged : Stretch) → ((claim : FlightClaim) → claim_if task.free judged claim ≡ []) → [] ≡ free_claims task fixes judged
free_unlisted task fixes judged none = sym (none (claim_by kind.Free (free_goal fixes judged.from (judged.to - 1) task.rules.loss)))

pub triangle_unlisted : (task : Task) (fixes : List Fix) (judged : Stretch) → ((claim : FlightClaim) → claim_if task.triangle judged claim ≡ []) → [] ≡ triangle_claims task fixes judged
triangle_unlisted task fixes judged none = sym (none (claim_by kind.Triangle (triangle_goal fixes judged.from (judged.to - 1) task.rules.closing)))

-- the claim of one that is
pub free_listed : (task : Task) (fixes list : List Fix) (judged : Stretch) (first last : ℕ) (loss : ℤ) (rule : Goal) → list ≡ fixes → first ≡ judged.from → last ≡ judged.to - 1
    → loss ≡ task.rules.loss → rule ≡ free_goal list first last loss → ((claim : FlightClaim) → claim_if task.free judged claim ≡ claim ∷ [])
    → (record { kind = kind.Free; rule = rule }) ∷ [] ≡ free_claims task fixes judged
free_listed task fixes list judged first last loss rule list_is first_is last_is loss_is is asked =
    let same : free_goal list first last loss ≡ free_goal fixes judged.from (judged.to - 1) task.rules.loss = cc in
    ap (λ (rule : Goal). claim_by kind.Free rule ∷ []) (is ∙ same) ∙ sym (asked (claim_by kind.Free (free_goal fixes judged.from (judged.to - 1) task.rules.loss)))

pub triangle_listed : (task : Task) (fixes list : List Fix) (judged : Stretch) (first last : ℕ) (rule : Goal) → list ≡ fixes → first ≡ judged.from → last ≡ judged.to - 1
    → rule ≡ triangle_goal list first last task.rules.closing → ((claim : FlightClaim) → claim_if task.triangle judged claim ≡ claim ∷ [])
    → (record { kind = kind.Triangle; rule = rule }) ∷ [] ≡ triangle_claims task fixes judged
triangle_listed task fixes list judged first last rule list_is first_is last_is is asked =
    let same : triangle_goal list first last task.rules.closing ≡ triangle_goal fixes judged.from (judged.to - 1) task.rules.closing = cc in
    ap (λ (rule : Goal). claim_by kind.Triangle rule ∷ []) (is ∙ same) ∙ sym (asked (claim_by kind.Triangle (triangle_goal fixes judged.from (judged.to - 1) task.rules.closing)))

-- the rules of three parts
parts : (chosen free triangle : List (ClaimKind × AnyGoal)) → rules_of_claims (chosen ++ (free ++ triangle)) ≡ rules_of_claims chosen ++ (rules_of_claims free ++ rules_of_claims triangle)
parts chosen free triangle =
    map-append rule_of_claim chosen (free ++ triangle) ∙ ap (λ (rest : List FlightClaim). rules_of_claims chosen ++ rest) (map-append rule_of_claim free triangle)

all_legal : (a b c : List FlightClaim) → HaveLegal a → HaveLegal b → HaveLegal c → HaveLegal (a ++ (b ++ c))
all_legal a b c one other third =
    let P : FlightClaim → Type 0 = λ claim. HasLegal claim.kind claim.rule in
    All-append P a (b ++ c) one (All-append P b c other third)

-- claims for the distance, of the free distances and of the triangles are those of a flight
module _ (task : Task) (fixes : List Fix) (judged : Stretch) (outcome : Judged) (none one two three : List (ClaimKind × AnyGoal))
    (chosen : AreAppended none one (AreChoices task.kind task fixes judged outcome)) (free : AreAppended one two (λ claims. claims ≡ free_claims task fixes judged))
    (triangle : AreAppended two three (λ claims. claims ≡ triangle_claims task fixes judged)) where
  whole : three ≡ none ++ (chosen.more ++ (free.more ++ triangle.more))
  whole =
      triangle.is ∙ ap (λ (l : List (ClaimKind × AnyGoal)). l ++ triangle.more) (free.is ∙ ap (λ (l : List (ClaimKind × AnyGoal)). l ++ free.more) chosen.is)
      ∙ simp append_assoc

  listed : AreClaims task fixes judged outcome (rules_of_claims (chosen.more ++ (free.more ++ triangle.more)))
  listed = record {
    choices = rules_of_claims chosen.more;
    are = chosen.hold;
    all = parts chosen.more free.more triangle.more ∙ (ap (λ (l : List FlightClaim). rules_of_claims chosen.more ++ (l ++ rules_of_claims triangle.more)) free.hold
        ∙ ap (λ (l : List FlightClaim). rules_of_claims chosen.more ++ (free_claims task fixes judged ++ l)) triangle.hold);
  }

  pub claims_appended : AreAppended none three (AreClaims task fixes judged outcome)
  claims_appended = record {
    more = chosen.more ++ (free.more ++ triangle.more);
    is = whole;
    hold = listed;
    legal = subst HaveLegal (sym (parts chosen.more free.more triangle.more))
        (all_legal (rules_of_claims chosen.more) (rules_of_claims free.more) (rules_of_claims triangle.more) chosen.legal free.legal triangle.legal);
  }

-- what is appended to an empty list is all of it
module _ (none all : List (ClaimKind × AnyGoal)) (Hold : List FlightClaim → Type 0) (begun : none ≡ []) (appended : AreAppended none all Hold) where
  from_none : all ≡ appended.more
  from_none = appended.is ∙ ap (λ (l : List (ClaimKind × AnyGoal)). l ++ appended.more) begun

  pub all_hold : Hold (rules_of_claims all)
  all_hold = subst Hold (sym (ap rules_of_claims from_none)) appended.hold

  pub all_have_legal : HaveLegal (rules_of_claims all)
  all_have_legal = subst HaveLegal (sym (ap rules_of_claims from_none)) appended.legal
