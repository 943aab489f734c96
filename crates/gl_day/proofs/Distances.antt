-- The claim for the distance of a flight has a total.
use Rattle.std.proofs.Common.{◌≡◌, ◌∙◌, sym, ap, subst, refl, ℕ, List, [], ◌∷◌, ◌++◌, Bool, true, Option, None, Some, arith}
use Rattle.std.specs.Prelude.{IsTrue, IsSome}
use Rattle.std.specs.List.{AllZip}
use Rattle.gl_airspace.specs.declared.volume.Airspace.{Airspace}
use Rattle.gl_igc.specs.declared.recording.Recording.{Recording}
use Rattle.gl_goal.specs.declared.any.AnyGoal.{AnyGoal}
use Rattle.gl_goal.specs.Lemmas.AnyGoal.{any_goal-is_goal}
use Rattle.gl_goal.specs.AnyGoal.{any_rule}
use Rattle.gl_goal.proofs.Optimum.{certificate_optimum}
use Rattle.gl_goal.specs.Goal.{IsLegal, Goal}
use Rattle.gl_judge.specs.declared.outcome.Judged.{Judged}
use Rattle.gl_judge.specs.declared.outcome.Judged.TheVariants.{Finished, Outlanded, NoStart}
use Rattle.gl_judge.specs.declared.stretch.Stretch.{Stretch}
use Rattle.gl_judge.specs.Claims.{AreChoices, AreExpected, HasLegal, HaveLegal}
use Rattle.gl_judge.specs.Marking.{is_chosen}
use Rattle.gl_judge.specs.Outcome.{IsJudged, IsOutcome}
use Rattle.gl_proof.specs.declared.claim.ClaimKind.{ClaimKind}
use Rattle.gl_proof.specs.declared.claim.ClaimKind.TheVariants as kind
use Rattle.gl_proof.specs.Claim.{Statement}
use Rattle.gl_task.specs.declared.day_type.Kind.{Kind}
use Rattle.gl_task.specs.declared.day_type.Kind.TheVariants.{Racing, Area}
use Rattle.gl_task.specs.declared.task.Task.{Task}
use Rattle.gl_day.specs.Expected.{Proves, expected_of}
use Rattle.gl_judge.specs.Claimed.{FlightClaim, rules_of_claims}
use Rattle.gl_judge.proofs.OneList.{range_alone, some_judged}
use Rattle.gl_day.specs.Totals.{claimed_total, is_distance}
use Rattle.gl_day.proofs.Named.{legal_total}

-- what proves a claim with a legal choice has a total
proved_some : (number : List ℕ) (name : ClaimKind) (goal : AnyGoal) (statement : Statement) (tuple : List ℕ) → Proves (record { number = number; kind = name; rule = any_rule goal }) statement
    → IsLegal (any_rule goal) tuple → IsSome statement.total
proved_some number name goal statement tuple proves legal =
    legal_total (any_rule goal) statement.total tuple (certificate_optimum (any_rule goal) statement.total statement.fixes statement.boxes (any_goal-is_goal goal) proves.certificate) legal

total_first : (test : ClaimKind → Bool) (statement : Statement) (statements : List Statement) (total : Option ℕ) → statement.total ≡ total → IsSome total → test statement.kind ≡ true
    → IsSome (claimed_total test (statement ∷ statements))
total_first test statement statements None is some of_kind = absurd (cc)
total_first test statement statements (Some total) is some of_kind = rw (of_kind, is) refl

-- a claim of areas or of an outlanding comes first
record ComesFirst (claims : List FlightClaim) : Type 0 where
  name : ClaimKind
  rule : Goal
  others : List FlightClaim
  are : claims ≡ (record { kind = name; rule = rule }) ∷ others
  counts : is_distance name ≡ true

chosen_first : (contest : Kind) (task : Task) (recording : Recording) (judged : Stretch) (o p : Judged) (choices others : List FlightClaim) → IsOutcome task recording judged o
    → IsOutcome task recording judged p → AreChoices contest task recording.fixes judged p choices → IsTrue (is_chosen contest o) → ComesFirst (choices ++ others)
chosen_first Racing task recording judged (Finished w s) p choices others is also are chosen = absurd (cc)
chosen_first (Area minimum) task recording judged (Finished w s) (Finished v t) choices others is also are chosen =
    record { name = kind.Area; rule = _; others = others; are = ap (λ (l : List FlightClaim). l ++ others) are; counts = refl }
chosen_first (Area minimum) task recording judged (Finished w s) (Outlanded v n) choices others is also are chosen = absurd (also.incomplete w.first is.first.is)
chosen_first (Area minimum) task recording judged (Finished w s) NoStart choices others is also are chosen = absurd (also w.first is.first.is.start)
chosen_first contest task recording judged (Outlanded w m) (Finished v t) choices others is also are chosen = absurd (is.incomplete v.first also.first.is)
chosen_first Racing task recording judged (Outlanded w m) (Outlanded v n) choices others is also (rule, made, are) chosen =
    record { name = kind.Out; rule = rule; others = others; are = ap (λ (l : List FlightClaim). l ++ others) are; counts = refl }
chosen_first (Area minimum) task recording judged (Outlanded w m) (Outlanded v n) choices others is also (rule, made, are) chosen =
    record { name = kind.Out; rule = rule; others = others; are = ap (λ (l : List FlightClaim). l ++ others) are; counts = refl }
chosen_first contest task recording judged (Outlanded w m) NoStart choices others is also are chosen = absurd (also w.first is.first.is)
chosen_first Racing task recording judged NoStart p choices others is also are chosen = absurd (cc)
chosen_first (Area minimum) task recording judged NoStart p choices others is also are chosen = absurd (cc)

legal_of : (name : ClaimKind) (rule : Goal) → is_distance name ≡ true → HasLegal name rule → (tuple : List ℕ) × IsLegal rule tuple
legal_of kind.Area rule counts legal = legal
legal_of kind.Out rule counts legal = legal
legal_of kind.Free rule counts legal = legal
legal_of kind.Triangle rule counts legal = absurd (cc)

-- the kind of the first claim
abbrev head_name : ClaimKind → List FlightClaim → ClaimKind
head_name other [] = other
head_name other (claim ∷ claims) = claim.kind

first_some : (number : List ℕ) (goals : List (ClaimKind × AnyGoal)) (statements : List Statement) (first : ComesFirst (rules_of_claims goals)) → HaveLegal (rules_of_claims goals)
    → AllZip Proves (expected_of number (rules_of_claims goals)) statements → IsSome (claimed_total is_distance statements)
first_some number [] statements first legal each = let e = first.are in absurd (cc)
first_some number (g ∷ goals) [] first legal each = absurd each
first_some number (g ∷ goals) (s ∷ statements) first legal each =
    let e = first.are in
    let same : g.0 ≡ first.name = ap (λ (l : List FlightClaim). head_name first.name l) e in
    let counts : is_distance g.0 ≡ true = ap is_distance same ∙ first.counts in
    let choice = legal_of g.0 (any_rule g.1) counts (legal 0 (record { kind = g.0; rule = any_rule g.1 }) (omega arith)) in
    let some = proved_some number g.0 g.1 s choice.0 each.0 choice.1 in
    total_first is_distance s statements s.total refl some (ap is_distance each.0.kind ∙ counts)

-- where the distance of a flight is that of a claim, its claims have a total for it
pub distance_claimed : (task : Task) (air : Airspace) (recording : Recording) (judged : Judged) (number : List ℕ) (goals : List (ClaimKind × AnyGoal)) (statements : List Statement)
    → IsJudged task air recording judged → AreExpected task air recording (rules_of_claims goals) → HaveLegal (rules_of_claims goals)
    → AllZip Proves (expected_of number (rules_of_claims goals)) statements → IsTrue (is_chosen task.kind judged) → IsSome (claimed_total is_distance statements)
distance_claimed task air recording judged number goals statements is expected legal each chosen =
    let some = some_judged task recording is.judged judged task.kind is.is chosen in
    let same = range_alone task air recording.fixes is.judged expected.judged is.range expected.range some in
    let outcome = subst (λ (r : Stretch). IsOutcome task recording r judged) same is.is in
    let first = subst ComesFirst (sym expected.all) (chosen_first task.kind task recording expected.judged judged expected.outcome expected.choices _ outcome expected.is expected.are chosen) in
    first_some number goals statements first legal each
