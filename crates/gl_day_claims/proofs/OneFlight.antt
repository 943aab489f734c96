-- What is seen of an entrant's file gives one flight, and one list of claims but for their choices.
use Rattle.std.proofs.Common.{◌≡◌, ◌∙◌, refl, sym, ap, subst, ℕ, Bool, true, false, List, [], ◌∷◌, length, Option, None, Some, Result, Ok, Err, arith}
use Rattle.std.specs.Prelude.{All, MatchBool, if◌then◌else◌, nat_lt, slice_get}
use Rattle.std.specs.List.{AllZip, cons_option, filter_map}
use Rattle.std.proofs.lemmas.List.Elements.{All-head, All-tail}
use Rattle.gl_airspace.specs.declared.volume.Airspace.{Airspace}
use Rattle.gl_goal.proofs.Optimum.{certificate_optimum}
use Rattle.gl_goal.specs.Goal.{IsGoal, IsOptimum, Goal}
use Rattle.gl_igc.specs.Reading.{Reading, recording_of}
use Rattle.gl_igc.specs.declared.error.IgcError.{IgcError}
use Rattle.gl_igc.specs.declared.recording.Recording.{Recording}
use Rattle.gl_judge.specs.declared.outcome.Judged.{Judged}
use Rattle.gl_judge.specs.Marking.{IsMarked}
use Rattle.gl_judge.proofs.ExpectedGoals.{expected_goals}
use Rattle.gl_judge.proofs.OneOutcome.{one_judged}
use Rattle.gl_proof.specs.declared.claim.ClaimKind.{ClaimKind}
use Rattle.gl_proof.specs.Claim.{Statement}
use Rattle.gl_sheet.specs.declared.row.Outcome.{Outcome}
use Rattle.gl_task.specs.declared.task.Entrant.{Entrant}
use Rattle.gl_task.specs.declared.task.Task.{Task}
use Rattle.gl_day.specs.declared.flight.Flight.{Flight}
use Rattle.gl_day.specs.Expected.{Proves, expected_of}
use Rattle.gl_day.specs.Flight.{IsFlight, IsJudgedFlight, IsReadFlight, IsRefusedFlight, IsUnjudged, StewardRules, outcome_of, penalty_of}
use Rattle.gl_desk.specs.Limits.{most_bytes}
use Rattle.gl_judge.proofs.OneList.{expected_alone}
use Rattle.gl_igc.proofs.SameRecording.{recording_same}
use Rattle.gl_day.proofs.Sheets.{flight_same}
use Rattle.gl_day.specs.Totals.{claimed_total, column, is_distance, is_free, is_triangle, total_if}
use Rattle.gl_day_claims.specs.Alike.{AreAlike}
use Rattle.gl_text.proofs.Lists.{one_some}
use Rattle.gl_judge.specs.Claimed.{FlightClaim}

-- a goal has one optimum
pub optimum_one : (rule : Goal) (a b : Option ℕ) → IsOptimum rule a → IsOptimum rule b → a ≡ b
optimum_one rule None None is also = refl
optimum_one rule None (Some n) is also = absurd (is also.0.0 also.0.1.legal)
optimum_one rule (Some m) None is also = absurd (also is.0.0 is.0.1.legal)
optimum_one rule (Some m) (Some n) is also =
    let over = also.1 is.0.0 is.0.1.legal in
    let under = is.1 also.0.0 also.0.1.legal in
    let e : m ≡ n = omega (arith, is.0.1.worth, also.0.1.worth, over, under) in
    ap Some e

-- what proves one claim is one but for its choice
proved_alike : (number : List ℕ) (claim : FlightClaim) (s t : Statement) → IsGoal claim.rule → Proves (record { number = number; kind = claim.kind; rule = claim.rule }) s
    → Proves (record { number = number; kind = claim.kind; rule = claim.rule }) t → AreAlike s t
proved_alike number claim s t goal is also = record {
  number = is.number ∙ sym also.number;
  kind = is.kind ∙ sym also.kind;
  total = optimum_one claim.rule s.total t.total
      (certificate_optimum claim.rule s.total s.fixes s.boxes goal is.certificate)
      (certificate_optimum claim.rule t.total t.fixes t.boxes goal also.certificate);
}

-- so are lists of claims that prove one list
all_alike : (number : List ℕ) (claims : List FlightClaim) (ss ts : List Statement) → All (λ (claim : FlightClaim). IsGoal claim.rule) claims → AllZip Proves (expected_of number claims) ss
    → AllZip Proves (expected_of number claims) ts → AllZip AreAlike ss ts
all_alike number [] [] [] goals is also = tt
all_alike number [] [] (t ∷ ts) goals is also = absurd also
all_alike number [] (s ∷ ss) ts goals is also = absurd is
all_alike number (claim ∷ claims) [] ts goals is also = absurd is
all_alike number (claim ∷ claims) (s ∷ ss) [] goals is also = absurd also
all_alike number (claim ∷ claims) (s ∷ ss) (t ∷ ts) goals is also =
    let P : FlightClaim → Type 0 = λ claim. IsGoal claim.rule in (
      proved_alike number claim s t (All-head P claim claims goals) is.0 also.0,
      all_alike number claims ss ts (All-tail P claim claims goals) is.1 also.1,
    )

if_alike : (test : ClaimKind → Bool) (s t : Statement) → AreAlike s t → total_if test s ≡ total_if test t
if_alike test s t alike = λ i. if test (alike.kind i) then alike.total i else None

-- such claims have the same totals
totals_alike : (test : ClaimKind → Bool) (ss ts : List Statement) → AllZip AreAlike ss ts → filter_map (total_if test) ss ≡ filter_map (total_if test) ts
totals_alike test [] [] alike = refl
totals_alike test [] (t ∷ ts) alike = absurd alike
totals_alike test (s ∷ ss) [] alike = absurd alike
totals_alike test (s ∷ ss) (t ∷ ts) alike =
    let first = if_alike test s t alike.0 in
    let rest = totals_alike test ss ts alike.1 in
    λ i. cons_option (first i) (rest i)

total_alike : (test : ClaimKind → Bool) (ss ts : List Statement) → AllZip AreAlike ss ts → claimed_total test ss ≡ claimed_total test ts
total_alike test ss ts alike = ap (λ (list : List ℕ). slice_get list 0) (totals_alike test ss ts alike)

-- claims that are both none are alike
none_alike : (ss ts : List Statement) → ss ≡ [] → ts ≡ [] → AllZip AreAlike ss ts
none_alike [] [] is also = tt
none_alike [] (t ∷ ts) is also = absurd (cc)
none_alike (s ∷ ss) ts is also = absurd (cc)

-- what one entrant has is one flight, and claims that are alike
pub record IsOneFlight (ss ts : List Statement) (f g : Flight) : Type 0 where
  pub claims : AllZip AreAlike ss ts
  pub flight : f ≡ g

-- a flight without a recording is one
unjudged_one : (task : Task) (handicap : ℕ) (launched : Bool) (outcome : Outcome) (f g : Flight) → IsUnjudged task handicap launched outcome f → IsUnjudged task handicap launched outcome g → f ≡ g
unjudged_one task handicap launched outcome f g is also =
    flight_same f g (is.outcome_is ∙ sym also.outcome_is) (is.launched_is ∙ sym also.launched_is) (is.finished ∙ sym also.finished) (is.metres ∙ sym also.metres) (is.seconds
    ∙ sym also.seconds) (is.handicap_is ∙ sym also.handicap_is) (is.penalty_is ∙ sym also.penalty_is) (is.columns.free ∙ sym also.columns.free) (is.columns.triangle ∙ sym also.columns.triangle)

refused_one : (task : Task) (entrant : Entrant) (number : ℕ) (ss ts : List Statement) (f g : Flight) → IsRefusedFlight task entrant number ss f → IsRefusedFlight task entrant number ts g
    → IsOneFlight ss ts f g
refused_one task entrant number ss ts f g is also = record {
  claims = none_alike ss ts is.0 also.0;
  flight = unjudged_one task entrant.handicap true _ f g is.1 also.1;
}

-- what counts of a flight by one outcome and one total is one
marked_one : (task : Task) (handicap : ℕ) (judged : Judged) (best : Option ℕ) (f g : Flight) → IsMarked task handicap judged best f.performance → IsMarked task handicap judged best g.performance
    → f.outcome ≡ g.outcome → f.penalty ≡ g.penalty → f.free ≡ g.free → f.triangle ≡ g.triangle → f ≡ g
marked_one task handicap judged best f g is also outcome penalty free triangle =
    flight_same f g outcome (is.launched ∙ sym also.launched) (is.finished ∙ sym also.finished) (is.metres ∙ sym also.metres) (is.seconds ∙ sym also.seconds) (is.handicap_is
    ∙ sym also.handicap_is) penalty free triangle

-- a flight with a recording is one
judged_flight_one : (task : Task) (air : Airspace) (stewards : List StewardRules) (entrant : Entrant) (recording : Recording) (ss ts : List Statement) (f g : Flight)
    → IsJudgedFlight task air stewards entrant recording ss f → IsJudgedFlight task air stewards entrant recording ts g → IsOneFlight ss ts f g
judged_flight_one task air stewards entrant recording ss ts f g is also =
    let judged = one_judged task air recording is.judged also.judged is.is also.is in
    let claims = expected_alone task air recording is.claims also.claims is.expected also.expected in
    let proved = subst (λ (list : List FlightClaim). AllZip Proves (expected_of entrant.number list) ss) claims is.proved in
    let alike = all_alike entrant.number also.claims ss ts (expected_goals task air recording also.claims also.expected) proved also.proved in
    let best = claimed_total is_distance ts in
    let by_judged = subst (λ (o : Judged). IsMarked task entrant.handicap o (claimed_total is_distance ss) f.performance) judged is.marked in
    let marked = subst (λ (total : Option ℕ). IsMarked task entrant.handicap also.judged total f.performance) (total_alike is_distance ss ts alike) by_judged in
    record {
      claims = alike;
      flight = marked_one task entrant.handicap also.judged best f g marked also.marked
          (is.outcome_is ∙ ap outcome_of judged ∙ sym also.outcome_is)
          (is.penalty_is ∙ ap (penalty_of task stewards recording.fixes) judged ∙ sym also.penalty_is)
          (is.columns.free ∙ ap (column task.free) (total_alike is_free ss ts alike) ∙ sym also.columns.free)
          (is.columns.triangle ∙ ap (column task.triangle) (total_alike is_triangle ss ts alike) ∙ sym also.columns.triangle);
    }

read_one : (task : Task) (air : Airspace) (stewards : List StewardRules) (entrant : Entrant) (read : Result Reading IgcError) (ss ts : List Statement) (f g : Flight)
    → IsReadFlight task air stewards entrant read ss f → IsReadFlight task air stewards entrant read ts g → IsOneFlight ss ts f g
read_one task air stewards entrant (Ok reading) ss ts f g (recording, reads, is) (other, reads_too, also) =
    judged_flight_one task air stewards entrant other ss ts f g
    (subst (λ (r : Recording). IsJudgedFlight task air stewards entrant r ss f) (recording_same recording other (reads ∙ sym reads_too)) is) also
read_one task air stewards entrant (Err error) ss ts f g (number, refused, is) (other, refused_too, also) =
    refused_one task entrant other ss ts f g
    (subst (λ (n : ℕ). IsRefusedFlight task entrant n ss f) (one_some _ number other refused refused_too) is) also

bytes_one : (large : Bool) (task : Task) (air : Airspace) (stewards : List StewardRules) (entrant : Entrant) (read : Result Reading IgcError) (ss ts : List Statement) (f g : Flight)
    → MatchBool large (IsRefusedFlight task entrant 7 ss f) (IsReadFlight task air stewards entrant read ss f)
    → MatchBool large (IsRefusedFlight task entrant 7 ts g) (IsReadFlight task air stewards entrant read ts g) → IsOneFlight ss ts f g
bytes_one true task air stewards entrant read ss ts f g is also = refused_one task entrant 7 ss ts f g is also
bytes_one false task air stewards entrant read ss ts f g is also = read_one task air stewards entrant read ss ts f g is also

-- what is seen of a file gives one flight, and claims that are alike
pub flight_one : (task : Task) (air : Airspace) (stewards : List StewardRules) (entrant : Entrant) (seen : Option (List ℕ)) (ss ts : List Statement) (f g : Flight)
    → IsFlight task air stewards entrant seen ss f → IsFlight task air stewards entrant seen ts g → IsOneFlight ss ts f g
flight_one task air stewards entrant None ss ts f g is also = record {
  claims = none_alike ss ts is.0 also.0;
  flight = unjudged_one task entrant.handicap false _ f g is.1 also.1;
}
flight_one task air stewards entrant (Some bytes) ss ts f g is also =
    bytes_one (nat_lt most_bytes (length bytes)) task air stewards entrant (recording_of bytes (Some task.date)) ss ts f g is also
