-- What is proved of a flight's claims can be completed, and what is judged has a flight.
use Rattle.std.proofs.Common.{◌≡◌, sym, subst, refl, ℕ, ◌≤◌, Bool, true, false, List, [], ◌∷◌, ◌++◌, Option, None, arith}
use Rattle.std.specs.Prelude.{All, IsTrue, nat_le, unwrap_or}
use Rattle.std.specs.List.{AllZip}
use Rattle.std.proofs.lemmas.Bool.{false≢true, and_parts}
use Rattle.std.proofs.lemmas.Bool.Decides.{nat_tests}
use Rattle.std.proofs.lemmas.List.Elements.{All-cons, All-nil, All-tail}
use Rattle.gl_airspace.specs.declared.volume.Airspace.{Airspace}
use Rattle.gl_goal.proofs.Existence.{some_certificate}
use Rattle.gl_goal.proofs.Optimum.{certificate_optimum}
use Rattle.gl_goal.specs.Goal.{IsGoal}
use Rattle.gl_igc.specs.declared.recording.Recording.{Recording}
use Rattle.gl_judge.proofs.Times.{seconds-bound}
use Rattle.gl_judge.specs.declared.outcome.Judged.{Judged}
use Rattle.gl_judge.specs.declared.outcome.Judged.TheVariants.{Finished, Outlanded, NoStart}
use Rattle.gl_judge.specs.Claims.{AreExpected}
use Rattle.gl_judge.specs.Marking.{IsMarked, distance_of, marking_time, metres_of}
use Rattle.gl_judge.specs.Outcome.{IsJudged, OnFinished}
use Rattle.gl_points.specs.declared.performance.Performance.{Performance}
use Rattle.gl_points.specs.Limits.{distance_limit, time_limit}
use Rattle.gl_proof.specs.Claim.{Statement}
use Rattle.gl_sheet.specs.declared.row.Outcome.{Outcome}
use Rattle.gl_task.specs.declared.day_type.Kind.{Kind}
use Rattle.gl_task.specs.declared.day_type.Kind.TheVariants.{Racing, Area}
use Rattle.gl_task.specs.declared.task.Entrant.{Entrant}
use Rattle.gl_task.specs.declared.task.Task.{Task}
use Rattle.gl_task.specs.Ranges.{has_minimum}
use Rattle.gl_day.specs.declared.flight.Flight.{Flight}
use Rattle.gl_day.specs.Expected.{Expected, Proves, expected_of}
use Rattle.gl_day.specs.Flight.{IsJudgedFlight, IsUnjudged, StewardRules, outcome_of, penalty_of}
use Rattle.gl_day.specs.Totals.{claimed_total, column, is_distance, is_free, is_triangle}
use Rattle.gl_text.proofs.Lists.{AllZip-append}
use Rattle.gl_judge.specs.Claimed.{FlightClaim}

-- each goal has a statement that proves its claim
pub some_statement : (claim : Expected) → IsGoal claim.rule → (statement : Statement) × Proves claim statement
some_statement claim goal =
    let found = some_certificate claim.rule goal in (
      record {
        number = claim.number;
        kind = claim.kind;
        total = found.0;
        fixes = found.1;
        boxes = found.2;
      },
      record {
        number = refl;
        kind = refl;
        certificate = found.3;
        optimum = certificate_optimum claim.rule found.0 found.1 found.2 goal found.3;
      },
    )

-- claims of goals have statements that prove them
pub some_statements : (expected : List Expected) → All (λ claim. IsGoal claim.rule) expected → (statements : List Statement) × AllZip Proves expected statements
some_statements [] goals = ([], tt)
some_statements (claim ∷ expected) goals =
    let first = some_statement claim (goals 0 claim (omega arith)) in
    let rest = some_statements expected (All-tail (λ (claim : Expected). IsGoal claim.rule) claim expected goals) in
    (first.0 ∷ rest.0, (first.1, rest.1))

all_behind : (P : Expected → Type 0) (front back : List Expected) → All P (front ++ back) → All P back
all_behind P [] back each = each
all_behind P (x ∷ front) back each = all_behind P front back (All-tail P x (front ++ back) each)

-- what proves the first of some claims of goals can be completed to what proves all of them
pub completed : (expected front back : List Expected) (statements : List Statement) → All (λ claim. IsGoal claim.rule) expected → expected ≡ front ++ back → AllZip Proves front statements
    → (more : List Statement) × AllZip Proves expected (statements ++ more)
completed expected front back statements goals parts each =
    let all : All (λ claim. IsGoal claim.rule) (front ++ back) = subst (λ (claims : List Expected). All (λ claim. IsGoal claim.rule) claims) parts goals in
    let rest = some_statements back (all_behind (λ claim. IsGoal claim.rule) front back all) in
    (rest.0, subst (λ (claims : List Expected). AllZip Proves claims (statements ++ rest.0)) (sym parts) (AllZip-append Proves front back statements rest.0 each rest.1))

-- claims that have goals have them under the number of an entrant, too
pub goals_expected : (number : List ℕ) (claims : List FlightClaim) → All (λ claim. IsGoal claim.rule) claims → All (λ claim. IsGoal claim.rule) (expected_of number claims)
goals_expected number [] goals = All-nil (λ (claim : Expected). IsGoal claim.rule)
goals_expected number (claim ∷ claims) goals =
    All-cons (λ (claim : Expected). IsGoal claim.rule) (record { number = number; kind = claim.kind; rule = claim.rule }) (expected_of number claims) (goals 0 claim (omega arith))
    (goals_expected number claims (All-tail (λ (claim : FlightClaim). IsGoal claim.rule) claim claims goals))

metres_most : (distance : ℕ) → metres_of distance ≤ distance_limit
metres_most distance = omega arith

at_most : (a b : ℕ) → IsTrue (nat_le a b) → a ≤ b
at_most a b test = grind (arith, nat_tests)

time_least : (kind : Kind) (flown : ℕ) → 1 ≤ marking_time kind flown
time_least Racing flown = omega arith
time_least (Area minimum) flown = omega arith

time_most : (kind : Kind) (flown : ℕ) → IsTrue (has_minimum kind) → flown ≤ 100_000 → marking_time kind flown ≤ time_limit
time_most Racing flown has short = omega arith
time_most (Area minimum) flown has short =
    let upto = at_most minimum 100_000 (and_parts (nat_le 1 minimum) (nat_le minimum 100_000) has).1 in
    omega (arith, upto)

-- what counts of one who didn't finish, with a distance in centimetres
abbrev unfinished : Entrant → Bool → ℕ → Performance
unfinished entrant launched distance = record {
  launched = launched;
  finished = false;
  metres = metres_of distance;
  seconds = 0;
  handicap = entrant.handicap;
  metres_at_most = metres_most distance;
  seconds_at_most = omega arith;
  seconds_at_least = λ done. absurd (false≢true done);
  handicap_at_least = entrant.handicap_at_least;
  handicap_at_most = entrant.handicap_at_most;
  launched_to_finish = λ done. absurd (false≢true done);
}

-- a flight that takes no longer than a day has a performance
pub some_marked : (task : Task) (entrant : Entrant) (judged : Judged) (best : Option ℕ) → OnFinished judged (λ window seconds. seconds ≤ 100_000)
    → (performance : Performance) × IsMarked task entrant.handicap judged best performance
some_marked task entrant (Finished window seconds) best short = (
  record {
    launched = true;
    finished = true;
    metres = metres_of (distance_of task (Finished window seconds) (unwrap_or best 0));
    seconds = marking_time task.kind seconds;
    handicap = entrant.handicap;
    metres_at_most = metres_most (distance_of task (Finished window seconds) (unwrap_or best 0));
    seconds_at_most = time_most task.kind seconds task.minimum_in_range short;
    seconds_at_least = λ done. time_least task.kind seconds;
    handicap_at_least = entrant.handicap_at_least;
    handicap_at_most = entrant.handicap_at_most;
    launched_to_finish = λ done. refl;
  },
  record { launched = refl; finished = refl; metres = refl; seconds = refl; handicap_is = refl },
)
some_marked task entrant (Outlanded window zones) best short =
    (unfinished entrant true (unwrap_or best 0), record { launched = refl; finished = refl; metres = refl; seconds = refl; handicap_is = refl })
some_marked task entrant NoStart best short =
    (unfinished entrant true 0, record { launched = refl; finished = refl; metres = refl; seconds = refl; handicap_is = refl })

-- a recording that is judged has a flight with what proves the claims that are expected of it
pub flight_of : (task : Task) (air : Airspace) (stewards : List StewardRules) (entrant : Entrant) (recording : Recording) (claims : List FlightClaim) (statements : List Statement) (judged : Judged)
    → AreExpected task air recording claims → AllZip Proves (expected_of entrant.number claims) statements → IsJudged task air recording judged
    → (flight : Flight) × IsJudgedFlight task air stewards entrant recording statements flight
flight_of task air stewards entrant recording claims statements judged expected proved is =
    let short = seconds-bound task air.volumes recording is.judged judged is.range is.is in
    let counts = some_marked task entrant judged (claimed_total is_distance statements) short in (
      record {
        outcome = outcome_of judged;
        performance = counts.0;
        penalty = penalty_of task stewards recording.fixes judged;
        free = column task.free (claimed_total is_free statements);
        triangle = column task.triangle (claimed_total is_triangle statements);
      },
      record {
        judged = judged;
        is = is;
        claims = claims;
        expected = expected;
        proved = proved;
        outcome_is = refl;
        marked = counts.1;
        penalty_is = refl;
        columns = record { free = refl; triangle = refl };
      },
    )

-- a flight without a recording
pub some_unjudged : (task : Task) (entrant : Entrant) (launched : Bool) (outcome : Outcome) → (flight : Flight) × IsUnjudged task entrant.handicap launched outcome flight
some_unjudged task entrant launched outcome = (
  record {
    outcome = outcome;
    performance = unfinished entrant launched 0;
    penalty = 0;
    free = column task.free None;
    triangle = column task.triangle None;
  },
  record {
    outcome_is = refl;
    launched_is = refl;
    finished = refl;
    metres = refl;
    seconds = refl;
    handicap_is = refl;
    penalty_is = refl;
    columns = record { free = refl; triangle = refl };
  },
)
