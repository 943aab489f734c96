-- What the flight of an entrant gives, by what was seen of its file.
use Rattle.std.specs.Prelude.{◌≡◌, ℕ, ◌+◌, nat_lt, Bool, true, false, List, [], length, map, slice_range, Option, None, Some, Result, Ok, Err, MatchBool}
use Rattle.std.specs.List.{AllZip}
use Rattle.gl_airspace.specs.declared.volume.Airspace.{Airspace}
use Rattle.gl_igc.specs.declared.error.IgcError.{IgcError}
use Rattle.gl_igc.specs.declared.fix.Fix.{Fix}
use Rattle.gl_igc.specs.declared.recording.Recording.{Recording}
use Rattle.gl_igc.specs.Reading.{Reading, recording_of}
use Rattle.gl_igc.specs.Recording.{reading_of}
use Rattle.gl_igc.specs.Refusals.{refusal_number}
use Rattle.gl_judge.specs.declared.outcome.Judged.{Judged}
use Rattle.gl_judge.specs.declared.outcome.Judged.TheVariants as judged
use Rattle.gl_judge.specs.declared.outcome.Window.{Window}
use Rattle.gl_judge.specs.Claims.{AreExpected}
use Rattle.gl_judge.specs.Marking.{IsMarked}
use Rattle.gl_judge.specs.Outcome.{IsJudged}
use Rattle.gl_proof.specs.Claim.{Statement}
use Rattle.gl_task.specs.Penalty.{held_after, penalty}
use Rattle.gl_task.specs.declared.task.Entrant.{Entrant}
use Rattle.gl_task.specs.declared.task.LocalRules.{LocalRules}
use Rattle.gl_task.specs.declared.task.Task.{Task}
use Rattle.gl_day.specs.declared.flight.Flight.{Flight}
use Rattle.gl_day.specs.declared.flight.Seen.{Seen}
use Rattle.gl_day.specs.declared.flight.Seen.TheVariants as seen
use Rattle.gl_sheet.specs.declared.row.Outcome.{Outcome}
use Rattle.gl_day.specs.declared.totals.Totals.{Totals}
use Rattle.gl_sheet.specs.declared.row.Outcome.TheVariants.{Finished, Outlanded, NoStart, NotLaunched, Refused}
use Rattle.gl_desk.specs.Limits.{most_bytes}
use Rattle.gl_day.specs.Expected.{Proves, expected_of}
use Rattle.gl_day.specs.Totals.{AreTotals, claimed_total, column, is_distance, is_free, is_triangle}
use Rattle.gl_judge.specs.Claimed.{FlightClaim}

-- A steward by its rules: the list that it opens a flight with, what a fix makes of a list, and
-- what is owed for a list.
pub record StewardRules : Type 0 where
  pub opening : LocalRules → List ℕ
  pub fed : List ℕ → Fix → List ℕ
  pub owed : List ℕ → ℕ

abbrev pub steward_rules : (LocalRules → List ℕ) → (List ℕ → Fix → List ℕ) → (List ℕ → ℕ)
    → StewardRules
steward_rules opening fed owed = record { opening = opening; fed = fed; owed = owed }

-- what a steward is owed for the fixes of a flight
abbrev pub owed_for : LocalRules → List Fix → StewardRules → ℕ
owed_for rules fixes steward =
    steward.owed (held_after (steward.opening rules) steward.fed fixes)

-- the fixes of a window, from its first to its last
abbrev pub fixes_of_window : List Fix → Window → List Fix
fixes_of_window fixes window = slice_range fixes window.first (window.last + 1)

-- the penalty for the fixes of a window
abbrev pub penalty_in : Task → List StewardRules → List Fix → Window → ℕ
penalty_in task stewards fixes window =
    penalty (map (owed_for task.rules (fixes_of_window fixes window)) stewards)

-- the penalty of a flight that was judged; without a window there is none
abbrev pub penalty_of : Task → List StewardRules → List Fix → Judged → ℕ
penalty_of task stewards fixes (judged.Finished window seconds) =
    penalty_in task stewards fixes window
penalty_of task stewards fixes (judged.Outlanded window zones) =
    penalty_in task stewards fixes window
penalty_of task stewards fixes judged.NoStart = 0

-- the outcome of a flight that was judged
abbrev pub outcome_of : Judged → Outcome
outcome_of (judged.Finished window seconds) = Finished
outcome_of (judged.Outlanded window zones) = Outlanded
outcome_of judged.NoStart = NoStart

-- The list columns have the totals of the claims.
pub record HasColumns (task : Task) (statements : List Statement) (flight : Flight) : Type 0 where
  pub free : flight.free ≡ column task.free (claimed_total is_free statements)
  pub triangle : flight.triangle ≡ column task.triangle (claimed_total is_triangle statements)

-- A flight without a recording: no claim, no distance, no time and no penalty.
pub record IsUnjudged (task : Task) (handicap : ℕ) (launched : Bool) (outcome : Outcome)
    (flight : Flight) : Type 0 where
  pub outcome_is : flight.outcome ≡ outcome
  pub launched_is : flight.performance.launched ≡ launched
  pub finished : flight.performance.finished ≡ false
  pub metres : flight.performance.metres ≡ 0
  pub seconds : flight.performance.seconds ≡ 0
  pub handicap_is : flight.performance.handicap ≡ handicap
  pub penalty_is : flight.penalty ≡ 0
  pub columns : HasColumns task [] flight

-- A flight with a recording: it is judged, each claim that is expected of it is proved, in their
-- order, and its distance is that of the task or of its claim.
pub record IsJudgedFlight (task : Task) (air : Airspace) (stewards : List StewardRules)
    (entrant : Entrant) (recording : Recording) (statements : List Statement) (flight : Flight)
    : Type 0 where
  pub judged : Judged
  pub is : IsJudged task air recording judged
  pub claims : List FlightClaim
  pub expected : AreExpected task air recording claims
  pub proved : AllZip Proves (expected_of entrant.number claims) statements
  pub outcome_is : flight.outcome ≡ outcome_of judged
  pub marked : IsMarked task entrant.handicap judged (claimed_total is_distance statements)
      flight.performance
  pub penalty_is : flight.penalty ≡ penalty_of task stewards recording.fixes judged
  pub columns : HasColumns task statements flight

-- a flight that is refused by a number
abbrev pub IsRefusedFlight : Task → Entrant → ℕ → List Statement → Flight → Type 0
IsRefusedFlight task entrant number statements flight =
    (statements ≡ []) × IsUnjudged task entrant.handicap true (Refused number) flight

-- what a text says as a recording, or why it says nothing
abbrev pub IsReadFlight : Task → Airspace → List StewardRules → Entrant → Result Reading IgcError
    → List Statement → Flight → Type 0
IsReadFlight task air stewards entrant (Ok reading) statements flight =
    (recording : Recording) × (reading_of recording ≡ reading)
    × IsJudgedFlight task air stewards entrant recording statements flight
IsReadFlight task air stewards entrant (Err error) statements flight =
    (number : ℕ) × (refusal_number error ≡ Some number)
    × IsRefusedFlight task entrant number statements flight

-- What the flight of an entrant gives, with these claims: not launched where there is no file;
-- refused by 7 where it has too many bytes, and by the number of its refusal where it is no
-- recording of the day; else what is judged.
abbrev pub IsFlight : Task → Airspace → List StewardRules → Entrant → Option (List ℕ)
    → List Statement → Flight → Type 0
IsFlight task air stewards entrant None statements flight =
    (statements ≡ []) × IsUnjudged task entrant.handicap false NotLaunched flight
IsFlight task air stewards entrant (Some bytes) statements flight =
    MatchBool (nat_lt most_bytes (length bytes))
    (IsRefusedFlight task entrant 7 statements flight)
    (IsReadFlight task air stewards entrant (recording_of bytes (Some task.date)) statements flight)

-- what is seen of a file with these bytes: a recording, or a flight that is refused
abbrev pub IsSeen : Task → Entrant → List ℕ → Seen → Type 0
IsSeen task entrant bytes (seen.Recorded recording) =
    (nat_lt most_bytes (length bytes) ≡ false)
    × (recording_of bytes (Some task.date) ≡ Ok (reading_of recording))
IsSeen task entrant bytes (seen.Refused flight) =
    (air : Airspace) (stewards : List StewardRules)
    → IsFlight task air stewards entrant (Some bytes) [] flight

-- The claims that are expected of a flight with a recording are all proved, in their order, and
-- these are their totals.
pub record AreClaims (task : Task) (air : Airspace) (entrant : Entrant) (recording : Recording)
    (statements : List Statement) (totals : Totals) : Type 0 where
  pub claims : List FlightClaim
  pub expected : AreExpected task air recording claims
  pub proved : AllZip Proves (expected_of entrant.number claims) statements
  pub totals_are : AreTotals statements totals
