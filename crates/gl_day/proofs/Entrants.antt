-- Each entrant has a flight, whatever is seen of the file.
use Rattle.std.proofs.Common.{◌≡◌, sym, subst, refl, ℕ, Bool, true, false, List, [], ◌∷◌, length, Option, None, Some}
use Rattle.std.specs.Prelude.{All, MatchBool, Result, Ok, Err, nat_lt}
use Rattle.std.specs.List.{AllZip}
use Rattle.std.proofs.lemmas.List.Elements.{All-nil}
use Rattle.gl_airspace.specs.declared.volume.Airspace.{Airspace}
use Rattle.gl_goal.specs.Goal.{IsGoal}
use Rattle.gl_igc.specs.declared.error.IgcError.{IgcError}
use Rattle.gl_igc.specs.Reading.{Reading, recording_of}
use Rattle.gl_judge.proofs.Existence.{some_expected, some_judged}
use Rattle.gl_judge.proofs.ExpectedGoals.{expected_goals}
use Rattle.gl_proof.specs.Claim.{Statement}
use Rattle.gl_sheet.specs.declared.row.Outcome.TheVariants.{NotLaunched, Refused}
use Rattle.gl_task.specs.declared.task.Entrant.{Entrant}
use Rattle.gl_task.specs.declared.task.Task.{Task}
use Rattle.gl_day.specs.declared.flight.Flight.{Flight}
use Rattle.gl_day.specs.Asked.{AreAskedOf, AreAskedOfReading}
use Rattle.gl_day.specs.Expected.{Expected, Proves, expected_of}
use Rattle.gl_day.specs.Flight.{IsFlight, IsReadFlight, IsRefusedFlight, StewardRules}
use Rattle.gl_desk.specs.Limits.{most_bytes}
use Rattle.gl_day.proofs.Flights.{flight_of, goals_expected, some_statements, some_unjudged}
use Rattle.gl_igc.proofs.Readings.{IsAnswered, answered}

-- the claims are claims of goals
abbrev pub AreGoals : List Expected → Type 0
AreGoals claims = All (λ claim. IsGoal claim.rule) claims

goals_none : (claims : List Expected) → claims ≡ [] → AreGoals claims
goals_none claims none = subst AreGoals (sym none) (All-nil (λ (claim : Expected). IsGoal claim.rule))

goals_of_reading : (task : Task) (air : Airspace) (entrant : Entrant) (said : Result Reading IgcError) (claims : List Expected) → AreAskedOfReading task air entrant said claims → AreGoals claims
goals_of_reading task air entrant (Ok reading) claims (recording, is, list, expected, are) =
    subst AreGoals (sym are) (goals_expected entrant.number list (expected_goals task air recording list expected))
goals_of_reading task air entrant (Err error) claims none = goals_none claims none

goals_of_bytes : (task : Task) (air : Airspace) (entrant : Entrant) (said : Result Reading IgcError) (claims : List Expected) (large : Bool)
    → MatchBool large (claims ≡ []) (AreAskedOfReading task air entrant said claims) → AreGoals claims
goals_of_bytes task air entrant said claims true none = goals_none claims none
goals_of_bytes task air entrant said claims false asked = goals_of_reading task air entrant said claims asked

-- the claims that are asked of an entrant are claims of goals
pub asked_goals : (task : Task) (air : Airspace) (entrant : Entrant) (seen : Option (List ℕ)) (claims : List Expected) → AreAskedOf task air entrant seen claims → AreGoals claims
asked_goals task air entrant None claims none = goals_none claims none
asked_goals task air entrant (Some bytes) claims asked =
    goals_of_bytes task air entrant (recording_of bytes (Some task.date)) claims (nat_lt most_bytes (length bytes)) asked

none_proved : (claims : List Expected) (statements : List Statement) → claims ≡ [] → AllZip Proves claims statements → statements ≡ []
none_proved [] [] none proved = refl
none_proved [] (s ∷ statements) none proved = absurd proved
none_proved (claim ∷ claims) statements none proved = absurd (cc)

refused_flight : (task : Task) (entrant : Entrant) (number : ℕ) (claims : List Expected) (statements : List Statement) → claims ≡ [] → AllZip Proves claims statements
    → (flight : Flight) × IsRefusedFlight task entrant number statements flight
refused_flight task entrant number claims statements none proved =
    let made = some_unjudged task entrant true (Refused number) in
    (made.0, (none_proved claims statements none proved, made.1))

flight_of_reading : (task : Task) (air : Airspace) (stewards : List StewardRules) (entrant : Entrant) (said : Result Reading IgcError) (claims : List Expected) (statements : List Statement)
    → IsAnswered said → AreAskedOfReading task air entrant said claims → AllZip Proves claims statements → (flight : Flight) × IsReadFlight task air stewards entrant said statements flight
flight_of_reading task air stewards entrant (Ok reading) claims statements answer (recording, is, list, expected, are) proved =
    let each = subst (λ (asked : List Expected). AllZip Proves asked statements) are proved in
    let judged = some_judged task air recording in
    let made = flight_of task air stewards entrant recording list statements judged.0 expected each judged.1 in
    (made.0, (recording, is, made.1))
flight_of_reading task air stewards entrant (Err error) claims statements (number, is) none proved =
    let made = refused_flight task entrant number claims statements none proved in
    (made.0, (number, is, made.1))

flight_of_bytes : (task : Task) (air : Airspace) (stewards : List StewardRules) (entrant : Entrant) (said : Result Reading IgcError) (claims : List Expected) (statements : List Statement)
    (large : Bool) → IsAnswered said → MatchBool large (claims ≡ []) (AreAskedOfReading task air entrant said claims) → AllZip Proves claims statements
    → (flight : Flight) × MatchBool large (IsRefusedFlight task entrant 7 statements flight) (IsReadFlight task air stewards entrant said statements flight)
flight_of_bytes task air stewards entrant said claims statements true answer none proved =
    refused_flight task entrant 7 claims statements none proved
flight_of_bytes task air stewards entrant said claims statements false answer asked proved =
    flight_of_reading task air stewards entrant said claims statements answer asked proved

-- what proves the claims that are asked of an entrant has a flight
pub asked_flight : (task : Task) (air : Airspace) (stewards : List StewardRules) (entrant : Entrant) (seen : Option (List ℕ)) (claims : List Expected) (statements : List Statement)
    → AreAskedOf task air entrant seen claims → AllZip Proves claims statements → (flight : Flight) × IsFlight task air stewards entrant seen statements flight
asked_flight task air stewards entrant None claims statements none proved =
    let made = some_unjudged task entrant false NotLaunched in
    (made.0, (none_proved claims statements none proved, made.1))
asked_flight task air stewards entrant (Some bytes) claims statements asked proved =
    flight_of_bytes task air stewards entrant (recording_of bytes (Some task.date)) claims statements (nat_lt most_bytes (length bytes)) (answered bytes (Some task.date)) asked proved

asked_of_reading : (task : Task) (air : Airspace) (entrant : Entrant) (said : Result Reading IgcError) → IsAnswered said → (claims : List Expected) × AreAskedOfReading task air entrant said claims
asked_of_reading task air entrant (Ok reading) (recording, is) =
    let expected = some_expected task air recording in
    (expected_of entrant.number expected.0, (recording, is, expected.0, expected.1, refl))
asked_of_reading task air entrant (Err error) answer = ([], refl)

asked_of_bytes : (task : Task) (air : Airspace) (entrant : Entrant) (said : Result Reading IgcError) (large : Bool) → IsAnswered said
    → (claims : List Expected) × MatchBool large (claims ≡ []) (AreAskedOfReading task air entrant said claims)
asked_of_bytes task air entrant said true answer = ([], refl)
asked_of_bytes task air entrant said false answer = asked_of_reading task air entrant said answer

-- some claims are asked of each entrant, whatever is seen of the file
pub some_asked : (task : Task) (air : Airspace) (entrant : Entrant) (seen : Option (List ℕ)) → (claims : List Expected) × AreAskedOf task air entrant seen claims
some_asked task air entrant None = ([], refl)
some_asked task air entrant (Some bytes) =
    asked_of_bytes task air entrant (recording_of bytes (Some task.date)) (nat_lt most_bytes (length bytes)) (answered bytes (Some task.date))

-- each entrant has statements and a flight, whatever is seen of the file
pub some_flight : (task : Task) (air : Airspace) (stewards : List StewardRules) (entrant : Entrant) (seen : Option (List ℕ))
    → (statements : List Statement) × (flight : Flight) × IsFlight task air stewards entrant seen statements flight
some_flight task air stewards entrant seen =
    let asked = some_asked task air entrant seen in
    let proved = some_statements asked.0 (asked_goals task air entrant seen asked.0 asked.1) in
    let made = asked_flight task air stewards entrant seen asked.0 proved.0 asked.1 proved.1 in
    (proved.0, made.0, made.1)
