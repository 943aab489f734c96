-- The right answer of a command that says something of one recording.
use Rattle.std.specs.Prelude.{◌≡◌, ℕ, List, Option}
use Rattle.gl_desk.specs.Desk.{FilesByName, IsSeenIn}
use Rattle.gl_igc.specs.declared.recording.Recording.{Recording}
use Rattle.gl_flights.specs.FlightFile.{flight_tests, IsFlightRead}
use Rattle.gl_answer.specs.declared.status.Status.TheVariants.{Done}
use Rattle.gl_answer.specs.Answer.{Answer, saying}
use Rattle.gl_answer.specs.ByTests.{IsByTests, PassByTests}
use Rattle.gl_answer.specs.Promise.{Promise, reading}

-- the answer says a text that is right for the recording
abbrev pub IsSaidOf : (Recording → List ℕ → Type 0) → Option (List ℕ) → Answer → Type 0
IsSaidOf IsRight seen answer =
    (recording : Recording) × IsFlightRead seen recording
    × (said : List ℕ) × IsRight recording said × (answer ≡ saying Done said)

-- The answer for a file, by what is right for a recording.
abbrev pub IsOfFile : (Recording → List ℕ → Type 0) → Option FilesByName → List ℕ → Answer → Type 0
IsOfFile IsRight folder file answer =
    IsByTests (λ seen. IsSeenIn folder file seen) (flight_tests file) (IsSaidOf IsRight) answer

-- the promise of such a command
abbrev pub of_file_promise : (Recording → List ℕ → Type 0) → Option FilesByName → List ℕ → Promise
of_file_promise IsRight folder file =
    reading (IsOfFile IsRight folder file)
    (PassByTests folder (λ f seen. IsSeenIn f file seen) (flight_tests file))
