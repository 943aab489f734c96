-- A command that says something of one recording: its tests, and its laws.
use Rattle.std.proofs.Common.{◌≡◌, refl, ap, ℕ, inl, true, List, Option, Ok}
use Rattle.gl_desk.specs.Desk.{FilesByName, IsSeenIn}
use Rattle.gl_igc.specs.declared.recording.Recording.{Recording}
use Rattle.gl_text.proofs.Forms.{is_unbroken}
use Rattle.gl_answer.specs.FileTests.{HasTested}
use Rattle.gl_flights.specs.FlightFile.{IsFlightRead, flight_tests}
use Rattle.gl_answer.specs.declared.status.Status.TheVariants.{Done}
use Rattle.gl_answer.specs.Answer.{Answer, saying}
use Rattle.gl_flights.specs.OfFile.{IsOfFile, IsSaidOf, of_file_promise}
use Rattle.gl_flights.proofs.FlightTests.{flight_decided}
use Rattle.gl_answer.proofs.ByTests.{by_tests_line, by_tests_passes, by_tests_result}
use Rattle.gl_answer.proofs.Promises.{IsLawful, done_no_refusal, reading_lawful}

-- the answer for a file that passed
pub flight_answered : (IsRight : Recording → List ℕ → Type 0) (folder : Option FilesByName) (file : List ℕ) (recording : Recording) (text : List ℕ)
    → HasTested (λ seen. IsSeenIn folder file seen) (flight_tests file) IsFlightRead (Ok recording) → IsRight recording text → IsOfFile IsRight folder file (saying Done text)
flight_answered IsRight folder file recording text (seen, is, passes, read) says = (seen, is, inl (passes, (recording, read, text, says, refl)))

said_done : (IsRight : Recording → List ℕ → Type 0) (seen : Option (List ℕ)) (answer : Answer) → IsSaidOf IsRight seen answer → answer.status ≡ Done
said_done IsRight seen answer (recording, read, said, is, same) = ap (λ (a : Answer). a.status) same

pub of_file_lawful : (IsRight : Recording → List ℕ → Type 0) (folder : Option FilesByName) (file : List ℕ) → is_unbroken file ≡ true → IsLawful (of_file_promise IsRight folder file)
of_file_lawful IsRight folder file named =
    reading_lawful (IsOfFile IsRight folder file) (of_file_promise IsRight folder file).Passes
    (by_tests_result (λ seen. IsSeenIn folder file seen) (flight_tests file) (IsSaidOf IsRight) (λ seen answer is. inl (said_done IsRight seen answer is)))
    (by_tests_passes folder (λ f seen. IsSeenIn f file seen) (flight_tests file) (IsSaidOf IsRight) (flight_decided file) (λ seen answer is. done_no_refusal answer.status (inl (said_done IsRight seen answer is))))
    (by_tests_line (λ seen. IsSeenIn folder file seen) (flight_tests file) (IsSaidOf IsRight) (λ seen. (named, (named, (named, tt))))
    (λ seen answer is unless. absurd (unless (said_done IsRight seen answer is))))
