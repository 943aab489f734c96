-- How `near`, `nearcheck` and `point` answer, and how `near` is stopped.
use Rattle.std.proofs.Common.{◌≡◌, ◌∙◌, refl, sym, subst, ℕ, inl, inr, List, [], take, Option, None, Some, Result, Ok, Err}
use Rattle.std.specs.Prelude.{IfOk}
use Rattle.gl_desk.specs.Answers.{OnlyReads, stop_of}
use Rattle.gl_desk.specs.Desk.{FilesByName, Told}
use Rattle.gl_desk.specs.declared.error.DeskError.{DeskError}
use Rattle.gl_igc.specs.declared.recording.Recording.{Recording}
use Rattle.gl_near.specs.Line.{IsTextOf}
use Rattle.gl_near.specs.declared.found.NearBest.{NearBest}
use Rattle.gl_near.specs.declared.found.NearWhy.{NearWhy}
use Rattle.gl_sphere.specs.PlaceText.{place_of, place_of_text}
use Rattle.gl_sphere.specs.declared.place.Grid.{Grid}
use Rattle.gl_words.specs.Words.{NearWords, PointWords}
use Rattle.gl_answer.specs.declared.halt.Halt.{Halt}
use Rattle.gl_answer.specs.declared.halt.Halt.TheVariants.{Refused, Stopped}
use Rattle.gl_answer.specs.FileTests.{HasTested}
use Rattle.gl_answer.specs.Halts.{halt_stop}
use Rattle.gl_flights.specs.NearFiles.{AreNearRead, IsNearSeen, near_tests}
use Rattle.gl_answer.proofs.ReadsTwice.{reads_twice}
use Rattle.gl_answer.specs.Appending.{HasAppended, HasAppendedPart, HasGiven}
use Rattle.gl_answer.proofs.Appended.{HasAppended-none, HasAppended-reads, HasAppended-then}
use Rattle.gl_answer.proofs.Appended.{part_after}
use Rattle.gl_answer.specs.declared.answer.Answer as code
use Rattle.gl_answer.specs.declared.status.Status.TheVariants.{Done}
use Rattle.gl_answer.specs.Answer.{Answer, answer_of, AnswersHalt}
use Rattle.gl_flights.specs.Near.{IsNear, IsNearCheck, IsNearestFix, IsNearestSaid, IsPointText, near_check_promise, near_promise, point_promise, pairs_of}
use Rattle.gl_flights.specs.OfFile.{IsOfFile}
use Rattle.gl_answer.specs.Given.{HasAnswered, IsStopped}

-- the answer of `near` where its files passed
near_is : (words : NearWords) (x m : Told) (flights : Recording × Recording) (said proof : List ℕ) → OnlyReads None x m
    → HasTested (IsNearSeen words m.folder) (near_tests words) AreNearRead (Ok flights) → IsNearestSaid (pairs_of flights words.seconds) (record { status = Done; said = said; appended = proof })
    → IsNear x.folder words (record { status = Done; said = said; appended = proof })
near_is words x m flights said proof lists tested nearest =
    let seen = subst (λ (f : Option FilesByName). HasTested (IsNearSeen words f) (near_tests words) AreNearRead (Ok flights)) lists.folder tested in
    (seen.0, seen.1, inl (seen.2, (flights, seen.3, nearest)))

-- a proof has a text
some_text : (text : List ℕ) (best : Option NearBest) (boxes : List (List (ℕ × ℕ) × NearWhy)) → IsTextOf text best boxes → text ≡ [] → ⊥
some_text text best boxes is none = let e = sym none ∙ is.is in cc

-- `near` has its answer
pub near_right : (words : NearWords) (x m y z : Told) (flights : Recording × Recording) (said proof : List ℕ) → OnlyReads None x m
    → HasTested (IsNearSeen words m.folder) (near_tests words) AreNearRead (Ok flights) → OnlyReads None m y
    → IsNearestSaid (pairs_of flights words.seconds) (record { status = Done; said = said; appended = proof }) → HasAppended words.proof proof y z
    → (text : List ℕ) × IsNear x.folder words (record { status = Done; said = said; appended = text }) × HasGiven (Some words.proof) text x z
near_right words x m y z flights said proof lists tested reads nearest appended =
    let all = reads_twice x m y lists reads in
    let right = near_is words x m flights said proof lists tested nearest in (
      proof,
      right,
      record {
        written = HasAppended-then words.proof [] proof x y z (HasAppended-reads words.proof [] x x y (HasAppended-none words.proof x) all) appended;
        untouched = λ none. absurd (some_text proof nearest.best nearest.boxes nearest.appended none);
      },
    )

-- `near` was stopped while its proof was appended
pub near_stopped : (words : NearWords) (x m y z : Told) (flights : Recording × Recording) (said proof : List ℕ) (stop : DeskError) → OnlyReads None x m
    → HasTested (IsNearSeen words m.folder) (near_tests words) AreNearRead (Ok flights) → OnlyReads None m y
    → IsNearestSaid (pairs_of flights words.seconds) (record { status = Done; said = said; appended = proof }) → HasAppendedPart words.proof proof y z stop
    → IsStopped (near_promise x.folder words) x z stop
near_stopped words x m y z flights said proof stop lists tested reads nearest part =
    let all = reads_twice x m y lists reads in
    let right = near_is words x m flights said proof lists tested nearest in
    let after = part_after words.proof proof x y z stop all part in
    record {
      gave = inr (record {
        text = take after.count proof;
        begun = (record { status = Done; said = said; appended = proof }, right, after.count, refl);
        said = after.said;
        appended = after.appended;
      });
      faults = after.faults;
    }

-- `near` refuses a file
pub near_refused : (words : NearWords) (x m y : Told) (halt : Halt) (result : Result code.Answer DeskError) → OnlyReads None x m
    → HasTested (IsNearSeen words m.folder) (near_tests words) AreNearRead (Err halt) → OnlyReads (halt_stop {X = Recording × Recording} (Err halt)) m y → AnswersHalt halt result
    → IfOk result (HasAnswered (near_promise x.folder words) x y)
near_refused words x m y (Refused refusal) (Ok answer) lists tested reads same =
    let all = reads_twice x m y lists reads in
    let seen = subst (λ (f : Option FilesByName). HasTested {X = Recording × Recording} (IsNearSeen words f) (near_tests words) AreNearRead (Err (Refused refusal))) lists.folder tested in
    ([], (seen.0, seen.1, inr (refusal, seen.2, same)), record { written = HasAppended-reads words.proof [] x x y (HasAppended-none words.proof x) all; untouched = λ none. (all.folder, all.outputs) })
near_refused words x m y (Refused refusal) (Err stop) lists tested reads same = tt
near_refused words x m y (Stopped stop) (Ok answer) lists tested reads same = absurd same
near_refused words x m y (Stopped stop) (Err error) lists tested reads same = tt

-- `nearcheck` has given its answer
pub near_checked : (words : NearWords) (x y : Told) (result : Result code.Answer DeskError) → IfOk result (λ answer. IsNearCheck x.folder words (answer_of answer)) → OnlyReads (stop_of result) x y
    → IfOk result (HasAnswered (near_check_promise x.folder words) x y)
near_checked words x y (Ok answer) right reads =
    ([], right, record { written = record { appended = (refl, reads.folder, reads.outputs); said = reads.said; faults = reads.faults }; untouched = λ none. (reads.folder, reads.outputs) })
near_checked words x y (Err stop) right reads = tt

-- the nearest fix to a place, by the text of the place
point_right : (folder : Option FilesByName) (words : PointWords) (grid : Grid) (answer : Answer) → place_of_text words.place ≡ Some (place_of grid)
    → IsOfFile (λ recording said. IsNearestFix recording.fixes grid said) folder words.flight answer → IsOfFile (IsPointText words.place) folder words.flight answer
point_right folder words grid answer reads (seen, is, inl (passes, (recording, read, said, says, same))) = (seen, is, inl (passes, (recording, read, said, (grid, reads, says), same)))
point_right folder words grid answer reads (seen, is, inr refused) = (seen, is, inr refused)

pub pointed : (words : PointWords) (grid : Grid) → place_of_text words.place ≡ Some (place_of grid) → (x y : Told) (result : Result code.Answer DeskError)
    → IfOk result (λ answer. IsOfFile (λ recording said. IsNearestFix recording.fixes grid said) x.folder words.flight (answer_of answer)) → OnlyReads (stop_of result) x y
    → IfOk result (HasAnswered (point_promise x.folder words) x y)
pointed words grid is x y (Ok answer) right reads = (
  [],
  point_right x.folder words grid (answer_of answer) is right,
  record {
    written = record { appended = (refl, reads.folder, reads.outputs); said = reads.said; faults = reads.faults };
    untouched = λ none. (reads.folder, reads.outputs);
  },
)
pointed words grid is x y (Err stop) right reads = tt
