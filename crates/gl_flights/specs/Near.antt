-- The right answers of `near`, `nearcheck` and `point`.
use Rattle.std.specs.Prelude.{◌≡◌, ◌≢◌, ℕ, ◌≤◌, List, [], ◌∷◌, length, take, codes, Option, None, Some, IsSomeAnd}
use Rattle.gl_desk.specs.Desk.{FilesByName}
use Rattle.gl_igc.specs.declared.fix.Fix.{Fix}
use Rattle.gl_igc.specs.declared.recording.Recording.{Recording}
use Rattle.gl_near.specs.Certificate.{IsCertificate, IsSound, total_of}
use Rattle.gl_near.specs.Line.{IsTextOf}
use Rattle.gl_near.specs.Pairing.{IsLeast, Pairing, flights, place}
use Rattle.gl_near.specs.Verdict.{IsTextChecked}
use Rattle.gl_near.specs.declared.answer.NearVerdict.{NearVerdict}
use Rattle.gl_near.specs.declared.answer.NearVerdict.TheVariants.{Yes, Pair, Total, Extra, Place, Cell, Open}
use Rattle.gl_near.specs.declared.found.NearBest.{NearBest}
use Rattle.gl_near.specs.declared.found.NearWhy.{NearWhy}
use Rattle.gl_sphere.specs.Place.{written_vector}
use Rattle.gl_sphere.specs.PlaceText.{place_of, place_of_text}
use Rattle.gl_sphere.specs.declared.place.Grid.{Grid}
use Rattle.gl_words.specs.Words.{NearWords, PointWords}
use Rattle.gl_answer.specs.FileTests.{most_proof_bytes}
use Rattle.gl_flights.specs.NearFiles.{AreNearRead, IsNearSeen, NearSeen, near_check_tests, near_tests}
use Rattle.gl_answer.specs.declared.status.Status.TheVariants as status
use Rattle.gl_answer.specs.Answer.{Answer, saying}
use Rattle.gl_answer.specs.ByTests.{IsByTests, PassByTests}
use Rattle.gl_flights.specs.OfFile.{of_file_promise}
use Rattle.gl_answer.specs.Promise.{IsTold, Promise}
use Rattle.gl_answer.specs.Texts.{accepted_line, distance_text, no_pair, wrong_line}

-- what is said of the least distance: its metres, and the numbers of a pair that has it; or that no
-- pair fits
abbrev pub pair_text : Option NearBest → List ℕ
pair_text None = no_pair
pair_text (Some best) =
    distance_text (codes "NEAR") best.total (codes "PAIR") (best.first ∷ best.second ∷ [])

-- the pairs of two recordings
abbrev pub pairs_of : Recording × Recording → ℕ → Pairing
pairs_of read seconds = flights read.0.fixes read.1.fixes seconds

-- The answer says the least distance and a pair that has it, or that no pair fits, and appends the
-- proof of it.
pub record IsNearestSaid (pairing : Pairing) (answer : Answer) : Type 0 where
  pub best : Option NearBest
  pub boxes : List (List (ℕ × ℕ) × NearWhy)
  pub least : IsLeast pairing (total_of best)
  pub certificate : IsCertificate pairing best boxes
  pub ended : answer.status ≡ status.Done
  pub said : answer.said ≡ pair_text best
  pub appended : IsTextOf answer.appended best boxes

-- so for the two recordings that were seen
abbrev pub IsNearFound : NearWords → NearSeen → Answer → Type 0
IsNearFound words seen answer =
    (read : Recording × Recording) × AreNearRead seen read
    × IsNearestSaid (pairs_of read words.seconds) answer

-- the answer of `near`
abbrev pub IsNear : Option FilesByName → NearWords → Answer → Type 0
IsNear folder words answer =
    IsByTests (IsNearSeen words folder) (near_tests words) (IsNearFound words) answer

-- a first part of what a right answer appends
abbrev pub IsNearBegun : Option FilesByName → NearWords → List ℕ → Type 0
IsNearBegun folder words text =
    (answer : Answer) × IsNear folder words answer × (count : ℕ)
    × (text ≡ take count answer.appended)

-- the promise of `near`
abbrev pub near_promise : Option FilesByName → NearWords → Promise
near_promise folder words = record {
  IsRight = IsNear folder words;
  IsBegun = IsNearBegun folder words;
  Passes = PassByTests folder (IsNearSeen words) (near_tests words);
  ChecksOwn = ⊥;
  target = Some words.proof;
}

-- the word for what is wrong with a claim, and the number of the box that it is about, or 0
abbrev pub word_of_verdict : NearVerdict → List ℕ
word_of_verdict Yes = []
word_of_verdict Pair = codes "PAIR"
word_of_verdict Total = codes "TOTAL"
word_of_verdict (Extra number) = codes "EXTRA"
word_of_verdict (Place number) = codes "PLACE"
word_of_verdict (Cell number) = codes "CELL"
word_of_verdict Open = codes "OPEN"

abbrev pub box_of_verdict : NearVerdict → ℕ
box_of_verdict Yes = 0
box_of_verdict Pair = 0
box_of_verdict Total = 0
box_of_verdict (Extra number) = number
box_of_verdict (Place number) = number
box_of_verdict (Cell number) = number
box_of_verdict Open = 0

-- the line of what is wrong with the one claim of a proof
abbrev pub verdict_line : NearVerdict → Answer
verdict_line verdict =
    saying status.NotProved (wrong_line 1 (word_of_verdict verdict) (box_of_verdict verdict))

-- the answer for what is to be said of a claim
abbrev pub verdict_answer : NearVerdict → Answer
verdict_answer Yes = saying status.Done (accepted_line 1)
verdict_answer Pair = verdict_line Pair
verdict_answer Total = verdict_line Total
verdict_answer (Extra number) = verdict_line (Extra number)
verdict_answer (Place number) = verdict_line (Place number)
verdict_answer (Cell number) = verdict_line (Cell number)
verdict_answer Open = verdict_line Open

-- this is to be said of the proof that was seen, by the recordings that were
abbrev pub IsNearVerdict : NearWords → NearSeen → NearVerdict → Type 0
IsNearVerdict words seen verdict =
    (read : Recording × Recording) × AreNearRead seen read
    × IsSomeAnd seen.proof (λ text. IsTextChecked (pairs_of read words.seconds) text verdict)

-- the answer says it
abbrev pub IsNearChecked : NearWords → NearSeen → Answer → Type 0
IsNearChecked words seen answer =
    (verdict : NearVerdict) × IsNearVerdict words seen verdict × (answer ≡ verdict_answer verdict)

-- the answer of `nearcheck`
abbrev pub IsNearCheck : Option FilesByName → NearWords → Answer → Type 0
IsNearCheck folder words answer =
    IsByTests (IsNearSeen words folder) (near_check_tests words) (IsNearChecked words) answer

-- A folder in which `near` ended with a result: it has the proof that was appended, of a size that
-- is read, and else the files that it had before.
pub record IsNearFolder (files : FilesByName) (words : NearWords) : Type 0 where
  pub before : FilesByName
  pub answer : Answer
  pub found : IsNear (Some before) words answer
  pub done : answer.status ≡ status.Done
  pub small : length answer.appended ≤ most_proof_bytes
  pub proof : files words.proof ≡ Some answer.appended
  pub others : (other : List ℕ) → other ≢ words.proof → files other ≡ before other

-- the promise of `nearcheck`
abbrev pub near_check_promise : Option FilesByName → NearWords → Promise
near_check_promise folder words = record {
  IsRight = IsNearCheck folder words;
  IsBegun = λ text. ⊥;
  Passes = PassByTests folder (IsNearSeen words) (near_check_tests words);
  ChecksOwn = IsTold folder (λ files. IsNearFolder files words);
  target = None;
}

-- the text says the least distance to a point, and the number of a fix that has it
pub record IsNearestFix (fixes : List Fix) (grid : Grid) (said : List ℕ) : Type 0 where
  pub best : NearBest
  pub reached : IsSound (place fixes (written_vector grid)) (Some best)
  pub least : IsLeast (place fixes (written_vector grid)) (Some best.total)
  pub text : said
      ≡ distance_text (codes "NEAR") best.total (codes "FIX") (best.first ∷ [])

-- so for the fixes of a recording and the text of a place
abbrev pub IsPointText : List ℕ → Recording → List ℕ → Type 0
IsPointText text recording said =
    (grid : Grid) × (place_of_text text ≡ Some (place_of grid))
    × IsNearestFix recording.fixes grid said

-- the promise of `point`
abbrev pub point_promise : Option FilesByName → PointWords → Promise
point_promise folder words = of_file_promise (IsPointText words.place) folder words.flight
