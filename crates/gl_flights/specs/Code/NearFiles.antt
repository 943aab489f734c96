-- The two recordings of `near` and `nearcheck`, and the lines of the proof's file.
use Rattle.std.specs.Prelude.{◌≡◌, ℕ, List, ◌∷◌, Option}
use Rattle.gl_desk.specs.Desk.{FilesByName, IsSeenIn}
use Rattle.gl_words.specs.Words.{NearWords}
use Rattle.gl_answer.specs.FileLines.{HasAllLines, HasLines}
use Rattle.gl_answer.specs.FileTests.{FileTest, Listed, most_proof_bytes}
use Rattle.gl_answer.specs.declared.file_state.FileLines.{FileLines}
use Rattle.gl_near.specs.Line.{Line}
use Rattle.gl_near.specs.NearLines.{is_ended, near_rules, place_after}
use Rattle.gl_near.specs.declared.near_line.NearPlace.{NearPlace}
use Rattle.gl_flights.specs.NearFiles.{NearSeen, recording_tests}

-- both are listed; then the recordings
abbrev pub flights_tests : NearWords → NearSeen → List FileTest
flights_tests words seen =
    Listed words.flight seen.flight ∷ Listed words.other seen.other ∷ recording_tests words seen

-- what is seen of the two recordings
abbrev pub AreFlightsSeen : NearWords → Option FilesByName → NearSeen → Type 0
AreFlightsSeen words folder seen =
    IsSeenIn folder words.flight seen.flight × IsSeenIn folder words.other seen.other

-- the first bytes of a proof's file were read, and gave these lines
abbrev pub GaveLines : Option FilesByName → List ℕ → List Line → FileLines NearPlace → Type 0
GaveLines folder file given lines =
    (text : List ℕ) × HasLines near_rules (λ last place. place ≡ place_after last) folder file
    most_proof_bytes text given lines

-- the whole file was read, and gave these lines
abbrev pub GaveAll : Option FilesByName → List ℕ → List Line → FileLines NearPlace → Type 0
GaveAll folder file given lines =
    HasAllLines near_rules (λ last place. place ≡ place_after last) is_ended folder file
    most_proof_bytes given lines
