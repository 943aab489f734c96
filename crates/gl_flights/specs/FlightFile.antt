-- The file of a command that is given one recording: its tests in their order, and what they give.
use Rattle.std.specs.Prelude.{ℕ, List, ◌∷◌, Option, None, IsSomeAnd}
use Rattle.gl_igc.specs.declared.recording.Recording.{Recording}
use Rattle.gl_desk.specs.Limits.{most_bytes}
use Rattle.gl_answer.specs.FileTests.{FileTest, IsRecordingOf, Listed, RecordingText, text_tests}

-- the file is listed; it isn't too large; it is a recording
abbrev pub flight_tests : List ℕ → Option (List ℕ) → List FileTest
flight_tests file seen =
    Listed file seen ∷ text_tests (RecordingText None) most_bytes file seen

-- this recording was read
abbrev pub IsFlightRead : Option (List ℕ) → Recording → Type 0
IsFlightRead seen recording = IsSomeAnd seen (λ text. IsRecordingOf None text recording)
