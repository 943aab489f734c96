-- Which claims are asked of an entrant, by what is seen of the file.
use Rattle.std.specs.Prelude.{◌≡◌, ℕ, nat_lt, List, [], length, Option, None, Some, Result, Ok, Err, MatchBool}
use Rattle.gl_airspace.specs.declared.volume.Airspace.{Airspace}
use Rattle.gl_igc.specs.declared.error.IgcError.{IgcError}
use Rattle.gl_igc.specs.declared.recording.Recording.{Recording}
use Rattle.gl_igc.specs.Reading.{Reading, recording_of}
use Rattle.gl_igc.specs.Recording.{reading_of}
use Rattle.gl_judge.specs.Claims.{AreExpected}
use Rattle.gl_task.specs.declared.task.Entrant.{Entrant}
use Rattle.gl_task.specs.declared.task.Task.{Task}
use Rattle.gl_day.specs.Expected.{Expected, expected_of}
use Rattle.gl_desk.specs.Limits.{most_bytes}
use Rattle.gl_judge.specs.Claimed.{FlightClaim}

-- those of an entrant whose file reads as this, or is refused
abbrev pub AreAskedOfReading : Task → Airspace → Entrant → Result Reading IgcError → List Expected
    → Type 0
AreAskedOfReading task air entrant (Ok reading) claims =
    (recording : Recording) × (reading_of recording ≡ reading)
    × (list : List FlightClaim) × AreExpected task air recording list
    × (claims ≡ expected_of entrant.number list)
AreAskedOfReading task air entrant (Err error) claims = claims ≡ []

-- those of an entrant of whose file this is seen: none without a file, and none where it is too
-- large
abbrev pub AreAskedOf : Task → Airspace → Entrant → Option (List ℕ) → List Expected → Type 0
AreAskedOf task air entrant None claims = claims ≡ []
AreAskedOf task air entrant (Some bytes) claims =
    MatchBool (nat_lt most_bytes (length bytes)) (claims ≡ [])
    (AreAskedOfReading task air entrant (recording_of bytes (Some task.date)) claims)
