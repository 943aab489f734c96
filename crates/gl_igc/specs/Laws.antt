-- What holds of every recording that is read, in the words of the subject.
use Rattle.std.specs.Prelude.{◌≡◌, ◌≢◌, ℕ, List, ◌∷◌, ◌++◌, slice_get, slice_index, Contains, Option, None, Some, IsSome, Result, Ok, Err, ℤ}
use Rattle.std.specs.Str.{byte}
use Rattle.gl_igc.specs.Dates.{date_of_line}
use Rattle.gl_igc.specs.Extension.{Extension}
use Rattle.gl_igc.specs.FirstOf.{first_of}
use Rattle.gl_igc.specs.FixLine.{Observation, observation_of}
use Rattle.gl_igc.specs.Reading.{Sighting, Reading, opening_of_line, recording_of_lines}
use Rattle.gl_igc.specs.declared.error.IgcError.{IgcError}
use Rattle.gl_igc.specs.declared.error.IgcError.TheVariants.{TooManyFixes}

-- A fix is what an undamaged B line of the text with validity A says, but for its second.
pub record IsOfLine (lines : List (List ℕ)) (fix : Sighting) : Type 0 where
  pub line : List ℕ
  pub of_text : Contains lines line
  pub extension : Extension
  pub seen : Observation
  pub says : observation_of extension line ≡ Some seen
  pub lat : fix.lat ≡ seen.lat
  pub lon : fix.lon ≡ seen.lon
  pub alt : fix.alt ≡ seen.alt
  pub enl : fix.enl ≡ seen.enl

-- each fix is what such a line says
abbrev pub AreOfLines : List (List ℕ) → List Sighting → Type 0
AreOfLines lines fixes =
    (k : ℕ) (fix : Sighting) → slice_get fixes k ≡ Some fix → IsOfLine lines fix

-- A line that is no date, I, B, C or E line.
pub record IsPassedOver (line : List ℕ) : Type 0 where
  pub no_date : date_of_line line ≡ None
  pub no_fields : slice_index line 0 ≢ byte "I"
  pub no_fix : slice_index line 0 ≢ byte "B"
  pub no_declaration : slice_index line 0 ≢ byte "C"
  pub no_event : slice_index line 0 ≢ byte "E"

-- an answer without the number of a line
abbrev pub without_number : Result Reading IgcError → Result Reading IgcError
without_number (Ok reading) = Ok reading
without_number (Err (TooManyFixes line)) = Err (TooManyFixes 0)
without_number (Err e) = Err e

-- A line that is passed over and isn't the first one that says something can be left out without a
-- change, but in the number of a line.
abbrev pub CanBeLeftOut : List (List ℕ) → Option ℤ → Type 0
CanBeLeftOut lines task_day =
    (above below : List (List ℕ)) (line : List ℕ) → lines ≡ above ++ line ∷ below
    → IsSome (first_of opening_of_line above) → IsPassedOver line
    → without_number (recording_of_lines (above ++ below) task_day)
    ≡ without_number (recording_of_lines lines task_day)
