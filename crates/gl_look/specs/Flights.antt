-- What is remarked of the recordings of a task's entrants, and of its airspace file.
use Rattle.std.specs.Prelude.{◌≡◌, ◌≢◌, ℕ, nat_eq, ◌++◌, ◌&&◌, Bool, if◌then◌else◌, List, [], ◌∷◌, Option, None, Some, Result, Ok, Err, ℤ, pos, int_le}
use Rattle.std.specs.List.{list_any, starts_with}
use Rattle.gl_airspace.specs.Airspace.{IsAirspace}
use Rattle.gl_airspace.specs.Parts.{Tells}
use Rattle.gl_airspace.specs.Volumes.{readings_of, refusal_of}
use Rattle.gl_airspace.specs.declared.error.AirError.{AirError}
use Rattle.gl_airspace.specs.declared.error.AirError.TheVariants as air_error
use Rattle.gl_airspace.specs.declared.volume.Airspace.{Airspace}
use Rattle.gl_desk.specs.Desk.{FilesByName}
use Rattle.gl_igc.specs.Recording.{IsReadAs}
use Rattle.gl_igc.specs.declared.error.IgcError.{IgcError}
use Rattle.gl_igc.specs.declared.error.IgcError.TheVariants as igc_error
use Rattle.gl_igc.specs.declared.fix.Fix.{Fix}
use Rattle.gl_igc.specs.declared.recording.Recording.{Recording}
use Rattle.gl_task.specs.declared.task.Entrant.{Entrant}
use Rattle.gl_task.specs.declared.task.Task.{Task}
use Rattle.gl_zone.specs.declared.line.Line.{Line}
use Rattle.gl_look.specs.Closings.{IsLate}
use Rattle.gl_look.specs.Crossings.{AreCrossed, slip_of_start}
use Rattle.gl_look.specs.Keys.{told_if}
use Rattle.gl_look.specs.Sights.{IsSightIn}
use Rattle.gl_look.specs.declared.sight.Sight as code
use Rattle.gl_look.specs.declared.sight.Sight.TheVariants as sight
use Rattle.gl_look.specs.declared.told.Slip as code_slip
use Rattle.gl_look.specs.declared.told.Slip.TheVariants as slip
use Rattle.gl_look.specs.declared.told.Subject.TheVariants as subject
use Rattle.gl_look.specs.declared.told.Told.{Told}

-- a text begins with the byte-order mark of UTF-8
unfoldable pub has_mark : List ℕ → Bool
has_mark text = starts_with nat_eq text (239 ∷ 187 ∷ 191 ∷ [])

-- a fix lies in the hours of a task: from the beginning of its day to the last second that counts
abbrev pub is_in_hours : ℤ → Fix → Bool
is_in_hours closes fix = int_le (pos 0) fix.second && int_le fix.second closes

-- where a recording, as it was read, crosses a line
abbrev pub AreCrossedIn : Line → Result Recording IgcError → List (Option ℤ) → Type 0
AreCrossedIn line (Ok recording) crossed = AreCrossed line recording.fixes crossed
AreCrossedIn line (Err error) crossed = crossed ≡ []

-- when a recording, as it was read, comes within the finish too late
abbrev pub IsLateIn : Task → Result Recording IgcError → Option ℤ → Type 0
IsLateIn task (Ok recording) late = IsLate task recording late
IsLateIn task (Err error) late = late ≡ None

-- what is wrong, or else that the task closes before the flight comes within the finish
abbrev pub or_closed : Option code_slip.Slip → Option ℤ → Option code_slip.Slip
or_closed (Some other) late = Some other
or_closed None None = None
or_closed None (Some time) = Some slip.Closed

-- what is wrong with a recording, as it was read: it doesn't read, no fix is in the hours, the
-- start line is crossed, and never in its times, or the task closes before the flight comes within
-- the finish
abbrev pub slip_of_read : Task → Result Recording IgcError → List (Option ℤ) → Option ℤ
    → Option code_slip.Slip
slip_of_read task (Ok recording) crossed late =
    if list_any (is_in_hours task.closes) recording.fixes
    then or_closed (slip_of_start task.start crossed) late else Some slip.OutOfHours
slip_of_read task (Err error) crossed late = Some slip.NotRead

-- a text with a byte-order mark is told as such, whatever else is wrong
abbrev pub unless_marked : List ℕ → Option code_slip.Slip → Option code_slip.Slip
unless_marked text other = if has_mark text then Some slip.Mark else other

-- The bytes of a recording are read by the day of the task, and this is wrong with them.
pub record IsTextSlip (task : Task) (text : List ℕ) (what : Option code_slip.Slip) : Type 0 where
  pub read : Result Recording IgcError
  pub known : read ≢ Err igc_error.Memory
  pub read_is : IsReadAs text (Some task.date) read
  pub crossed : List (Option ℤ)
  pub crossed_are : AreCrossedIn task.start.line read crossed
  pub late : Option ℤ
  pub late_is : IsLateIn task read late
  pub is : what ≡ unless_marked text (slip_of_read task read crossed late)

-- what is wrong with a recording of which this is seen
abbrev pub IsSlipOf : Task → code.Sight → Option code_slip.Slip → Type 0
IsSlipOf task sight.Absent what = what ≡ Some slip.NoFile
IsSlipOf task sight.TooLarge what = what ≡ Some slip.TooLarge
IsSlipOf task (sight.Bytes bytes) what = IsTextSlip task bytes.items what

-- what is remarked of an entrant's recording, by what is seen of it in the folder
pub record IsFileTold (folder : Option FilesByName) (names : List (List ℕ)) (task : Task)
    (entrant : Entrant) (told : List Told) : Type 0 where
  pub sight : code.Sight
  pub seen : IsSightIn folder names entrant.file sight
  pub what : Option code_slip.Slip
  pub what_is : IsSlipOf task sight what
  pub is : told ≡ told_if (subject.Entrant entrant.number) what

-- such remarks come behind those before
abbrev pub AddsTold : (List Told → Type 0) → List Told → List Told → Type 0
AddsTold P before after = (more : List Told) × P more × (after ≡ before ++ more)

-- of each entrant, one after the other
abbrev pub AreTold : (Entrant → List Told → Type 0) → List Entrant → List Told → Type 0
AreTold R [] told = told ≡ []
AreTold R (entrant ∷ others) told =
    (mine : List Told) × (more : List Told) × R entrant mine × AreTold R others more
    × (told ≡ mine ++ more)

-- what is wrong with an airspace text, as it was read
abbrev pub slip_of_air : Result Airspace AirError → Option code_slip.Slip
slip_of_air (Ok air) = None
slip_of_air (Err error) = Some slip.NotRead

-- what was read of an airspace text; want of memory says nothing of it
abbrev pub IsAirRead : List ℕ → Result Airspace AirError → Type 0
IsAirRead text (Ok air) = IsAirspace text air
IsAirRead text (Err error) = Tells (refusal_of (readings_of text)) error

-- The bytes of an airspace file are read, and this is wrong with them.
pub record IsAirTextSlip (text : List ℕ) (what : Option code_slip.Slip) : Type 0 where
  pub read : Result Airspace AirError
  pub known : read ≢ Err air_error.Memory
  pub read_is : IsAirRead text read
  pub is : what ≡ unless_marked text (slip_of_air read)

-- what is wrong with an airspace file of which this is seen
abbrev pub IsAirSlipOf : code.Sight → Option code_slip.Slip → Type 0
IsAirSlipOf sight.Absent what = what ≡ Some slip.NoFile
IsAirSlipOf sight.TooLarge what = what ≡ Some slip.TooLarge
IsAirSlipOf (sight.Bytes bytes) what = IsAirTextSlip bytes.items what

-- what is remarked of an airspace file, by what is seen of it in the folder
pub record IsAirTold (folder : Option FilesByName) (names : List (List ℕ)) (file : List ℕ)
    (told : List Told) : Type 0 where
  pub sight : code.Sight
  pub seen : IsSightIn folder names file sight
  pub what : Option code_slip.Slip
  pub what_is : IsAirSlipOf sight what
  pub is : told ≡ told_if (subject.File file) what

-- if the task names one
abbrev pub IsNamedAirTold : Option FilesByName → List (List ℕ) → Option (List ℕ) → List Told → Type 0
IsNamedAirTold folder names None told = told ≡ []
IsNamedAirTold folder names (Some file) told = IsAirTold folder names file told
