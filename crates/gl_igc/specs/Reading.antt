-- The recording of a text and a task day.
use Rattle.std.specs.Prelude.{ℕ, ◌-◌, nat_lt, ◌==◌, if◌then◌else◌, List, [], ◌∷◌, length, map, slice_get, Option, None, Some, Result, Ok, Err, Bool, true, false, ℤ, pos, ◌+ℤ◌, ◌-ℤ◌, ◌*ℤ◌, unsigned_abs, min, filter}
use Rattle.std.specs.Str.{byte}
use Rattle.gl_text.specs.Lines.{lines_of}
use Rattle.gl_igc.specs.Columns.{day}
use Rattle.gl_igc.specs.Dates.{date_of_line}
use Rattle.gl_igc.specs.Declaration.{declared_places}
use Rattle.gl_igc.specs.FirstOf.{first_of}
use Rattle.gl_igc.specs.FixLine.{is_fix_line}
use Rattle.gl_igc.specs.UsedFixes.{UsedFix, used_fixes, event_seconds}
use Rattle.gl_igc.specs.declared.error.IgcError.{IgcError}
use Rattle.gl_igc.specs.declared.error.IgcError.TheVariants.{NotIgc, NoDate, WrongDay, TooManyFixes, NoFix}

-- what a fix says: its second, its place in 1/100,000 minute, its altitude in metres and its engine
-- noise
pub record Sighting : Type 0 where
  pub second : ℤ
  pub lat : ℤ
  pub lon : ℤ
  pub alt : ℤ
  pub enl : Option ℕ

-- what a recording says: its day number from 1970-01-01, its fixes, the seconds of its events, the
-- places that it declares and how many B lines gave no fix
pub record Reading : Type 0 where
  pub date : ℤ
  pub fixes : List Sighting
  pub events : List ℤ
  pub declared : Option (List (ℤ × ℤ))
  pub skipped : ℕ

-- the most fixes of a recording
abbrev pub most_fixes : ℕ
most_fixes = 90_000

-- a count, or the greatest that is told
abbrev pub capped : ℕ → ℕ
capped n = min n 4_294_967_295

-- whether a line begins with A; an empty line doesn't say
unfoldable pub opening_of_line : List ℕ → Option Bool
opening_of_line [] = None
opening_of_line (c ∷ cs) = Some (c == byte "A")

-- the seconds from the beginning of the task day, or of the recording's own day, to that of the
-- recording's day
unfoldable pub shift_of : ℤ → Option ℤ → ℤ
shift_of date None = pos 0
shift_of date (Some task_day) = pos day *ℤ (date -ℤ task_day)

-- the recording's day is more than one day from the task day
unfoldable pub is_wrong_day : ℤ → Option ℤ → Bool
is_wrong_day date None = false
is_wrong_day date (Some task_day) = nat_lt 1 (unsigned_abs (date -ℤ task_day))

-- a used fix with its second
abbrev pub sighting_at : ℤ → UsedFix → Sighting
sighting_at shift fix = record {
  second = pos fix.own +ℤ shift;
  lat = fix.seen.lat;
  lon = fix.seen.lon;
  alt = fix.seen.alt;
  enl = fix.seen.enl;
}

-- the B lines that gave no fix
unfoldable pub skipped_lines : List (List ℕ) → ℕ
skipped_lines lines = length (filter is_fix_line lines) - length (used_fixes lines)

-- the recording of lines, where its day and the shift of its seconds are known
unfoldable pub reading_at : ℤ → ℤ → List (List ℕ) → Reading
reading_at date shift lines = record {
  date = date;
  fixes = map (sighting_at shift) (used_fixes lines);
  events = map (λ own. pos own +ℤ shift) (event_seconds lines);
  declared = declared_places lines;
  skipped = capped (skipped_lines lines);
}

-- the tests of the used fixes: there is no 90,001st one, which is given first, and there is one
unfoldable pub reading_of_fixes : Option UsedFix → ℤ → ℤ → List (List ℕ) → Result Reading IgcError
reading_of_fixes (Some fix) date shift lines = Err (TooManyFixes (capped fix.line))
reading_of_fixes None date shift lines =
    if length (used_fixes lines) == 0 then Err NoFix else Ok (reading_at date shift lines)

-- the tests of the day: there is one, which is given first, and it isn't the wrong one
unfoldable pub reading_of_day : Option ℤ → Option ℤ → List (List ℕ) → Result Reading IgcError
reading_of_day None task_day lines = Err NoDate
reading_of_day (Some date) task_day lines =
    if is_wrong_day date task_day then Err (WrongDay date)
    else
    (let shift = shift_of date task_day in
    reading_of_fixes (slice_get (used_fixes lines) most_fixes) date shift lines)

-- the test of the first line that isn't empty, which has to be there and to begin with A
unfoldable pub reading_of_opening : Option Bool → Option ℤ → List (List ℕ) → Result Reading IgcError
reading_of_opening None task_day lines = Err NotIgc
reading_of_opening (Some false) task_day lines = Err NotIgc
reading_of_opening (Some true) task_day lines =
    reading_of_day (first_of date_of_line lines) task_day lines

-- the recording of a text's lines, or its refusal: that of the first test that fails
unfoldable pub recording_of_lines : List (List ℕ) → Option ℤ → Result Reading IgcError
recording_of_lines lines task_day =
    reading_of_opening (first_of opening_of_line lines) task_day lines

-- the recording of a text, or its refusal
unfoldable pub recording_of : List ℕ → Option ℤ → Result Reading IgcError
recording_of text task_day = recording_of_lines (lines_of text) task_day
