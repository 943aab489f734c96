-- What the types of the code say, as plain data.
use Rattle.std.specs.Prelude.{◌≡◌, ◌≢◌, ℕ, List, map, Option, None, Some, Result, Ok, Err, ℤ}
use Rattle.gl_igc.specs.declared.error.IgcError.{IgcError}
use Rattle.gl_igc.specs.declared.error.IgcError.TheVariants.{Memory}
use Rattle.gl_igc.specs.declared.fix.Fix.{Fix}
use Rattle.gl_igc.specs.declared.recording.Recording.{Recording}
use Rattle.gl_igc.specs.declared.recording.Declared.{Declared}
use Rattle.gl_sphere.specs.PlaceText.{place_of}
use Rattle.gl_igc.specs.Reading.{Sighting, Reading, recording_of}

-- what a fix says
abbrev pub sighting_of : Fix → Sighting
sighting_of fix = record {
  second = fix.second;
  lat = fix.grid.lat;
  lon = fix.grid.lon;
  alt = fix.alt;
  enl = fix.enl;
}

-- the declared places
abbrev pub declared_of : Option Declared → Option (List (ℤ × ℤ))
declared_of None = None
declared_of (Some declared) = Some (map place_of declared.points)

-- what a recording says
abbrev pub reading_of : Recording → Reading
reading_of r = record {
  date = r.date;
  fixes = map sighting_of r.fixes;
  events = r.events;
  declared = declared_of r.declared;
  skipped = r.skipped;
}

-- What was answered for a text, by the day of a task if there is one: the recording that the text
-- says, or the refusal that holds. Want of memory says nothing of the text.
abbrev pub IsReadAs : List ℕ → Option ℤ → Result Recording IgcError → Type 0
IsReadAs text day (Ok recording) = recording_of text day ≡ Ok (reading_of recording)
IsReadAs text day (Err error) = error ≢ Memory → recording_of text day ≡ Err error
