-- What the parts of the code that reads a recording stand for, as plain data.
use Rattle.std.specs.Prelude.{◌≡◌, ℕ, ◌-◌, ◌≤◌, List, [], ◌∷◌, ◌++◌, length, map, take, reverse, slice_get, None, Some, option_map, pos}
use Rattle.gl_sphere.specs.PlaceText.{place_of}
use Rattle.gl_sphere.specs.declared.place.Grid.{Grid}
use Rattle.gl_igc.specs.Declaration.{declared_by, declared_count, places_of}
use Rattle.gl_igc.specs.Extension.{Span, Extension}
use Rattle.gl_igc.specs.FixLine.{Observation}
use Rattle.gl_igc.specs.Reading.{Sighting, capped, most_fixes}
use Rattle.gl_igc.specs.Recording.{sighting_of}
use Rattle.gl_igc.specs.UsedFixes.{UsedFix, last_own}
use Rattle.gl_igc.specs.declared.declaration.Declaration.{Declaration}
use Rattle.gl_igc.specs.declared.declaration.Heading.{Heading}
use Rattle.gl_igc.specs.declared.declaration.Heading.TheVariants.{Awaited, Read, Damaged}
use Rattle.gl_igc.specs.declared.extension.Field.{Field}
use Rattle.gl_igc.specs.declared.extension.Fields.{Fields}
use Rattle.gl_igc.specs.declared.track.Track.{Track}

abbrev pub span_view : Field → Span
span_view field = record { start = field.start; finish = field.finish }

abbrev pub extension_view : Fields → Extension
extension_view fields = record {
  lad = option_map span_view fields.lad;
  lod = option_map span_view fields.lod;
  enl = option_map span_view fields.enl;
}

-- what a B line says, with an own second
abbrev pub sighting_at_own : ℕ → Observation → Sighting
sighting_at_own own seen = record {
  second = pos own;
  lat = seen.lat;
  lon = seen.lon;
  alt = seen.alt;
  enl = seen.enl;
}

-- a used fix with its own second
abbrev pub own_sighting : UsedFix → Sighting
own_sighting fix = sighting_at_own fix.own fix.seen

-- The track keeps these used fixes, the latest first, of so many B lines.
pub record IsKept (used : List UsedFix) (lines : ℕ) (track : Track) : Type 0 where
  pub fixes : map sighting_of track.fixes.items ≡ map own_sighting (reverse used)
  pub last : track.last ≡ last_own used
  pub skipped : track.skipped ≡ capped (lines - length used)
  pub within : length used ≤ lines

-- The track stands for these used fixes: it keeps them, unless there is one past the limit, of
-- which it keeps the line.
pub record IsTrackOf (used : List UsedFix) (lines : ℕ) (track : Track) : Type 0 where
  pub excess : track.excess
      ≡ option_map (λ fix. capped fix.line) (slice_get (reverse used) most_fixes)
  pub kept : track.excess ≡ None → IsKept used lines track

-- The heading of these C lines declares so many places, and these points are those of the lines
-- after it that count so far.
pub record IsRead (count : ℕ) (lines : List (List ℕ)) (points : List Grid) : Type 0 where
  pub heading : List ℕ
  pub rest : List (List ℕ)
  pub whole : lines ≡ heading ∷ rest
  pub counted : declared_count heading ≡ Some count
  pub places : places_of (take count rest) ≡ Some (map place_of points)

abbrev pub IsHeaded : Heading → List (List ℕ) → List Grid → Type 0
IsHeaded Awaited lines points = (lines ≡ []) × (points ≡ [])
IsHeaded (Read count) lines points = IsRead count.places lines points
IsHeaded Damaged lines points = (more : List (List ℕ)) → declared_by (lines ++ more) ≡ None

-- The declaration stands for these C lines. Where it is damaged no further lines declare anything.
abbrev pub IsDeclarationOf : List (List ℕ) → Declaration → Type 0
IsDeclarationOf lines declaration = IsHeaded declaration.heading lines declaration.points.items
