-- What the parts of the code that reads a recording stand for, as plain data.
use Rattle.std.specs.List.{starts_with}
use Rattle.std.specs.Option.{option_or}
use Rattle.std.specs.Prelude.{ℕ, nat_eq, codes, if◌then◌else◌, List, Option, None, Some, option_map, unwrap_or, ℤ, ◌+ℤ◌, ◌++◌}
use Rattle.gl_igc.specs.Extension.{Span, Group, Extension, no_extension}
use Rattle.gl_igc.specs.FixLine.{Observation}
use Rattle.gl_igc.specs.Parts.{extension_view}
use Rattle.gl_igc.specs.Pieces.{IsCut}
use Rattle.gl_igc.specs.Progress.{StandsFor}
use Rattle.gl_igc.specs.Reading.{Sighting}
use Rattle.gl_igc.specs.declared.extension.Fields.{Fields}
use Rattle.gl_igc.specs.declared.observation.Observed.{Observed}
use Rattle.gl_igc.specs.declared.progress.Progress.{Progress}

-- the fields that hold, where the code keeps those of the first undamaged I line
abbrev pub extension_held : Option Fields → Extension
extension_held fields = unwrap_or (option_map extension_view fields) no_extension

abbrev pub observation_view : Observed → Observation
observation_view seen = record {
  time = seen.time;
  lat = seen.grid.lat;
  lon = seen.grid.lon;
  alt = seen.alt;
  enl = seen.enl;
}

-- the columns of a group where it has the code
abbrev pub span_if : List ℕ → Group → Option Span
span_if code group = if starts_with nat_eq group.code code then Some group.span else None

-- the fields of some groups with one group more
abbrev pub with_group : Extension → Group → Extension
with_group fields group = record {
  lad = option_or fields.lad (span_if (codes "LAD") group);
  lod = option_or fields.lod (span_if (codes "LOD") group);
  enl = option_or fields.enl (span_if (codes "ENL") group);
}

-- a sighting with its second moved
abbrev pub shifted : ℤ → Sighting → Sighting
shifted shift sighting = record sighting { second = sighting.second +ℤ shift }

-- The first lines of a text were taken, and the rest is left: what stood for some lines then stands
-- for these and those of the text.
pub record Takes (text rest : List ℕ) (old new : Progress) : Type 0 where
  pub lines : List (List ℕ)
  pub cut : IsCut text lines rest
  pub taken : (before : List (List ℕ)) → StandsFor before old → StandsFor (before ++ lines) new
