-- What the code keeps while it goes over the lines of a text.
use Rattle.std.specs.Prelude.{◌≡◌, ℕ, List, length, map, filter, reverse, None, option_map, pos}
use Rattle.gl_igc.specs.Dates.{date_of_line}
use Rattle.gl_igc.specs.Declaration.{is_declaration_line}
use Rattle.gl_igc.specs.Extension.{extension_of_line}
use Rattle.gl_igc.specs.FirstOf.{first_of}
use Rattle.gl_igc.specs.FixLine.{is_fix_line}
use Rattle.gl_igc.specs.Parts.{IsTrackOf, IsDeclarationOf, extension_view}
use Rattle.gl_igc.specs.Reading.{capped, opening_of_line}
use Rattle.gl_igc.specs.UsedFixes.{used_upwards, event_seconds}
use Rattle.gl_igc.specs.declared.progress.Progress.{Progress}

-- The progress stands for these lines: it has what the definition reads of them. Past the limit of
-- fixes the events are kept no further.
pub record StandsFor (lines : List (List ℕ)) (progress : Progress) : Type 0 where
  pub number : progress.lines ≡ capped (length lines)
  pub opening : progress.opening ≡ first_of opening_of_line lines
  pub date : progress.date ≡ first_of date_of_line lines
  pub fields : option_map extension_view progress.fields ≡ first_of extension_of_line lines
  pub track : IsTrackOf (used_upwards (reverse lines)) (length (filter is_fix_line lines))
      progress.track
  pub events : progress.track.excess ≡ None
      → progress.events.seconds.items ≡ map pos (event_seconds lines)
  pub declaration : IsDeclarationOf (filter is_declaration_line lines) progress.declaration
