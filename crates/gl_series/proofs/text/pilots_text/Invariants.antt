use Rattle.std.proofs.Common.{◌≡◌, ◌∷◌, map, take}
use Rattle.gl_series.specs.StandingText.{pilot_fields, pilot_heading, records_text}
use Rattle.gl_series.proofs.text.pilots_text.Given as goal

abbrev pub invariant-loop-pilot : goal.invariant-loop-pilot
invariant-loop-pilot l =
    l.text.items ≡ records_text (pilot_heading ∷ map pilot_fields (take l.pilot-index l.pilots))
