use Rattle.std.proofs.Common.{◌≡◌, map, take}
use Rattle.gl_series.proofs.numbered.places_of.Given as goal

abbrev pub invariant-loop-pilot : goal.invariant-loop-pilot
invariant-loop-pilot l = map (λ pilot. pilot.now) l.places.items ≡ take l.pilot-index l.pilots
