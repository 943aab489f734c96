use Rattle.std.proofs.Common.{◌≡◌, map, take}
use Rattle.gl_sphere.specs.Place.{written_vector}
use Rattle.gl_badge.proofs.declared.points_of.Given as goal

abbrev pub invariant-loop-place : goal.invariant-loop-place
invariant-loop-place l = l.points.items ≡ map written_vector (take l.place-index l.places)
