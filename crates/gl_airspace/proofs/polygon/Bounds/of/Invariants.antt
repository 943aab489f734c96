use Rattle.std.proofs.Common.{All, take}
use Rattle.gl_airspace.specs.Bounds.{IsBounded}
use Rattle.gl_airspace.proofs.polygon.Bounds.of.Given as goal

-- the places so far lie between the bounds
abbrev pub invariant-loop-place : goal.invariant-loop-place
invariant-loop-place l = All (IsBounded l.bounds) (take l.place-index l.places)
