use Rattle.std.proofs.Common.{arith}
use Rattle.std.proofs.lemmas.Int.{ints, clamps}
use Rattle.gl_airspace.proofs.polygon.Bounds.with.Goals as goal

pub returns-clause-place : goal.returns-clause-place
returns-clause-place c = record {
  south = omega (arith, ints, clamps);
  north = omega (arith, ints, clamps);
  west = omega (arith, ints, clamps);
  east = omega (arith, ints, clamps);
}
