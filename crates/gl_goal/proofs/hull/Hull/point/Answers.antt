use Rattle.std.proofs.Common.{arith}
use Rattle.std.proofs.lemmas.Int.{ints}
use Rattle.gl_goal.proofs.hull.Hull.point.Goals as goal

pub invariant_of-result : goal.invariant_of-result
invariant_of-result c = record {
  x_ordered = omega (arith, ints);
  y_ordered = omega (arith, ints);
  z_ordered = omega (arith, ints);
  alt_ordered = omega (arith, ints);
  lowest = omega (arith, ints);
  highest = omega (arith, ints);
}
