use Rattle.std.proofs.Common.{arith, refl}
use Rattle.gl_draft.proofs.shape.gate_of.Goals as goal

pub returns-then-distance-lt-KILOMETRE-clause-none : goal.returns-then-distance-lt-KILOMETRE-clause-none
returns-then-distance-lt-KILOMETRE-clause-none c = record {
  at = c.rounded-at.result;
  at_is = c.rounded-at.ensures;
  before = c.rounded-before.result;
  before_is = c.rounded-before.ensures;
  near = omega (arith, c.distance.ensures);
}

pub returns-clause-some : goal.returns-clause-some
returns-clause-some c = record {
  line = c.requires;
  at_is = c.rounded-at.ensures;
  before = c.rounded-before.result;
  before_is = c.rounded-before.ensures;
  apart = omega (arith, c.distance.ensures);
  towards_is = c.opposite.ensures;
  half_is = refl;
}
