use Rattle.std.proofs.Common.{arith}
use Rattle.gl_sphere.specs.Sine.{radians}
use Rattle.gl_sphere.proofs.quick_sine.quick_radians.Goals as goal

pub returns-clause-most : goal.returns-clause-most
unfolding radians
returns-clause-most c = omega arith

pub returns-clause-least : goal.returns-clause-least
unfolding radians
returns-clause-least c = omega arith
