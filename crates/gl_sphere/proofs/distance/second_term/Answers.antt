use Rattle.std.proofs.Common.{arith}
use Rattle.gl_sphere.proofs.Arcs.{cube_at_most, second_term_of-is}
use Rattle.gl_sphere.proofs.distance.second_term.Goals as goal

pub quotient-requires-clause-fits : goal.quotient-requires-clause-fits
quotient-requires-clause-fits c = omega (arith, cube_at_most c.args.chord c.requires)

pub returns : goal.returns
returns c = second_term_of-is c.args.chord c.quotient.result c.quotient.ensures
