use Rattle.std.proofs.Common.{arith}
use Rattle.gl_sphere.proofs.Arcs.{third_term_of_bound, product_at_most, fourth_term_of-is}
use Rattle.gl_sphere.proofs.distance.fourth_term.Goals as goal

pub quotient-requires-clause-fits : goal.quotient-requires-clause-fits
quotient-requires-clause-fits c =
    omega (arith, product_at_most c.args.chord c.args.third 1489710918 c.requires.chord_in_range (omega (arith, third_term_of_bound c.args.chord c.requires.chord_in_range)))

pub returns : goal.returns
returns c =
    fourth_term_of-is c.args.chord c.args.third c.quotient.result c.requires.third_is c.quotient.ensures
