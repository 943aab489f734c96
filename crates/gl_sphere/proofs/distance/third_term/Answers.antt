use Rattle.std.proofs.Common.{◌*◌, ◌≤◌, arith}
use Rattle.gl_sphere.proofs.Arcs.{second_term_of_bound, product_at_most, third_term_of-is}
use Rattle.gl_sphere.proofs.distance.third_term.Goals as goal
use Rattle.gl_sphere.proofs.distance.third_term.Goals.{Start}

product-at_most : (c : Start) → 9 * c.args.second * (c.args.chord * c.args.chord) ≤ 9931406121 * 4870756920000000000
product-at_most c =
    product_at_most c.args.chord (9 * c.args.second) 9931406121 c.requires.chord_in_range (omega (arith, second_term_of_bound c.args.chord c.requires.chord_in_range))

pub overflow_mul-product : goal.overflow_mul-product
overflow_mul-product c = omega (arith, second_term_of_bound c.args.chord c.requires.chord_in_range)

pub overflow_mul-product-3 : goal.overflow_mul-product-3
overflow_mul-product-3 c = omega (arith, product-at_most c)

pub quotient-requires-clause-fits : goal.quotient-requires-clause-fits
quotient-requires-clause-fits c = omega (arith, product-at_most c)

pub returns : goal.returns
returns c =
    third_term_of-is c.args.chord c.args.second c.quotient.result c.requires.second_is c.quotient.ensures
