use Rattle.std.proofs.Common.{arith}
use Rattle.std.proofs.lemmas.Int.{ints}
use Rattle.gl_free.proofs.PlaceLemmas.{altitude-is}
use Rattle.gl_free.proofs.RangeLemmas.{altitude-bounds}
use Rattle.gl_free.proofs.ranges.gap_of.Goals as goal

pub overflow_add-result : goal.overflow_add-result
overflow_add-result c =
    let first = altitude-bounds c.args.hulls.now c.args.pair.first in
    let last = altitude-is c.args.hulls.now c.args.pair.last c.fix-2.result.now c.fix-2.ensures in
    omega (arith, ints, first.1, last, c.requires.low, c.requires.loss)

pub returns-clause-low : goal.returns-clause-low
returns-clause-low c =
    let first = altitude-bounds c.args.hulls.now c.args.pair.first in
    let last = altitude-is c.args.hulls.now c.args.pair.last c.fix-2.result.now c.fix-2.ensures in
    omega (arith, ints, first.1, last, c.requires.low, c.requires.loss)

pub returns-clause-high : goal.returns-clause-high
returns-clause-high c =
    let first = altitude-is c.args.hulls.now c.args.pair.first c.fix.result.now c.fix.ensures in
    omega (arith, ints, first)
