use Rattle.std.proofs.Common.{arith}
use Rattle.std.proofs.lemmas.Int.{ints}
use Rattle.gl_free.proofs.RangeLemmas.{split-at}
use Rattle.gl_free.proofs.ranges.split.Goals as goal

pub returns : goal.returns
returns c =
    split-at c.args.range _ _ c.halfway-between.result (omega (arith, ints)) (omega (arith, ints)) (omega (arith, ints)) (omega (arith, ints))
