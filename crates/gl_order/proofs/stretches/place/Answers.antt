use Rattle.std.proofs.lemmas.List.Sorted.{IsPermutation-trans}
use Rattle.gl_order.proofs.stretches.place.Goals as goal

pub loop-preserved : goal.loop-preserved
loop-preserved g c = IsPermutation-trans _ _ _ c.loop.invariant c.trade.ensures.permutation
