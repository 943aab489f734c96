use Rattle.std.proofs.Common.{◌∙◌}
use Rattle.std.proofs.lemmas.List.Sorted.{IsPermutation-trans}
use Rattle.gl_order.proofs.stretches.trade.Goals as goal

pub loop-offset-preserved : goal.loop-offset-preserved
loop-offset-preserved g c = record {
  permutation = IsPermutation-trans _ _ _ c.loop-offset.invariant.permutation c.swap.ensures.permutation;
  long = c.swap.ensures.len ∙ c.loop-offset.invariant.long;
}
