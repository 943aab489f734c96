use Rattle.std.proofs.Common.{◌≡◌, length}
use Rattle.std.specs.List.Sorted.{IsPermutation}
use Rattle.gl_order.proofs.stretches.trade.Given as goal

abbrev pub invariant-loop-offset : goal.invariant-loop-offset
invariant-loop-offset g l = record {
  permutation : IsPermutation l.fn.boxes l.boxes;
  long : length l.boxes ≡ length l.fn.boxes;
}
