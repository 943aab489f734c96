use Rattle.std.specs.List.Sorted.{IsPermutation}
use Rattle.gl_order.proofs.stretches.place.Given as goal

abbrev pub invariant-loop : goal.invariant-loop
invariant-loop g l = IsPermutation l.fn.boxes l.boxes
