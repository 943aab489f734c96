use Rattle.std.proofs.Common.{◌-◌, ◌≤◌, length}
use Rattle.std.specs.List.Sorted.{IsPermutation}
use Rattle.gl_order.specs.Code.Ends.{EndsBy}
use Rattle.gl_order.proofs.Partings.{PartedAt}
use Rattle.gl_order.proofs.sorting.part.Given as goal

-- the boxes at the front end soon enough, and those at the back don't
abbrev pub invariant-boxes : goal.invariant-boxes
invariant-boxes g l = record {
  order : l.front ≤ l.back;
  within : l.back ≤ length l.boxes;
  permutation : IsPermutation l.fn.boxes l.boxes;
  parted : PartedAt (λ box. EndsBy l.axis l.last (g.B.Boxed.spans box)) l.boxes l.front l.back;
}

abbrev pub decreases-boxes : goal.decreases-boxes
decreases-boxes g l = l.back - l.front
