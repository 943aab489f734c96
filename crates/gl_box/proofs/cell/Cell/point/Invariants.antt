use Rattle.std.proofs.Common.{◌≡◌, ℕ, ◌<◌, get_or}
use Rattle.gl_box.specs.Cell.{spans_of}
use Rattle.gl_box.specs.Halves.{span_at}
use Rattle.gl_box.proofs.cell.Cell.point.Given as goal

-- the axes so far have the spans of their places
abbrev pub invariant-loop-axis : goal.invariant-loop-axis
invariant-loop-axis l = record {
  axes : l.cell.axes ≡ l.tuple.axes;
  so_far : (k : ℕ) → k < l.axis → span_at (spans_of l.cell) k ≡ (get_or l.tuple.places k 0, get_or l.tuple.places k 0);
}
