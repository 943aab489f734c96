use Rattle.std.proofs.Common.{◌≡◌, ℕ, ◌<◌, get_or}
use Rattle.gl_box.specs.Tuple.{places_of}
use Rattle.gl_box.specs.Cell.{spans_of}
use Rattle.gl_box.specs.Halves.{span_at}
use Rattle.gl_box.proofs.cell.Cell.lowest.Given as goal

-- the axes so far have the low ends of their spans
abbrev pub invariant-loop-axis : goal.invariant-loop-axis
invariant-loop-axis l = record {
  axes : l.tuple.axes ≡ l.self.axes;
  so_far : (k : ℕ) → k < l.axis → get_or (places_of l.tuple) k 0 ≡ (span_at (spans_of l.self) k).0;
}
