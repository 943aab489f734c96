use Rattle.std.proofs.Common.{◌≡◌, ℕ, ◌<◌, ◌≤◌}
use Rattle.gl_box.specs.Cell.{spans_of}
use Rattle.gl_box.specs.Halves.{span_at, width}
use Rattle.gl_box.proofs.halves.widest.Given as goal

-- the widest of the spans so far
abbrev pub invariant-loop-axis : goal.invariant-loop-axis
invariant-loop-axis l = record {
  most : l.most ≡ width (span_at (spans_of l.cell) l.widest);
  before : l.widest < l.axis;
  inside : l.widest < l.cell.axes;
  widest : (other : ℕ) → other < l.axis → width (span_at (spans_of l.cell) other) ≤ width (span_at (spans_of l.cell) l.widest);
  lowest : (other : ℕ) → other < l.widest → width (span_at (spans_of l.cell) other) < width (span_at (spans_of l.cell) l.widest);
}
