use Rattle.std.proofs.Common.{◌≡◌, ℕ, ◌<◌}
use Rattle.gl_box.specs.Cell.{spans_of}
use Rattle.gl_box.specs.Halves.{span_at}
use Rattle.gl_box.proofs.walk.is_same.Given as goal

-- the spans so far are the same
abbrev pub invariant-loop-axis : goal.invariant-loop-axis
invariant-loop-axis l = (k : ℕ) → k < l.axis → span_at (spans_of l.cell) k ≡ span_at (spans_of l.other) k
