use Rattle.std.proofs.Common.{ℕ, ◌<◌, ◌≤◌}
use Rattle.gl_box.specs.Cell.{spans_of}
use Rattle.gl_box.specs.Halves.{span_at}
use Rattle.gl_box.proofs.holding.covers.Given as goal

-- the axes so far are covered
abbrev pub invariant-loop-axis : goal.invariant-loop-axis
invariant-loop-axis l = (k : ℕ) → k < l.axis → ((span_at (spans_of l.outer) k).0 ≤ (span_at (spans_of l.inner) k).0) × ((span_at (spans_of l.inner) k).1 ≤ (span_at (spans_of l.outer) k).1)
