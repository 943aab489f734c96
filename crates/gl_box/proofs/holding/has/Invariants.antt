use Rattle.std.proofs.Common.{ℕ, ◌<◌, ◌≤◌, get_or}
use Rattle.gl_box.specs.Tuple.{places_of}
use Rattle.gl_box.specs.Cell.{spans_of}
use Rattle.gl_box.specs.Halves.{span_at}
use Rattle.gl_box.proofs.holding.has.Given as goal

-- the places so far lie in their spans
abbrev pub invariant-loop-axis : goal.invariant-loop-axis
invariant-loop-axis l = (k : ℕ) → k < l.axis → ((span_at (spans_of l.cell) k).0 ≤ get_or (places_of l.tuple) k 0) × (get_or (places_of l.tuple) k 0 ≤ (span_at (spans_of l.cell) k).1)
