use Rattle.std.proofs.Common.{◌≡◌, ℕ, ◌≤◌, ◌++◌, List, length, map}
use Rattle.std.specs.Prelude.{All}
use Rattle.gl_box.specs.declared.closed.Why.{Why}
use Rattle.gl_box.specs.Closed.{box_of}
use Rattle.gl_proof.specs.Claim.{box_line, spelled}
use Rattle.gl_proof.specs.Line.{AreSpans}
use Rattle.gl_proof.proofs.claim_lines.add_boxes_at.Given as goal

-- the boxes so far are read
abbrev pub invariant-boxes : goal.invariant-boxes
invariant-boxes l = record {
  each : All (λ (box : List (ℕ × ℕ) × Why). AreSpans box.0) (map box_of l.fn.cells.items) → All (λ (box : List (ℕ × ℕ) × Why). AreSpans box.0) (map box_of l.cells.items);
  is : spelled (map box_line (map box_of l.fn.cells.items)) ++ l.text ≡ spelled (map box_line (map box_of l.cells.items)) ++ l.rest;
  grows : length l.fn.cells.items ≤ length l.cells.items;
}

abbrev pub decreases-boxes : goal.decreases-boxes
decreases-boxes l = length l.rest
