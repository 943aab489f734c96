use Rattle.std.proofs.Common.{◌≡◌, ◌-◌, ◌<◌, ◌≤◌, ◌++◌, length, map, take, drop}
use Rattle.std.specs.Char.{is_ascii_digit}
use Rattle.std.specs.Prelude.{All}
use Rattle.gl_box.specs.Cell.{ends}
use Rattle.gl_proof.specs.Fronts.{Stops}
use Rattle.gl_proof.specs.Words.{IsSpan, spaced, span_word}
use Rattle.gl_proof.proofs.line.spans_into.Given as goal

-- the spans so far are read, and the others are those of no axis
abbrev pub invariant-axes : goal.invariant-axes
invariant-axes l = record {
  few : l.axes ≤ 10;
  wide : l.cell.axes ≡ 10;
  ten : length l.cell.spans ≡ 10;
  is : l.text ≡ spaced (map span_word (map ends (take l.axes l.cell.spans))) ++ l.rest;
  each : All IsSpan (map ends (take l.axes l.cell.spans));
  stops : 0 < l.axes → Stops is_ascii_digit l.rest;
  unused : All (λ span. span.hi ≡ 0) (drop l.axes l.cell.spans);
}

abbrev pub decreases-axes : goal.decreases-axes
decreases-axes l = 10 - l.axes
