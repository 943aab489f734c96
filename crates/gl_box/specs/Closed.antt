-- A box is a cell that was closed, with the reason why.
use Rattle.std.specs.Prelude.{ℕ, List}
use Rattle.gl_box.specs.declared.closed.Closed.{Closed}
use Rattle.gl_box.specs.declared.closed.Why.{Why}
use Rattle.gl_box.specs.Cell.{spans_of}

-- the spans of a box, and its reason
abbrev pub box_of : Closed → List (ℕ × ℕ) × Why
box_of closed = (spans_of closed.cell, closed.why)
