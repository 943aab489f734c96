use Rattle.std.proofs.Common.{◌+◌, ◌≤◌, length}
use Rattle.gl_box.specs.Cell.{spans_of}
use Rattle.gl_box.proofs.Nodes.{spread}
use Rattle.gl_order.proofs.stretches.stretch_len.Given as goal
use Rattle.gl_box.proofs.Work.{turns, work_of}

abbrev pub invariant-halves : goal.invariant-halves
invariant-halves g l = l.count ≤ length l.boxes

-- the work that the cell and the open cells can still make
abbrev pub decreases-halves : goal.decreases-halves
decreases-halves g l = turns (spread (spans_of l.cell)) + work_of l.opened.items
