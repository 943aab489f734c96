use Rattle.std.proofs.Common.{map, take}
use Rattle.gl_box.specs.Cell.{spans_of}
use Rattle.gl_box.specs.Walk.{IsWalked, open_cells}
use Rattle.gl_order.proofs.sorting.frontier_len.Given as goal

-- the boxes so far are passed
abbrev pub invariant-loop-count : goal.invariant-loop-count
invariant-loop-count g l = IsWalked (spans_of l.fn.cell) (take l.count (map g.B.Boxed.spans l.boxes)) (open_cells l.opened.items)
