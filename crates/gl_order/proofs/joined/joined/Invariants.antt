use Rattle.std.proofs.Common.{◌≡◌, [], ◌∷◌, map, take}
use Rattle.gl_box.specs.Cell.{spans_of}
use Rattle.gl_box.specs.Turns.{boxes_from, left_open, reason_of}
use Rattle.gl_box.specs.Walk.{open_cells}
use Rattle.gl_order.specs.Runs.{boxes_in_runs}
use Rattle.gl_order.proofs.joined.joined.Given as goal

-- the boxes of the runs so far, and what these leave open
abbrev pub invariant-loop-run : goal.invariant-loop-run
invariant-loop-run l = record {
  boxes : boxes_from (spans_of l.whole ∷ []) (map reason_of l.turns.items) ≡ boxes_in_runs (take l.run-index l.runs);
  left : left_open (spans_of l.whole ∷ []) (map reason_of l.turns.items) ≡ open_cells l.opened.items;
}
