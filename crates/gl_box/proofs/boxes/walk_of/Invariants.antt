use Rattle.std.proofs.Common.{◌≡◌, [], ◌∷◌, drop, map, take}
use Rattle.gl_box.specs.Cell.{spans_of}
use Rattle.gl_box.specs.Closed.{box_of}
use Rattle.gl_box.specs.Turns.{boxes_from, left_open, reason_of}
use Rattle.gl_box.specs.Walk.{AreFrontiers, open_cells}
use Rattle.gl_box.proofs.boxes.walk_of.Given as goal

-- the boxes so far, and what is open for the others
abbrev pub invariant-loop-next : goal.invariant-loop-next
invariant-loop-next l = record {
  boxes : boxes_from (spans_of l.whole ∷ []) (map reason_of l.turns.items) ≡ map box_of (take l.next-index l.boxes);
  left : left_open (spans_of l.whole ∷ []) (map reason_of l.turns.items) ≡ open_cells l.opened.items;
  fronts : AreFrontiers (open_cells l.opened.items) (map (λ box. spans_of box.cell) (drop l.next-index l.boxes));
}
