use Rattle.std.proofs.Common.{◌≡◌, ◌++◌, length, map}
use Rattle.gl_box.specs.Along.{boxes_along, boxes_left}
use Rattle.gl_box.specs.Closed.{box_of}
use Rattle.gl_box.specs.Turns.{reason_of}
use Rattle.gl_box.proofs.boxes.Walk+GoalTurn.to_list.Given as goal

-- the boxes of the list, and after them those still to come
abbrev pub invariant-boxes : goal.invariant-boxes
invariant-boxes l =
    boxes_along reason_of l.self ≡ map box_of l.list.items ++ boxes_left reason_of l.boxes

abbrev pub decreases-boxes : goal.decreases-boxes
decreases-boxes l = length (boxes_left reason_of l.boxes)
