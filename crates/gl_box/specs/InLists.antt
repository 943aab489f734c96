-- Boxes, however they are kept.
use Rattle.std.specs.Prelude.{ℕ, List, map}
use Rattle.gl_box.specs.declared.boxes.Boxes.{Boxes}
use Rattle.gl_box.specs.declared.boxes.Boxes.TheVariants.{Walked, Listed}
use Rattle.gl_box.specs.declared.boxes.BoxesLeft.{BoxesLeft}
use Rattle.gl_box.specs.declared.boxes.BoxesLeft.TheVariants.{Walked as WalkLeft, Listed as ListLeft}
use Rattle.gl_box.specs.declared.closed.Why.{Why}
use Rattle.gl_box.specs.Along.{boxes_along, boxes_left}
use Rattle.gl_box.specs.Closed.{box_of}
use Rattle.gl_box.specs.Turns.{reason_of}

-- the cell of each box and its reason
abbrev pub boxes_in : Boxes → List (List (ℕ × ℕ) × Why)
boxes_in (Walked walk) = boxes_along reason_of walk
boxes_in (Listed list) = map box_of list.items

-- and of those that are still to come
abbrev pub still_in : BoxesLeft → List (List (ℕ × ℕ) × Why)
still_in (WalkLeft boxes) = boxes_left reason_of boxes
still_in (ListLeft list) = map box_of list.now
