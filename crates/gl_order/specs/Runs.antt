-- Runs of turns, each of which leads from the cells that are open before it to those that are open
-- after it, and the boxes that they close.
use Rattle.std.specs.Prelude.{◌≡◌, ℕ, List, All, map}
use Rattle.std.specs.List.{flat_map}
use Rattle.gl_box.specs.declared.closed.Why.{Why}
use Rattle.gl_box.specs.Turns.{boxes_from, left_open, reason_of}
use Rattle.gl_box.specs.Walk.{open_cells}
use Rattle.gl_order.specs.declared.run.Run.{Run}

-- the boxes that a run closes
abbrev pub boxes_by : Run → List (List (ℕ × ℕ) × Why)
boxes_by run = boxes_from (open_cells run.before.items) (map reason_of run.turns.items)

-- all boxes, one run after the other
abbrev pub boxes_in_runs : List Run → List (List (ℕ × ℕ) × Why)
boxes_in_runs runs = flat_map boxes_by runs

-- the turns of a run leave open what is said to be open after it
abbrev pub IsPassed : Run → Type 0
IsPassed run =
    left_open (open_cells run.before.items) (map reason_of run.turns.items)
    ≡ open_cells run.after.items

abbrev pub ArePassed : List Run → Type 0
ArePassed runs = All IsPassed runs
