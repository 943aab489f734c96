-- What workers leave, part by part.
use Rattle.std.specs.Prelude.{ℕ, List, [], ◌∷◌, ◌++◌, map}
use Rattle.std.specs.List.{flat_map}
use Rattle.std.specs.Option.{option_to_list}
use Rattle.gl_box.specs.declared.closed.Why.{Why}
use Rattle.gl_box.specs.Cell.{spans_of}
use Rattle.gl_box.specs.Closed.{box_of}
use Rattle.gl_plain.specs.declared.part.Part.{Part}
use Rattle.gl_plain.specs.declared.part.Part.TheVariants.{Open, Done}
use Rattle.gl_replay.specs.declared.worker.Worker.{Worker}

-- the cell of a part, if it is open
abbrev pub opened : Part → List (List (ℕ × ℕ))
opened (Open cell) = spans_of cell ∷ []
opened (Done closed) = []

-- the box of a part, if it is closed
abbrev pub done : Part → List (List (ℕ × ℕ) × Why)
done (Open cell) = []
done (Done closed) = box_of closed ∷ []

abbrev pub opened_in : List Part → List (List (ℕ × ℕ))
opened_in parts = flat_map opened parts

abbrev pub done_in : List Part → List (List (ℕ × ℕ) × Why)
done_in parts = flat_map done parts

-- the cells of a worker: those that it closed, those of its deque, and the one in its hand
abbrev pub parts_left : Worker → List Part
parts_left worker =
    map Done worker.closed.items
    ++ (map Open worker.deque.items ++ map Open (option_to_list worker.hand))
