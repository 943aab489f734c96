-- What a search turns to, one open cell after the other: it cuts the first one, or closes it by a
-- reason. So turns tell boxes, from the cells that are open at first.
use Rattle.std.specs.Prelude.{ℕ, List, [], ◌∷◌, ◌++◌, Option, None, Some}
use Rattle.gl_box.specs.Halves.{halves_of}
use Rattle.gl_box.specs.declared.closed.Why.{Why}
use Rattle.gl_box.specs.declared.closed.Why.TheVariants.{Disordered, Shut, Bound}
use Rattle.gl_box.specs.declared.turn.GoalTurn.{GoalTurn}
use Rattle.gl_box.specs.declared.turn.GoalTurn.TheVariants.{Cut, Disordered as TurnDisordered, Shut as TurnShut, Bound as TurnBound}

-- the reason by which a turn closes a cell, none where it cuts one
abbrev pub reason_of : GoalTurn → Option Why
reason_of Cut = None
reason_of TurnDisordered = Some Disordered
reason_of TurnShut = Some Shut
reason_of TurnBound = Some Bound

-- the halves of a cell that is cut, before the others; a single tuple stays
abbrev pub cut_into : Option (List (ℕ × ℕ) × List (ℕ × ℕ)) → List (ℕ × ℕ) → List (List (ℕ × ℕ))
    → List (List (ℕ × ℕ))
cut_into None cell others = cell ∷ others
cut_into (Some halves) cell others = halves.0 ∷ halves.1 ∷ others

-- the open cells once the first of them was cut
abbrev pub when_cut : List (List (ℕ × ℕ)) → List (List (ℕ × ℕ))
when_cut [] = []
when_cut (cell ∷ others) = cut_into (halves_of cell) cell others

-- the open cells behind the first one
abbrev pub others_of : List (List (ℕ × ℕ)) → List (List (ℕ × ℕ))
others_of [] = []
others_of (cell ∷ others) = others

-- the cells that are open after a turn
abbrev pub open_after : {W : Type 0} → Option W → List (List (ℕ × ℕ)) → List (List (ℕ × ℕ))
open_after None opened = when_cut opened
open_after (Some why) opened = others_of opened

-- the box that a turn closes, if it closes one
abbrev pub closed_by : {W : Type 0} → Option W → List (List (ℕ × ℕ)) → List (List (ℕ × ℕ) × W)
closed_by None opened = []
closed_by (Some why) [] = []
closed_by (Some why) (cell ∷ others) = (cell, why) ∷ []

-- the cells that are open after some turns
abbrev pub left_open : {W : Type 0} → List (List (ℕ × ℕ)) → List (Option W)
    → List (List (ℕ × ℕ))
left_open opened [] = opened
left_open opened (turn ∷ turns) = left_open (open_after turn opened) turns

-- the boxes that some turns close
abbrev pub boxes_from : {W : Type 0} → List (List (ℕ × ℕ)) → List (Option W)
    → List (List (ℕ × ℕ) × W)
boxes_from opened [] = []
boxes_from opened (turn ∷ turns) =
    closed_by turn opened ++ boxes_from (open_after turn opened) turns
