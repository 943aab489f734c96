-- The cells that a worker comes to when it works on those that it took, and into which these are
-- parted.
use Rattle.std.specs.Prelude.{◌≡◌, ℕ, ◌+◌, ◌<◌, ◌⊎◌, List, map, All, Contains, Option, Some}
use Rattle.gl_box.specs.declared.cell.Cell.{Cell}
use Rattle.gl_box.specs.declared.closed.Why.{Why}
use Rattle.gl_box.specs.Cell.{Covers, spans_of}
use Rattle.gl_box.specs.Halves.{IsHalf}
use Rattle.gl_box.specs.Frontier.{IsNode, mult}
use Rattle.gl_goal.specs.Goal.{Goal, IsOpen, whole_cell}
use Rattle.gl_order.specs.Order.{cells_of}

-- A half of a node of a cell, where the node had to be cut: it is neither disordered nor shut, and
-- its bound is above the total that had been seen, if one had.
pub record IsCutFrom (goal : Goal) (seen : Option ℕ) (cell half : List (ℕ × ℕ)) : Type 0 where
  pub node : List (ℕ × ℕ)
  pub is_node : IsNode cell node
  pub is_open : IsOpen goal node
  pub above : (total : ℕ) → seen ≡ Some total → total < goal.bound node
  pub is_half : IsHalf node half

-- a cell that was taken, and lies inside the whole cell
pub record IsTakenInside (goal : Goal) (taken : List Cell) (cell : List (ℕ × ℕ)) : Type 0 where
  pub root : Cell
  pub is_taken : Contains taken root
  pub is : cell ≡ spans_of root
  pub inside : Covers (whole_cell goal.axes) cell

-- a half of such a node of a cell that was taken inside the whole cell
pub record IsPartOfTaken (goal : Goal) (seen : Option ℕ) (taken : List Cell)
    (cell : List (ℕ × ℕ)) : Type 0 where
  pub root : List (ℕ × ℕ)
  pub is_taken : IsTakenInside goal taken root
  pub is_cut : IsCutFrom goal seen root cell

-- a cell that was taken inside the whole cell, or such a part of one
abbrev pub IsFromTaken : Goal → Option ℕ → List Cell → List (ℕ × ℕ) → Type 0
IsFromTaken goal seen taken cell =
    IsTakenInside goal taken cell ⊎ IsPartOfTaken goal seen taken cell

-- a cell that was taken, and doesn't lie inside the whole cell
pub record IsStrange (goal : Goal) (taken : List Cell) (cell : Cell) : Type 0 where
  pub is_taken : Contains taken cell
  pub outside : Covers (whole_cell goal.axes) (spans_of cell) → ⊥

-- how often some cells hold a tuple
abbrev pub times_held : List Cell → List ℕ → ℕ
times_held cells tuple = mult (map spans_of cells) tuple

-- how often some closed cells do
abbrev pub times_closed : List (List (ℕ × ℕ) × Why) → List ℕ → ℕ
times_closed closed tuple = mult (cells_of closed) tuple

-- The cells that were taken hold each tuple as often as those that were closed, those that were put
-- and the strange ones together. A closed cell was taken inside the whole cell, or is a part of
-- such a cell, and one that was put is a part.
pub record ArePartedInto (goal : Goal) (seen : Option ℕ) (taken : List Cell)
    (closed : List (List (ℕ × ℕ) × Why)) (put strange : List Cell) : Type 0 where
  pub parted : (tuple : List ℕ)
      → times_held taken tuple
      ≡ times_closed closed tuple + times_held put tuple + times_held strange tuple
  pub closed_are : All (λ box. IsFromTaken goal seen taken box.0) closed
  pub put_are : All (λ cell. IsPartOfTaken goal seen taken (spans_of cell)) put
  pub strange_are : All (IsStrange goal taken) strange
