-- Which cells a search comes to.
use Rattle.std.specs.Prelude.{◌≡◌, ℕ, ◌⊎◌, List}
use Rattle.gl_box.specs.Halves.{IsHalf}
use Rattle.gl_box.specs.Frontier.{IsNode}
use Rattle.gl_goal.specs.Goal.{Goal, IsOpen, whole_cell}

-- a half of a node of the whole cell that is neither disordered nor shut
pub record IsHalfOfOpen (goal : Goal) (cell : List (ℕ × ℕ)) : Type 0 where
  pub node : List (ℕ × ℕ)
  pub is_node : IsNode (whole_cell goal.axes) node
  pub is_open : IsOpen goal node
  pub is_half : IsHalf node cell

-- a cell that a search comes to: the whole cell, or a half of a node that had to be cut
abbrev pub IsNeeded : Goal → List (ℕ × ℕ) → Type 0
IsNeeded goal cell = (cell ≡ whole_cell goal.axes) ⊎ IsHalfOfOpen goal cell
