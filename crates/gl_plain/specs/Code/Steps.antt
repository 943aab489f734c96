-- A search under way: what it closed, and the cells that are still open, the last one first.
use Rattle.std.specs.Prelude.{List, All, ℕ, Option, ◌≡◌, ◌⊎◌, ◌∷◌, ◌++◌}
use Rattle.gl_box.specs.Cell.{Covers, spans_of}
use Rattle.gl_box.specs.Frontier.{IsNode}
use Rattle.gl_box.specs.Turns.{boxes_from, left_open}
use Rattle.gl_box.specs.Walk.{open_cells}
use Rattle.gl_box.specs.declared.cell.Cell.{Cell}
use Rattle.gl_box.specs.declared.closed.Why.{Why}
use Rattle.gl_goal.specs.Certificate.{IsClosedFor}
use Rattle.gl_goal.specs.Goal.{Goal, whole_cell}
use Rattle.gl_goal.specs.Best.{IsSound, total_of}
use Rattle.gl_plain.specs.Search.{IsHalfOfOpen}
use Rattle.gl_plain.specs.declared.dive.Candidate.{Candidate}
use Rattle.gl_goal.specs.declared.best.Best.{Best}

-- each lies in the whole cell
abbrev pub AreWithin : Goal → List Candidate → Type 0
AreWithin goal candidates =
    All (λ candidate. Covers (whole_cell goal.axes) (spans_of candidate.cell)) candidates

-- a cell that a search from a root comes to: a node of it, which is the root or a half of a node
-- that had to be cut
pub record IsMetFrom (goal : Goal) (root cell : List (ℕ × ℕ)) : Type 0 where
  pub inside : IsNode root cell
  pub met : (cell ≡ root) ⊎ IsHalfOfOpen goal cell

-- a box of such a search, closed by its reason for a total
pub record IsBoxFrom (goal : Goal) (root : List (ℕ × ℕ)) (total : Option ℕ)
    (box : List (ℕ × ℕ) × Why) : Type 0 where
  pub closed : IsClosedFor goal total box.0 box.1
  pub met : IsMetFrom goal root box.0

-- turns at a root, whatever is open behind it, close some boxes and leave some cells open
pub record Lead (root : List (ℕ × ℕ)) (turns : List (Option Why))
    (boxes : List (List (ℕ × ℕ) × Why)) (cells : List Cell) : Type 0 where
  pub left : (others : List (List (ℕ × ℕ)))
      → left_open (root ∷ others) turns ≡ open_cells cells ++ others
  pub closed : (others : List (List (ℕ × ℕ))) → boxes_from (root ∷ others) turns ≡ boxes

-- a search from a root, which is a node of the whole cell
pub record IsUnderWay (goal : Goal) (root : List (ℕ × ℕ)) (best : Option Best)
    (cells : List Cell) (boxes : List (List (ℕ × ℕ) × Why)) : Type 0 where
  pub sound : IsSound goal best
  pub node : IsNode (whole_cell goal.axes) root
  pub boxes_are : All (IsBoxFrom goal root (total_of best)) boxes
  pub cells_are : All (λ cell. IsMetFrom goal root (spans_of cell)) cells

-- such a search, whose turns are added to others
pub record GoesOn (goal : Goal) (root : List (ℕ × ℕ)) (best : Option Best) (cells : List Cell)
    (before after : List (Option Why)) : Type 0 where
  pub turns : List (Option Why)
  pub boxes : List (List (ℕ × ℕ) × Why)
  pub added : after ≡ before ++ turns
  pub lead : Lead root turns boxes cells
  pub way : IsUnderWay goal root best cells boxes

-- a search from a root to its end: nothing in it is open any more
pub record IsSearched (goal : Goal) (root : List (ℕ × ℕ)) (best : Option Best)
    (before after : List (Option Why)) : Type 0 where
  pub turns : List (Option Why)
  pub boxes : List (List (ℕ × ℕ) × Why)
  pub added : after ≡ before ++ turns
  pub left : (others : List (List (ℕ × ℕ))) → left_open (root ∷ others) turns ≡ others
  pub closed : (others : List (List (ℕ × ℕ))) → boxes_from (root ∷ others) turns ≡ boxes
  pub boxes_are : All (IsBoxFrom goal root (total_of best)) boxes
