-- Boxes that part a cell, in any order.
use Rattle.std.specs.Prelude.{◌≡◌, ℕ, List, map, All}
use Rattle.gl_box.specs.Cell.{Holds}
use Rattle.gl_box.specs.Frontier.{IsNode, mult}

-- the cells of boxes
abbrev pub cells_of : {W : Type 0} → List (List (ℕ × ℕ) × W) → List (List (ℕ × ℕ))
cells_of boxes = map (λ box. box.0) boxes

-- cells part a whole: each is a node of it, and each of its tuples lies in exactly one of them
pub record AreParts (whole : List (ℕ × ℕ)) (cells : List (List (ℕ × ℕ))) : Type 0 where
  pub nodes : All (IsNode whole) cells
  pub once : (tuple : List ℕ) → Holds whole tuple → mult cells tuple ≡ 1
