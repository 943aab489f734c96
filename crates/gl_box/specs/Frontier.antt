-- Nodes and frontiers of a cell that is cut into halves again and again, and how often a list of
-- cells holds a tuple.
use Rattle.std.specs.Prelude.{◌≡◌, ℕ, List, [], ◌∷◌, ◌++◌}
use Rattle.std.specs.List.{count_by}
use Rattle.gl_box.specs.Cell.{holds}
use Rattle.gl_box.specs.Halves.{AreHalves, IsHalf}

-- a node of a cell is the cell itself, or a half of a node
pub data IsNode : List (ℕ × ℕ) → List (ℕ × ℕ) → Type 0 where
  whole : (cell : List (ℕ × ℕ)) → IsNode cell cell
  half : (cell node part : List (ℕ × ℕ)) → IsNode cell node → IsHalf node part → IsNode cell part

-- A list of cells is a frontier of a cell where it is that cell alone, or a frontier of the cell's
-- lower half followed by one of its upper half.
pub data IsFrontier : List (ℕ × ℕ) → List (List (ℕ × ℕ)) → Type 0 where
  alone : (cell : List (ℕ × ℕ)) (cells : List (List (ℕ × ℕ))) → cells ≡ cell ∷ []
      → IsFrontier cell cells
  parted : (cell lower upper : List (ℕ × ℕ)) (front back cells : List (List (ℕ × ℕ)))
      → AreHalves cell lower upper → IsFrontier lower front → IsFrontier upper back
      → cells ≡ front ++ back → IsFrontier cell cells

-- how many places of a list of cells hold a tuple
abbrev pub mult : List (List (ℕ × ℕ)) → List ℕ → ℕ
mult cells tuple = count_by (λ cell. holds cell tuple) cells
