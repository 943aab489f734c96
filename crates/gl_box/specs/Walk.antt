-- The cells that are still open on a walk along the split tree.
use Rattle.std.specs.Prelude.{◌≡◌, ◌↔◌, ℕ, zero, suc, List, [], ◌∷◌, ◌++◌, map, reverse}
use Rattle.gl_box.specs.declared.cell.Cell.{Cell}
use Rattle.gl_box.specs.Cell.{spans_of}
use Rattle.gl_box.specs.Frontier.{IsFrontier}
use Rattle.gl_box.specs.Turns.{when_cut}

-- the open cells once the first of them was cut so many times
abbrev pub cuts_of : ℕ → List (List (ℕ × ℕ)) → List (List (ℕ × ℕ))
cuts_of zero opened = opened
cuts_of (suc count) opened = when_cut (cuts_of count opened)

-- frontiers of some cells, one behind the other
abbrev pub AreFrontiers : List (List (ℕ × ℕ)) → List (List (ℕ × ℕ)) → Type 0
AreFrontiers [] cells = cells ≡ []
AreFrontiers (first ∷ others) cells =
    (front : List (List (ℕ × ℕ))) × (back : List (List (ℕ × ℕ)))
    × IsFrontier first front × AreFrontiers others back × (cells ≡ front ++ back)

-- the open cells in the order of the split tree: the last of the list comes first
abbrev pub open_cells : List Cell → List (List (ℕ × ℕ))
open_cells cells = reverse (map spans_of cells)

-- Some cells of a whole are passed, and others are open: whatever comes behind those that are
-- passed completes a frontier of the whole exactly where it is made of frontiers of the open ones.
abbrev pub IsWalked : List (ℕ × ℕ) → List (List (ℕ × ℕ)) → List (List (ℕ × ℕ)) → Type 0
IsWalked whole passed opened =
    (more : List (List (ℕ × ℕ))) → IsFrontier whole (passed ++ more) ↔ AreFrontiers opened more

-- the first open cell is cut so often, and then its lower half, until a cell is the first open one,
-- and that is taken
pub record ComesTo (opened : List (List (ℕ × ℕ))) (cell : List (ℕ × ℕ)) (count : ℕ)
    (after : List (List (ℕ × ℕ))) : Type 0 where
  pub cuts : cuts_of count opened ≡ cell ∷ after
  pub fronts : (more : List (List (ℕ × ℕ)))
      → AreFrontiers opened (cell ∷ more) ↔ AreFrontiers after more
