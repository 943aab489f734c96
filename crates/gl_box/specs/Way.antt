-- The open cells of a walk, as they are kept: the first of them, and the cuts on the way to it.
use Rattle.std.specs.Prelude.{◌≡◌, ℕ, ◌+◌, ◌/◌, Bool, true, false, List, [], ◌∷◌, ◌++◌, reverse, slice_set}
use Rattle.gl_box.specs.declared.fork.Fork.{Fork}
use Rattle.gl_box.specs.declared.way.OpenCells.{OpenCells}
use Rattle.gl_box.specs.Cell.{spans_of}
use Rattle.gl_box.specs.Halves.{AreHalves}
use Rattle.gl_box.specs.Walk.{open_cells}

-- a cell before others, if it is there
abbrev pub before_if : Bool → List (ℕ × ℕ) → List (List (ℕ × ℕ)) → List (List (ℕ × ℕ))
before_if true cell others = cell ∷ others
before_if false cell others = others

-- the cell that was cut, from what became of it on the way
abbrev pub whole_of : Fork → List (ℕ × ℕ) → List (ℕ × ℕ)
whole_of fork cell = slice_set cell fork.axis (fork.lo, fork.hi)

-- and its upper half
abbrev pub upper_of : Fork → List (ℕ × ℕ) → List (ℕ × ℕ)
upper_of fork cell = slice_set cell fork.axis ((fork.lo + fork.hi) / 2 + 1, fork.hi)

-- the upper halves that are open on the way to a cell, from the last cut back
abbrev pub uppers_of : List (ℕ × ℕ) → List Fork → List (List (ℕ × ℕ))
uppers_of cell [] = []
uppers_of cell (fork ∷ forks) =
    before_if fork.is_lower (upper_of fork cell) (uppers_of (whole_of fork cell) forks)

abbrev pub open_on : List (ℕ × ℕ) → List Fork → List (List (ℕ × ℕ))
open_on cell way = uppers_of cell (reverse way)

-- a cell gave way to its lower half, and its upper one is open
pub record IsFork (cell lower : List (ℕ × ℕ)) (fork : Fork) : Type 0 where
  pub is_open : fork.is_lower ≡ true
  pub whole : whole_of fork lower ≡ cell
  pub halves : AreHalves cell lower (upper_of fork lower)

-- the open cells, the first one first
abbrev pub open_of : OpenCells → List (List (ℕ × ℕ))
open_of cells =
    before_if cells.is_open (spans_of cells.first)
    (open_on (spans_of cells.first) cells.way.items ++ open_cells cells.others.items)

-- where no cell is the first open one, none is open
abbrev pub HasCome : OpenCells → Type 0
HasCome cells = cells.is_open ≡ false → open_of cells ≡ []
