-- Boxes that are kept as a walk, and the steps by which one is made.
use Rattle.std.specs.Prelude.{◌≡◌, ℕ, ◌⊎◌, List, [], ◌∷◌, ◌++◌, map, Option, None, Some}
use Rattle.gl_box.specs.declared.cell.Cell.{Cell}
use Rattle.gl_box.specs.declared.along.Walk.{Walk}
use Rattle.gl_box.specs.declared.along.WalkBoxes.{WalkBoxes}
use Rattle.gl_box.specs.Cell.{spans_of}
use Rattle.gl_box.specs.Halves.{AreHalves, IsSingle}
use Rattle.gl_box.specs.Turns.{boxes_from}
use Rattle.gl_box.specs.Walk.{open_cells}
use Rattle.gl_box.specs.Way.{open_of}

-- the boxes of a walk
abbrev pub boxes_along : {T W : Type 0} → (T → Option W) → Walk T → List (List (ℕ × ℕ) × W)
boxes_along reason walk =
    boxes_from (open_cells walk.opened.items) (map reason walk.turns.items)

-- the boxes of a walk that are still to come
abbrev pub boxes_left : {T W : Type 0} → (T → Option W) → WalkBoxes T → List (List (ℕ × ℕ) × W)
boxes_left reason boxes =
    boxes_from (open_of boxes.opened) (map reason boxes.turns.now)

-- the last open cell was closed by a reason
pub record Closes {W : Type 0} (cell : Cell) (before after : List Cell)
    (turns_before turns_after : List (Option W)) (why : W) : Type 0 where
  pub top : before ≡ after ++ cell ∷ []
  pub turn : turns_after ≡ turns_before ++ Some why ∷ []

-- a cell behind others gave way to its halves, the lower one last
pub record IsCut (cell : Cell) (rest after : List Cell) : Type 0 where
  pub lower : Cell
  pub upper : Cell
  pub cut : after ≡ (rest ++ upper ∷ []) ++ lower ∷ []
  pub halves : AreHalves (spans_of cell) (spans_of lower) (spans_of upper)

-- so did the last open cell
pub record Cuts {W : Type 0} (cell : Cell) (before after : List Cell)
    (turns_before turns_after : List (Option W)) : Type 0 where
  pub rest : List Cell
  pub lower : Cell
  pub upper : Cell
  pub top : before ≡ rest ++ cell ∷ []
  pub cut : after ≡ (rest ++ upper ∷ []) ++ lower ∷ []
  pub halves : AreHalves (spans_of cell) (spans_of lower) (spans_of upper)
  pub turn : turns_after ≡ turns_before ++ None ∷ []

-- it holds a single tuple and is left as it is, but open no more
pub record StaysSingle {W : Type 0} (cell left : Cell) (before after : List Cell)
    (turns_before turns_after : List (Option W)) : Type 0 where
  pub single : IsSingle (spans_of cell)
  pub same : left ≡ cell
  pub top : before ≡ after ++ cell ∷ []
  pub turns : turns_after ≡ turns_before

-- By a reason, if there is one, the last open cell is closed. Otherwise it is cut, or what is left
-- of it is a single tuple.
abbrev pub Settles : {W : Type 0} → Cell → List Cell → List Cell → List (Option W)
    → List (Option W) → Option W → Option Cell → Type 0
Settles cell before after turns_before turns_after (Some why) single =
    Closes cell before after turns_before turns_after why × (single ≡ None)
Settles cell before after turns_before turns_after None None =
    Cuts cell before after turns_before turns_after
Settles cell before after turns_before turns_after None (Some left) =
    StaysSingle cell left before after turns_before turns_after

-- A step of a search: the last open cell was closed by a reason that holds of it, or cut where it
-- may be.
pub record ClosesFor {W : Type 0} (IsClosed : List (ℕ × ℕ) → W → Type 0) (before after : List Cell)
    (turns_before turns_after : List (Option W)) : Type 0 where
  pub cell : Cell
  pub why : W
  pub closes : Closes cell before after turns_before turns_after why
  pub reason : IsClosed (spans_of cell) why

pub record CutsOpen {W : Type 0} (IsOpen : List (ℕ × ℕ) → Type 0) (before after : List Cell)
    (turns_before turns_after : List (Option W)) : Type 0 where
  pub cell : Cell
  pub cuts : Cuts cell before after turns_before turns_after
  pub is_open : IsOpen (spans_of cell)

abbrev pub Advances : {W : Type 0} → (List (ℕ × ℕ) → W → Type 0) → (List (ℕ × ℕ) → Type 0)
    → List Cell → List Cell → List (Option W) → List (Option W) → Type 0
Advances IsClosed IsOpen before after turns_before turns_after =
    ClosesFor IsClosed before after turns_before turns_after
    ⊎ CutsOpen IsOpen before after turns_before turns_after
