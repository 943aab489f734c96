-- Cells as they were left, part by part, and what a search of them to the end comes to.
use Rattle.std.specs.Prelude.{◌≡◌, ℕ, ◌⊎◌, List, [], ◌∷◌, map, All, Contains, Option}
use Rattle.std.specs.List.{AllZip, flat_map}
use Rattle.gl_box.specs.declared.closed.Why.{Why}
use Rattle.gl_box.specs.Cell.{spans_of}
use Rattle.gl_box.specs.Closed.{box_of}
use Rattle.gl_box.specs.Frontier.{IsFrontier, IsNode}
use Rattle.gl_goal.specs.Best.{IsNoLess, IsSound, total_of}
use Rattle.gl_goal.specs.Certificate.{IsClosedFor}
use Rattle.gl_goal.specs.Goal.{Goal, whole_cell}
use Rattle.gl_goal.specs.declared.best.Best.{Best}
use Rattle.gl_plain.specs.Found.{boxes_of}
use Rattle.gl_plain.specs.Search.{IsHalfOfOpen}
use Rattle.gl_plain.specs.declared.found.Found.{Found}
use Rattle.gl_plain.specs.declared.part.Part.{Part}
use Rattle.gl_plain.specs.declared.part.Part.TheVariants.{Open, Done}

-- the cell of a part, open or closed
abbrev pub cell_of : Part → List (ℕ × ℕ)
cell_of (Open cell) = spans_of cell
cell_of (Done closed) = spans_of closed.cell

-- a closed part is closed by its reason for a total
abbrev pub IsDoneFor : Goal → Option ℕ → Part → Type 0
IsDoneFor goal total (Open cell) = Unit {0}
IsDoneFor goal total (Done closed) = IsClosedFor goal total (spans_of closed.cell) closed.why

-- the boxes to which a part gives way: an open one to nodes of its cell, a closed one to its own box
abbrev pub GivesWay : Part → List (List (ℕ × ℕ) × Why) → Type 0
GivesWay (Open cell) boxes = All (λ box. IsNode (spans_of cell) box.0) boxes
GivesWay (Done closed) boxes = boxes ≡ box_of closed ∷ []

-- parts give way to boxes, one after another
pub record GiveWay (parts : List Part) (boxes : List (List (ℕ × ℕ) × Why)) : Type 0 where
  pub lists : List (List (List (ℕ × ℕ) × Why))
  pub each : AllZip GivesWay parts lists
  pub all : boxes ≡ flat_map (λ list. list) lists

-- a cell that a search from some roots comes to: a root, or a half of a node that had to be cut
abbrev pub IsMet : Goal → List (List (ℕ × ℕ)) → List (ℕ × ℕ) → Type 0
IsMet goal roots cell = Contains roots cell ⊎ IsHalfOfOpen goal cell

-- Some parts of the whole cell gave way to boxes that part it by splits, each closed by its reason
-- for the total that was found, which is no less than what was known.
pub record IsFinished (goal : Goal) (parts : List Part) (known : Option Best)
    (found : Found) : Type 0 where
  pub sound : IsSound goal found.best
  pub no_less : IsNoLess (total_of known) (total_of found.best)
  pub parted : IsFrontier (whole_cell goal.axes) (map (λ box. box.0) (boxes_of found))
  pub gave : GiveWay parts (boxes_of found)
  pub closed :
      All (λ box. IsClosedFor goal (total_of found.best) box.0 box.1) (boxes_of found)
  pub met : All (λ box. IsMet goal (map cell_of parts) box.0) (boxes_of found)
