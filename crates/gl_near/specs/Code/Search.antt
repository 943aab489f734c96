-- How a search goes on: its turns close boxes, and leave cells open, the last one first.
use Rattle.std.specs.Prelude.{◌≡◌, ℕ, ◌≤◌, ◌<◌, List, [], ◌∷◌, Option, None, Some, All}
use Rattle.gl_box.specs.declared.cell.Cell.{Cell}
use Rattle.gl_box.specs.Cell.{Covers, spans_of}
use Rattle.gl_box.specs.Turns.{boxes_from, left_open}
use Rattle.gl_box.specs.Walk.{open_cells}
use Rattle.gl_near.specs.declared.found.NearBest.{NearBest}
use Rattle.gl_near.specs.declared.found.NearWhy.{NearWhy}
use Rattle.gl_near.specs.declared.verdict.Tested.{Tested}
use Rattle.gl_near.specs.declared.verdict.Tested.TheVariants.{Closed, Open}
use Rattle.gl_near.specs.declared.dive.Candidate.{Candidate}
use Rattle.gl_near.specs.Line.{AreTwoSpans}
use Rattle.gl_near.specs.Pairing.{Pairing, IsApart, least, whole_cell}
use Rattle.gl_near.specs.Certificate.{IsClosedFor, IsSound, total_of}

-- a total that was found is no more than an earlier one
abbrev pub IsNoMore : Option ℕ → Option ℕ → Type 0
IsNoMore None total = Unit {0}
IsNoMore (Some old) None = ⊥
IsNoMore (Some old) (Some new) = new ≤ old

-- a cell that passes its tests has hulls nearer than each total that was found
pub record Promises (pairing : Pairing) (total : Option ℕ) (cell : List (ℕ × ℕ))
    (distance : ℕ) : Type 0 where
  pub not_apart : IsApart pairing cell → ⊥
  pub is_least : distance ≡ least pairing cell
  pub below : (found : ℕ) → total ≡ Some found → distance < found

-- what the tests say of a cell, against the total that was found
abbrev pub IsTested : Pairing → Option ℕ → List (ℕ × ℕ) → Tested → Type 0
IsTested pairing total cell (Closed why) = IsClosedFor pairing total cell why
IsTested pairing total cell (Open distance) = Promises pairing total cell distance

-- candidates lie in the whole cell
abbrev pub AreWithin : Pairing → List Candidate → Type 0
AreWithin pairing candidates =
    All (λ candidate. Covers (whole_cell pairing) (spans_of candidate.cell)) candidates

-- a box of a search, closed for a total by its reason
pub record IsBox (pairing : Pairing) (total : Option ℕ) (box : List (ℕ × ℕ) × NearWhy)
    : Type 0 where
  pub closed : IsClosedFor pairing total box.0 box.1
  pub spans : AreTwoSpans box.0

-- a search under way from the whole cell: what its turns closed, and what they left open
pub record IsUnderWay (pairing : Pairing) (best : Option NearBest) (cells : List Cell)
    (turns : List (Option NearWhy)) : Type 0 where
  pub sound : IsSound pairing best
  pub left : left_open (whole_cell pairing ∷ []) turns ≡ open_cells cells
  pub boxes_are :
      All (IsBox pairing (total_of best)) (boxes_from (whole_cell pairing ∷ []) turns)
  pub covered : All (λ cell. Covers (whole_cell pairing) (spans_of cell)) cells
