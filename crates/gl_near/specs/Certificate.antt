-- What shows that no pair was overlooked: boxes that part all pairs, each of them closed for the
-- total that is claimed.
use Rattle.std.specs.Prelude.{ℕ, ◌≤◌, List, map, Option, None, Some, IsSomeAnd, All}
use Rattle.gl_box.specs.Cell.{spans_of}
use Rattle.gl_box.specs.Frontier.{IsFrontier}
use Rattle.gl_near.specs.declared.found.NearBest.{NearBest}
use Rattle.gl_near.specs.declared.found.NearClosed.{NearClosed}
use Rattle.gl_near.specs.declared.found.NearWhy.{NearWhy}
use Rattle.gl_near.specs.declared.found.NearWhy.TheVariants.{Time, Near}
use Rattle.gl_near.specs.Pairing.{Pairing, IsApart, IsReached, least, whole_cell}

-- the spans of a box, and its reason
abbrev pub box_of : NearClosed → List (ℕ × ℕ) × NearWhy
box_of closed = (spans_of closed.cell, closed.why)

-- the total that was found or claimed, if any
abbrev pub total_of : Option NearBest → Option ℕ
total_of None = None
total_of (Some best) = Some best.total

-- what was found or claimed is a pair that fits, with exactly its total as the distance, or nothing
abbrev pub IsSound : Pairing → Option NearBest → Type 0
IsSound pairing None = Unit {0}
IsSound pairing (Some best) = IsReached pairing best.total best.first best.second

-- a cell is closed for a total, if there is one, by its reason
abbrev pub IsClosedFor : Pairing → Option ℕ → List (ℕ × ℕ) → NearWhy → Type 0
IsClosedFor pairing total cell Time = IsApart pairing cell
IsClosedFor pairing total cell Near = IsSomeAnd total (λ found. found ≤ least pairing cell)

-- A certificate: the pair has the total, the boxes in their order are a frontier of the whole cell,
-- and each is closed for the total by its reason.
pub record IsCertificate (pairing : Pairing) (best : Option NearBest)
    (boxes : List (List (ℕ × ℕ) × NearWhy)) : Type 0 where
  pub sound : IsSound pairing best
  pub frontier : IsFrontier (whole_cell pairing) (map (λ box. box.0) boxes)
  pub closed : All (λ box. IsClosedFor pairing (total_of best) box.0 box.1) boxes
