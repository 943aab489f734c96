-- Where a cell ends on one axis, and what each box between two places is like.
use Rattle.std.specs.Prelude.{ℕ, ◌<◌, ◌≤◌, List, get_or, length}
use Rattle.gl_box.specs.Halves.{span_at}

-- a cell has an axis, and its span there ends at a place or before it
abbrev pub EndsBy : ℕ → ℕ → List (ℕ × ℕ) → Type 0
EndsBy axis last cell = (axis < length cell) × ((span_at cell axis).1 ≤ last)

-- each box has P from one place on, and before another
abbrev pub EachBetween : {B : Type 0} → (B → Type 0) → List B → ℕ → ℕ → Type 0
EachBetween P boxes from to = (place : ℕ) (default : _) → from ≤ place → place < to → P (get_or boxes place default)
