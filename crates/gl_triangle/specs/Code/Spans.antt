-- The spans of the three corners of a triangle.
use Rattle.std.specs.Prelude.{ℕ, ◌+◌, ◌-◌, ◌<◌, List, [], ◌∷◌, length}
use Rattle.gl_box.specs.Cell.{ends}
use Rattle.gl_box.specs.Halves.{span_at, width}
use Rattle.gl_igc.specs.declared.fix.Fix.{Fix}
use Rattle.gl_triangle.specs.declared.spans.Corner.{Corner}
use Rattle.gl_triangle.specs.declared.spans.Corner.TheVariants.{First, Second, Third}
use Rattle.gl_triangle.specs.declared.spans.Spans.{Spans}

-- the spans in the order of the corners
abbrev pub cell_of : Spans → List (ℕ × ℕ)
cell_of spans = ends spans.first ∷ ends spans.second ∷ ends spans.third ∷ []

-- the span of all of so many places at each corner
abbrev pub all_places : ℕ → List (ℕ × ℕ)
all_places count = let all : ℕ × ℕ = (0, count - 1) in all ∷ all ∷ all ∷ []

-- the axis of a corner
abbrev pub axis_of : Corner → ℕ
axis_of First = 0
axis_of Second = 1
axis_of Third = 2

-- the span of a corner has more than one place
abbrev pub IsWide : Spans → Corner → Type 0
IsWide spans corner = 0 < width (span_at (cell_of spans) (axis_of corner))

-- how far the spans reach, all together
abbrev pub reach_of : Spans → ℕ
reach_of spans = width (ends spans.first) + width (ends spans.second) + width (ends spans.third)

-- the places of the spans are those of fixes
pub record AreWithin (fixes : List Fix) (spans : Spans) : Type 0 where
  pub first : spans.first.hi < length fixes
  pub second : spans.second.hi < length fixes
  pub third : spans.third.hi < length fixes
