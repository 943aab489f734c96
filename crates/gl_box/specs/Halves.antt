-- How a cell is cut into halves.
use Rattle.std.specs.Prelude.{◌≡◌, ℕ, ◌+◌, ◌-◌, ◌/◌, ◌<◌, ◌≤◌, nat_le, nat_lt, if◌then◌else◌, List, [], ◌∷◌, length, slice_index_or, slice_set, All, ◌⊎◌, Option, None, Some}

-- the span of a cell on an axis, 0 to 0 where there is no such axis
abbrev pub span_at : List (ℕ × ℕ) → ℕ → ℕ × ℕ
span_at cell axis = slice_index_or cell axis (0, 0)

-- how far the last place of a span is from the first one
abbrev pub width : ℕ × ℕ → ℕ
width span = span.1 - span.0

-- a cell has the widest span on this axis, the lowest of such axes where several spans are equally
-- wide
pub record IsWidest (cell : List (ℕ × ℕ)) (axis : ℕ) : Type 0 where
  pub inside : axis < length cell
  pub widest : (other : ℕ) → width (span_at cell other) ≤ width (span_at cell axis)
  pub lowest : (other : ℕ) → other < axis → width (span_at cell other) < width (span_at cell axis)

-- A cell is cut on the axis of its widest span, which has more than one place: the lower half has
-- its places up to the middle, and the upper half the rest.
pub record AreHalves (cell lower upper : List (ℕ × ℕ)) : Type 0 where
  pub axis : ℕ
  pub widest : IsWidest cell axis
  pub wide : 0 < width (span_at cell axis)
  pub lower_is : lower
      ≡ slice_set cell axis
      ((span_at cell axis).0, ((span_at cell axis).0 + (span_at cell axis).1) / 2)
  pub upper_is : upper
      ≡ slice_set cell axis
      (((span_at cell axis).0 + (span_at cell axis).1) / 2 + 1, (span_at cell axis).1)

-- one of the halves of a cell
pub record IsHalf (cell half : List (ℕ × ℕ)) : Type 0 where
  pub lower : List (ℕ × ℕ)
  pub upper : List (ℕ × ℕ)
  pub halves : AreHalves cell lower upper
  pub either : (half ≡ lower) ⊎ (half ≡ upper)

-- a cell holds a single tuple where each span has a single place
abbrev pub IsSingle : List (ℕ × ℕ) → Type 0
IsSingle cell = All (λ span. span.0 ≡ span.1) cell

-- the axis of the widest span, the lowest of such axes
abbrev pub widest_axis : List (ℕ × ℕ) → ℕ
widest_axis [] = 0
widest_axis (span ∷ spans) =
    if nat_le (width (span_at spans (widest_axis spans))) (width span) then 0
    else widest_axis spans + 1

-- the part of a cell up to the middle of an axis, and the rest
abbrev pub lower_at : List (ℕ × ℕ) → ℕ → List (ℕ × ℕ)
lower_at cell axis =
    slice_set cell axis ((span_at cell axis).0, ((span_at cell axis).0 + (span_at cell axis).1) / 2)

abbrev pub upper_at : List (ℕ × ℕ) → ℕ → List (ℕ × ℕ)
upper_at cell axis =
    slice_set cell axis
    (((span_at cell axis).0 + (span_at cell axis).1) / 2 + 1, (span_at cell axis).1)

-- the halves of a cell, the lower one and the upper one; none where it holds a single tuple
abbrev pub halves_of : List (ℕ × ℕ) → Option (List (ℕ × ℕ) × List (ℕ × ℕ))
halves_of cell =
    if nat_lt 0 (width (span_at cell (widest_axis cell)))
    then Some (lower_at cell (widest_axis cell), upper_at cell (widest_axis cell))
    else None
