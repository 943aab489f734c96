-- A cell is a box of tuples: on each axis it has a span, from the lowest to the highest place, both
-- inside.
use Rattle.std.specs.Prelude.{ℕ, ◌≤◌, Bool, true, false, ◌&&◌, nat_le, IsTrue, List, [], ◌∷◌, take, map}
use Rattle.gl_box.specs.declared.span.Span.{Span}
use Rattle.gl_box.specs.declared.cell.Cell.{Cell}

-- the lowest and the highest place of a span
abbrev pub ends : Span → ℕ × ℕ
ends span = (span.lo, span.hi)

-- the span on each axis
abbrev pub spans_of : Cell → List (ℕ × ℕ)
spans_of cell = map ends (take cell.axes cell.spans)

-- whether a cell holds a tuple: it has as many axes, and its place on each axis lies in the span
-- there
abbrev pub holds : List (ℕ × ℕ) → List ℕ → Bool
holds [] [] = true
holds [] (place ∷ places) = false
holds (span ∷ spans) [] = false
holds (span ∷ spans) (place ∷ places) =
    nat_le span.0 place && nat_le place span.1 && holds spans places

abbrev pub Holds : List (ℕ × ℕ) → List ℕ → Type 0
Holds cell tuple = IsTrue (holds cell tuple)

-- one cell covers another: both have as many axes, and on each axis the span of the one lies in
-- that of the other
abbrev pub Covers : List (ℕ × ℕ) → List (ℕ × ℕ) → Type 0
Covers [] [] = Unit {0}
Covers [] (inner ∷ inners) = ⊥
Covers (outer ∷ outers) [] = ⊥
Covers (outer ∷ outers) (inner ∷ inners) =
    (outer.0 ≤ inner.0) × (inner.1 ≤ outer.1) × Covers outers inners

-- the cell of a single tuple
abbrev pub point : List ℕ → List (ℕ × ℕ)
point tuple = map (λ place. (place, place)) tuple
