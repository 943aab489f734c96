-- Chains of legs: from each of some points to the next along the sphere; and how long the legs can
-- be at most where of each point no more is known than a box that it lies in. A fixed end of a
-- chain is a point, whose box is that point's.
use Rattle.std.specs.Prelude.{ℕ, ◌+◌, List, [], ◌∷◌, map, slice_get}
use Rattle.std.specs.List.{filter_map}
use Rattle.gl_sphere.specs.declared.place.Vec3.{Vec3}
use Rattle.gl_sphere.specs.Distance.{written_distance, distance}
use Rattle.gl_igc.specs.declared.fix.Fix.{Fix}
use Rattle.gl_goal.specs.Box.{Box, fixes_in, hull_of}
use Rattle.gl_goal.specs.Chords.{greatest_chord, least_chord}

-- the last of a first one and others
abbrev pub last_of : {X : Type 0} → X → List X → X
last_of first [] = first
last_of first (next ∷ others) = last_of next others

-- the legs from each point to the next
abbrev pub legs : List Vec3 → ℕ
legs [] = 0
legs (a ∷ []) = 0
legs (a ∷ b ∷ points) = distance a b + legs (b ∷ points)

-- the greatest distance of two points, one in each box
abbrev pub greatest_distance : Box → Box → ℕ
greatest_distance a b = written_distance (greatest_chord a b)

-- the least distance of two points, one in each box
abbrev pub least_distance : Box → Box → ℕ
least_distance a b = written_distance (least_chord a b)

-- the greatest distances from each box to the next
abbrev pub greatest_legs : List Box → ℕ
greatest_legs [] = 0
greatest_legs (a ∷ []) = 0
greatest_legs (a ∷ b ∷ boxes) = greatest_distance a b + greatest_legs (b ∷ boxes)

-- the fixes with these numbers
abbrev pub fixes_at : List Fix → List ℕ → List Fix
fixes_at fixes numbers = filter_map (slice_get fixes) numbers

-- the points of some fixes
abbrev pub points_of : List Fix → List Vec3
points_of fixes = map (λ fix. fix.at) fixes

-- on each axis the hull of the fixes in the span of a cell
abbrev pub hulls_of : List Fix → List (List ℕ) → List (ℕ × ℕ) → List Box
hulls_of fixes [] spans = []
hulls_of fixes (axis ∷ axes) [] = []
hulls_of fixes (axis ∷ axes) (span ∷ spans) =
    hull_of (fixes_in (fixes_at fixes axis) span) ∷ hulls_of fixes axes spans
