-- Which fixes of a list are near a point or a box, and the last of them in a span.
use Rattle.std.specs.Prelude.{◌≡◌, ℕ, ◌≤◌, ◌<◌, List, Some, slice_get}
use Rattle.gl_sphere.specs.declared.place.Vec3.{Vec3}
use Rattle.gl_sphere.specs.Distance.{squared_chord, written_distance}
use Rattle.gl_igc.specs.declared.fix.Fix.{Fix}
use Rattle.gl_goal.specs.Box.{Box, IsInside}

-- the fix at a place of a list is at most so many centimetres from a point, along the sphere
pub record IsNear (fixes : List Fix) (point : Vec3) (limit place : ℕ) : Type 0 where
  pub fix : Fix
  pub there : slice_get fixes place ≡ Some fix
  pub near : written_distance (squared_chord point fix.at) ≤ limit

-- a place lies in a span, from its first place to its last
abbrev pub IsPlaceOf : ℕ × ℕ → ℕ → Type 0
IsPlaceOf span place = (span.0 ≤ place) × (place ≤ span.1)

-- no place of a span is of a kind
abbrev pub IsNoneOf : (ℕ → Type 0) → ℕ × ℕ → Type 0
IsNoneOf kind span = (place : ℕ) → IsPlaceOf span place → ¬ kind place

-- a place of a span is of a kind that says what is near, and no later place of the span is
pub record IsLastOf (kind : ℕ → Type 0) (span : ℕ × ℕ) (place : ℕ) : Type 0 where
  pub within : IsPlaceOf span place
  pub near : kind place
  pub last : (later : ℕ) → place < later → later ≤ span.1 → ¬ kind later

-- no fix of a span is near the point
abbrev pub IsNoneNear : List Fix → Vec3 → ℕ → ℕ × ℕ → Type 0
IsNoneNear fixes point limit span = IsNoneOf (IsNear fixes point limit) span

-- a place of a span has a fix near the point, and no later place of the span has one
abbrev pub IsLastNear : List Fix → Vec3 → ℕ → ℕ × ℕ → ℕ → Type 0
IsLastNear fixes point limit span place = IsLastOf (IsNear fixes point limit) span place

-- the fix at a place of a list is at most so many centimetres from some point of a box
pub record IsNearBox (fixes : List Fix) (box : Box) (limit place : ℕ) : Type 0 where
  pub point : Vec3
  pub inside : IsInside box point
  pub near : IsNear fixes point limit place

-- no fix of a span is near the box
abbrev pub IsNoneNearBox : List Fix → Box → ℕ → ℕ × ℕ → Type 0
IsNoneNearBox fixes box limit span = IsNoneOf (IsNearBox fixes box limit) span

-- a place of a span has a fix near the box, and no later place of the span has one
abbrev pub IsLastNearBox : List Fix → Box → ℕ → ℕ × ℕ → ℕ → Type 0
IsLastNearBox fixes box limit span place = IsLastOf (IsNearBox fixes box limit) span place
