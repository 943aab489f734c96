-- How long the legs of a triangle can be where of each corner no more is known than a span.
use Rattle.std.specs.Prelude.{◌≡◌, ℕ, ◌+◌, ◌≤◌, Bool, IsTrue, List, [], ◌∷◌}
use Rattle.gl_box.specs.declared.span.Span.{Span}
use Rattle.gl_box.specs.Cell.{ends}
use Rattle.gl_igc.specs.declared.fix.Fix.{Fix}
use Rattle.gl_goal.specs.Box.{Box, fixes_in, hull_of}
use Rattle.gl_goal.specs.Chain.{greatest_distance, least_distance}
use Rattle.gl_goal.specs.Fair.{is_fair}
use Rattle.gl_triangle.specs.declared.leg.Leg.{Leg}
use Rattle.gl_triangle.specs.declared.legs.Legs.{Legs}
use Rattle.gl_triangle.specs.declared.spans.Corner.{Corner}
use Rattle.gl_triangle.specs.declared.spans.Corner.TheVariants.{First, Second, Third}
use Rattle.gl_triangle.specs.declared.spans.Spans.{Spans}

-- the hull of the fixes in a span
abbrev pub hull_in : List Fix → Span → Box
hull_in fixes span = hull_of (fixes_in fixes (ends span))

-- a leg is as long as points of two boxes are apart, at least and at most
pub record IsLeg (from to : Box) (leg : Leg) : Type 0 where
  pub least : leg.least ≡ least_distance from to
  pub most : leg.most ≡ greatest_distance from to

-- the legs are those between the hulls of the spans
pub record AreLegs (fixes : List Fix) (spans : Spans) (legs : Legs) : Type 0 where
  pub first : IsLeg (hull_in fixes spans.first) (hull_in fixes spans.second) legs.first
  pub second : IsLeg (hull_in fixes spans.second) (hull_in fixes spans.third) legs.second
  pub third : IsLeg (hull_in fixes spans.third) (hull_in fixes spans.first) legs.third

-- the leg that doesn't touch a corner is the one between the hulls of the other two
abbrev pub IsAcross : List Fix → Spans → Legs → Corner → Type 0
IsAcross fixes spans legs First =
    IsLeg (hull_in fixes spans.second) (hull_in fixes spans.third) legs.second
IsAcross fixes spans legs Second =
    IsLeg (hull_in fixes spans.third) (hull_in fixes spans.first) legs.third
IsAcross fixes spans legs Third =
    IsLeg (hull_in fixes spans.first) (hull_in fixes spans.second) legs.first

-- a length lies between the least and the most of a leg
abbrev pub IsBetween : Leg → ℕ → Type 0
IsBetween leg length = (leg.least ≤ length) × (length ≤ leg.most)

-- three lengths are those of legs that a rule allows
pub record AreBy (goal : List ℕ → Bool) (legs : Legs) (first second third : ℕ) : Type 0 where
  pub first_between : IsBetween legs.first first
  pub second_between : IsBetween legs.second second
  pub third_between : IsBetween legs.third third
  pub allowed : IsTrue (goal (first ∷ second ∷ third ∷ []))

-- legs that a rule allows are together at most so long
abbrev pub AreAtMostBy : (List ℕ → Bool) → Legs → ℕ → Type 0
AreAtMostBy goal legs most =
    (first second third : ℕ) → AreBy goal legs first second third → first + second + third ≤ most

-- three lengths are those of fair legs
abbrev pub AreFair : Legs → ℕ → ℕ → ℕ → Type 0
AreFair legs first second third = AreBy is_fair legs first second third

-- fair legs are together at most so long
abbrev pub AreAtMost : Legs → ℕ → Type 0
AreAtMost legs most = AreAtMostBy is_fair legs most
