-- The points of one performance of a day.
use Rattle.std.specs.Prelude.{ℕ, ◌≤◌, ◌==◌, not, ◌||◌, List, length, Contains, if◌then◌else◌}
use Rattle.gl_points.specs.declared.summary.Summary.{Summary}
use Rattle.gl_points.specs.declared.performance.Performance.{Performance}
use Rattle.gl_points.specs.Summary.{IsSummaryOf}
use Rattle.gl_points.specs.Figures.{handicapped_distance, handicapped_speed}
use Rattle.gl_points.specs.Fraction.{Fraction, ◌÷◌, ◌⊗◌, ◌⊘◌, ◌⊕◌, ◌⊖◌, lesser, rounded, whole}
use Rattle.gl_points.specs.Limits.{performance_limit}
use Rattle.gl_points.specs.Worth.{worth}

-- A day is that of a list of at most 256 performances, and this is one of them.
pub record IsPartOf (day : Summary) (p : Performance) : Type 0 where
  pub list : List Performance
  pub day_of : IsSummaryOf list day
  pub room : length list ≤ performance_limit
  pub among : Contains list p

-- how much a day counts, by how many of the launched flew far
unfoldable pub day_factor : Summary → Fraction
day_factor day = lesser (whole 1) ((5 ÷ 4) ⊗ (day.far ÷ day.launched))

-- how much a day counts, by how many of those were fast
unfoldable pub completion_factor : Summary → Fraction
completion_factor day = lesser (whole 1) ((6 ÷ 5) ⊗ (day.fast ÷ day.far) ⊕ (3 ÷ 5))

-- the most points of the day for speed
unfoldable pub most_for_speed : Summary → Fraction
most_for_speed day = (2 ÷ 3) ⊗ (day.fast ÷ day.launched) ⊗ worth day.most

-- the most points of the day for distance
unfoldable pub most_for_distance : Summary → Fraction
most_for_distance day = worth day.most ⊖ most_for_speed day

-- how far a handicapped speed is on the way from two thirds of the greatest to the greatest
unfoldable pub share_of_speed : Summary → Performance → Fraction
share_of_speed day p =
    if day.speed.num == 0 then whole 0 else
    (handicapped_speed day.handicap p ⊖ (2 ÷ 3) ⊗ worth day.speed) ⊘ ((1 ÷ 3) ⊗ worth day.speed)

-- a handicapped distance as a part of the greatest
abbrev pub share_of_distance : Summary → Performance → Fraction
share_of_distance day p = handicapped_distance day.handicap p ⊘ worth day.distance

-- the points of a finisher, before the day's factors
unfoldable pub points_of_finisher : Summary → Performance → Fraction
points_of_finisher day p = most_for_speed day ⊗ share_of_speed day p ⊕ most_for_distance day

-- the points of an outlanding, before the day's factors
unfoldable pub points_of_outlanding : Summary → Performance → Fraction
points_of_outlanding day p =
    most_for_distance day ⊗ (handicapped_distance day.handicap p ⊘ worth day.distance)

-- the points as an exact fraction, of one who was launched on a day on which somebody flew far
unfoldable pub exact_points : Summary → Performance → Fraction
exact_points day p =
    day_factor day ⊗ completion_factor day
    ⊗ (if p.finished then points_of_finisher day p else points_of_outlanding day p)

-- The points before penalties: 0 for one who wasn't launched, and for all where nobody flew far.
unfoldable pub points_earned : Summary → Performance → ℕ
points_earned day p =
    if not p.launched || (day.far == 0) then 0 else rounded (exact_points day p)
