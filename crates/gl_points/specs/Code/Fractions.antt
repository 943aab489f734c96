-- Fractions that the code compares, and the limits within which they lie.
use Rattle.std.specs.Prelude.{◌*◌, if◌then◌else◌, ℕ}
use Rattle.gl_points.specs.Figures.{handicapped_distance, handicapped_speed}
use Rattle.gl_points.specs.Fraction.{IsAtMost, Fraction, is_at_most}
use Rattle.gl_points.specs.Limits.{distance_limit, handicap_limit, time_limit}
use Rattle.gl_points.specs.Worth.{worth}
use Rattle.gl_points.specs.declared.performance.Performance.{Performance}
use Rattle.gl_points.specs.declared.summary.Summary.{Summary}

-- a handicapped distance is within the day's greatest
abbrev pub IsWithinDistance : Summary → Performance → Type 0
IsWithinDistance day p =
    IsAtMost (handicapped_distance day.handicap p) (worth day.distance)

-- a handicapped speed is within the day's greatest
abbrev pub IsWithinSpeed : Summary → Performance → Type 0
IsWithinSpeed day p = IsAtMost (handicapped_speed day.handicap p) (worth day.speed)

-- the greater of two fractions
abbrev pub greater : Fraction → Fraction → Fraction
greater a b = if is_at_most a b then b else a

-- the greatest product of the numbers below two speeds' fractions
abbrev pub speed_product_limit : ℕ
speed_product_limit = distance_limit * handicap_limit * handicap_limit * time_limit
