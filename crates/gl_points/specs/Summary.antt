-- The figures of a day, each from the list of all its performances.
use Rattle.std.specs.Prelude.{◌≡◌, ℕ, List, length, map, filter, Option, None, Some, unwrap_or}
use Rattle.gl_points.specs.declared.summary.Summary.{Summary}
use Rattle.gl_points.specs.declared.performance.Performance.{Performance}
use Rattle.gl_points.specs.Figures.{IsGreatestFigure, handicapped_distance, handicapped_speed, is_far, is_fast, is_fastest, least_number}
use Rattle.gl_points.specs.Fraction.{Fraction, ◌÷◌, ◌⊘◌, ◌⊖◌, lesser, whole}
use Rattle.gl_points.specs.Limits.{point_limit}
use Rattle.gl_points.specs.Worth.{worth}

-- those who were launched
abbrev pub launched_of : List Performance → List Performance
launched_of list = filter (λ p. p.launched) list

-- those who finished
abbrev pub finishers_of : List Performance → List Performance
finishers_of list = filter (λ p. p.finished) list

-- the least handicap of the launched, or 0
abbrev pub least_handicap : List Performance → ℕ
least_handicap list = unwrap_or (least_number (map (λ p. p.handicap) (launched_of list))) 0

-- the points that a greatest distance in metres allows: 5 a kilometre, less 250
abbrev pub points_by_distance : Fraction → Fraction
points_by_distance distance = distance ⊘ whole 200 ⊖ whole 250

-- the points that a time of the fastest in seconds allows: 400 an hour, less 200
abbrev pub points_by_time : ℕ → Fraction
points_by_time time = time ÷ 9 ⊖ whole 200

-- the most points of a day: 1,000, or less by its distance and, where somebody finished, its time
abbrev pub most_points_of_day : Fraction → Option ℕ → Fraction
most_points_of_day distance None = lesser (whole point_limit) (points_by_distance distance)
most_points_of_day distance (Some time) =
    lesser (lesser (whole point_limit) (points_by_distance distance)) (points_by_time time)

-- The figures are those of a list of performances. The greatest distance is over the launched
-- alone:
-- who wasn't launched flew nothing, and a distance beside such an entry says nothing of the day.
pub record IsSummaryOf (list : List Performance) (day : Summary) : Type 0 where
  pub launched : day.launched ≡ length (launched_of list)
  pub handicap : day.handicap ≡ least_handicap list
  pub distance :
      IsGreatestFigure (handicapped_distance day.handicap) (launched_of list) (worth day.distance)
  pub far : day.far ≡ length (filter (is_far day.handicap) (launched_of list))
  pub speed :
      IsGreatestFigure (handicapped_speed day.handicap) (finishers_of list) (worth day.speed)
  pub fast :
      day.fast ≡ length (filter (is_fast day.handicap (worth day.speed)) (finishers_of list))
  pub time :
      day.time
      ≡ least_number (map (λ p. p.seconds)
      (filter (is_fastest day.handicap (worth day.speed)) (finishers_of list)))
  pub most : worth day.most ≡ most_points_of_day (worth day.distance) day.time
