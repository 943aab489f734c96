-- The figures of one performance and of several: a handicapped distance and speed, and which is the
-- greatest or the least. Distances are in metres, times in seconds, handicaps in thousandths.
use Rattle.std.specs.Prelude.{ℕ, ◌*◌, min, Bool, not, List, ◌∷◌, map, Contains, All, Option}
use Rattle.std.specs.List.{reduce}
use Rattle.gl_points.specs.declared.performance.Performance.{Performance}
use Rattle.gl_points.specs.Fraction.{Fraction, ◌÷◌, ◌⊗◌, IsAtMost, is_at_most, is_same, whole}

-- a distance as the least handicap would have flown it
abbrev pub handicapped_distance : ℕ → Performance → Fraction
handicapped_distance least p = (p.metres * least) ÷ p.handicap

-- that distance by the marking time
abbrev pub handicapped_speed : ℕ → Performance → Fraction
handicapped_speed least p = (p.metres * least) ÷ (p.handicap * p.seconds)

-- a handicapped distance is far: 100 km or more
abbrev pub is_far : ℕ → Performance → Bool
is_far least p = is_at_most (whole 100_000) (handicapped_distance least p)

-- a handicapped speed is fast: above two thirds of the greatest
abbrev pub is_fast : ℕ → Fraction → Performance → Bool
is_fast least greatest p = not (is_at_most (handicapped_speed least p) ((2 ÷ 3) ⊗ greatest))

-- a handicapped speed is the greatest
abbrev pub is_fastest : ℕ → Fraction → Performance → Bool
is_fastest least greatest p = is_same (handicapped_speed least p) greatest

-- The greatest of a figure of some performances, or 0: it is 0 or the figure of one of them, and
-- the figure of none is above it.
pub record IsGreatestFigure (figure : Performance → Fraction) (list : List Performance)
    (greatest : Fraction) : Type 0 where
  pub among : Contains (whole 0 ∷ map figure list) greatest
  pub above : All (λ p. IsAtMost (figure p) greatest) list

-- the least of some numbers, if there are any
abbrev pub least_number : List ℕ → Option ℕ
least_number numbers = reduce min numbers
