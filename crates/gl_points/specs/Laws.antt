-- What the points of a day are like, beside their formulas.
use Rattle.std.specs.Prelude.{◌≡◌, ◌≤◌, false, IsTrue, List, Contains}
use Rattle.std.specs.List.Sorted.{IsPermutation}
use Rattle.gl_points.specs.declared.summary.Summary.{Summary}
use Rattle.gl_points.specs.declared.performance.Performance.{Performance}
use Rattle.gl_points.specs.Summary.{IsSummaryOf}
use Rattle.gl_points.specs.Points.{points_earned}

-- two performances of one day
pub record AreOfDay (day : Summary) (p q : Performance) : Type 0 where
  pub list : List Performance
  pub day_of : IsSummaryOf list day
  pub first : Contains list p
  pub second : Contains list q

-- One who didn't finish has no more points than a finisher of the same day.
abbrev pub IsBelowFinishers : Summary → Performance → Type 0
IsBelowFinishers day p =
    (q : Performance) → AreOfDay day p q → p.finished ≡ false → IsTrue q.finished
    → points_earned day p ≤ points_earned day q

-- A finisher has no fewer points than one of the same handicap who took more time for the same
-- distance.
abbrev pub IsAheadOfSlower : Summary → Performance → Type 0
IsAheadOfSlower day p =
    (q : Performance) → AreOfDay day p q → IsTrue p.finished → IsTrue q.finished
    → p.handicap ≡ q.handicap → p.metres ≡ q.metres → p.seconds ≤ q.seconds
    → points_earned day q ≤ points_earned day p

-- An outlanding has no fewer points than one of the same handicap and fewer metres.
abbrev pub IsAheadOfShorter : Summary → Performance → Type 0
IsAheadOfShorter day p =
    (q : Performance) → AreOfDay day p q → IsTrue p.launched → p.finished ≡ false
    → q.finished ≡ false → p.handicap ≡ q.handicap → q.metres ≤ p.metres
    → points_earned day q ≤ points_earned day p

-- The points are the same on the day of the same performances in any order.
abbrev pub IsSameInAnyOrder : Summary → Performance → Type 0
IsSameInAnyOrder day p =
    (list other : List Performance) (again : Summary) → IsSummaryOf list day → Contains list p
    → IsPermutation list other → IsSummaryOf other again
    → points_earned again p ≡ points_earned day p
