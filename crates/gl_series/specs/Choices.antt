-- The points of a pilot over several days, of which some may be left out.
use Rattle.std.specs.Prelude.{◌≡◌, ℕ, ◌<◌, ◌≤◌, List, [], ◌∷◌, ◌++◌, if◌then◌else◌, length, sum_by}
use Rattle.std.specs.List.Sorted.{IsPermutation}
use Rattle.gl_series.specs.declared.day.DayRow.{DayRow}
use Rattle.gl_series.specs.declared.day.DaySheet.{DaySheet}
use Rattle.gl_text.specs.Forms.{is_text}

-- the points beside a number in some rows, 0 where it isn't there
abbrev pub points_beside : List ℕ → List DayRow → ℕ
points_beside number [] = 0
points_beside number (row ∷ rows) =
    if is_text number row.number then row.points else points_beside number rows

-- the points of a pilot on a day
abbrev pub points_on : List ℕ → DaySheet → ℕ
points_on number day = points_beside number day.rows

-- A choice of days: those that count and those that are left out are together the days, and so many
-- are left out.
pub record IsChoice (days : List DaySheet) (drop : ℕ) (counted : List DaySheet) : Type 0 where
  pub left : List DaySheet
  pub parts : IsPermutation days (counted ++ left)
  pub many : length left ≡ drop

-- the greatest sum of a pilot's points over the days of a choice; 0 where no day is left to count
pub record IsTotal (days : List DaySheet) (drop : ℕ) (number : List ℕ) (total : ℕ) : Type 0 where
  pub nothing : length days ≤ drop → total ≡ 0
  pub reached : drop < length days → (counted : List DaySheet)
      × IsChoice days drop counted × (total ≡ sum_by (points_on number) counted)
  pub greatest : (counted : List DaySheet) → IsChoice days drop counted
      → sum_by (points_on number) counted ≤ total
