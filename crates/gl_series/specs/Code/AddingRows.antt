-- How the rows of a day's sheet grow by the row of one more record, and the numbers read so far.
use Rattle.std.specs.BTreeSet.{contains}
use Rattle.std.specs.Cmp.Lexicographic.{slice_cmp}
use Rattle.std.specs.Ordering.{nat_cmp}
use Rattle.std.specs.Prelude.{ℕ, ◌+◌, List, [], ◌∷◌, ◌++◌, ◌≡◌, ◌≢◌, ◌↔◌, ⊤, All, false, length, map}
use Rattle.gl_series.specs.SheetText.{IsRowOf}
use Rattle.gl_series.specs.Totals.{IsDay}
use Rattle.gl_series.specs.declared.day.DayRow.{DayRow}
use Rattle.gl_series.specs.declared.error.SheetError.{SheetError}
use Rattle.gl_series.specs.declared.error.SheetError.TheVariants.{Heading, Record, Memory}
use Rattle.gl_series.specs.declared.numbers.Numbers.{Numbers}
use Rattle.gl_series.specs.declared.sheet.Written.{Written}

-- the row with what a record writes
abbrev pub row_written : Written → DayRow
row_written written = record {
  number = written.number.now;
  name = written.name.now;
  points = written.points;
}

-- the row of a record, which fits to the rows before it
pub record IsNextRow (rows : List DayRow) (fields : List (List ℕ)) (row : DayRow) : Type 0 where
  pub is_row : IsRowOf fields row
  pub fits : IsDay (rows ++ row ∷ [])

-- these are the numbers that are kept: a number isn't kept exactly where it is none of them
abbrev pub HasNumbers : Numbers → List (List ℕ) → Type 0
HasNumbers kept numbers = (number : List ℕ)
    → (contains (slice_cmp nat_cmp) kept.seen number ≡ false)
    ↔ All (λ other. other ≢ number) numbers

-- the row of a record was added behind those before it, and its number is kept
pub record AddsRow (fields : List (List ℕ)) (before after : List DayRow)
    (numbers : Numbers) : Type 0 where
  pub row : DayRow
  pub next : IsNextRow before fields row
  pub added : after ≡ before ++ row ∷ []
  pub kept : HasNumbers numbers (map (λ row. row.number) after)

-- what is told of a record that isn't the row of one more behind some; want of memory can always be
-- told
abbrev pub IsWrongRow : List DayRow → List (List ℕ) → SheetError → Type 0
IsWrongRow rows fields Heading = ⊥
IsWrongRow rows fields (Record number) =
    (number ≡ length rows + 2) × ((row : DayRow) → IsNextRow rows fields row → ⊥)
IsWrongRow rows fields Memory = ⊤
