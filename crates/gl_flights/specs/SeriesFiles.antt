-- The files of `series`: their tests in their order, and what they give.
use Rattle.std.specs.Prelude.{◌≡◌, ℕ, ◌≤◌, ◌⊎◌, List, [], ◌∷◌, ◌++◌, length, Option, None, Some, IsSomeAnd, Vec}
use Rattle.std.specs.List.{AllZip}
use Rattle.std.specs.declared.alloc.Global.{Global}
use Rattle.gl_desk.specs.Desk.{FilesByName, IsSeenIn}
use Rattle.gl_desk.specs.Limits.{most_bytes}
use Rattle.gl_series.specs.SeriesList.{IsList, IsRefused}
use Rattle.gl_series.specs.SheetText.{IsRefusedSheet, IsSheetOf}
use Rattle.gl_series.specs.declared.day.DaySheet.{DaySheet}
use Rattle.gl_series.specs.declared.error.ListError.{ListError}
use Rattle.gl_series.specs.declared.error.ListError.TheVariants as list
use Rattle.gl_series.specs.declared.error.SheetError.{SheetError}
use Rattle.gl_series.specs.declared.error.SheetError.TheVariants as sheet
use Rattle.gl_series.specs.declared.series.Series.{Series}
use Rattle.gl_words.specs.Words.{SeriesWords}
use Rattle.gl_answer.specs.FileTests.{FileTest, Kind, Listed, text_tests}
use Rattle.gl_answer.specs.declared.refusal.Cause.{Cause}
use Rattle.gl_answer.specs.declared.refusal.Cause.TheVariants.{NoListHeading, NoSheetHeading, WrongListLine, WrongRecord}

-- why a text is no list of a championship
abbrev pub list_cause : ListError → Option Cause
list_cause list.Heading = Some NoListHeading
list_cause (list.Line line) = Some (WrongListLine line)
list_cause list.Memory = None

-- the list of a championship
abbrev pub SeriesListText : Kind
SeriesListText = record {
  IsText = λ text. (series : Series) × IsList text series;
  IsNoText = λ text cause.
      (error : ListError) × IsRefused text error × (list_cause error ≡ Some cause);
}

-- why a text is no sheet of a day
abbrev pub sheet_cause : SheetError → Option Cause
sheet_cause sheet.Heading = Some NoSheetHeading
sheet_cause (sheet.Record number) = Some (WrongRecord number)
sheet_cause sheet.Memory = None

-- the sheet of a day
abbrev pub SheetText : Kind
SheetText = record {
  IsText = λ text. (day : DaySheet) × IsSheetOf text day;
  IsNoText = λ text cause.
      (error : SheetError) × IsRefusedSheet text error × (sheet_cause error ≡ Some cause);
}

-- what is seen of the sheet of a day: the name of its file, and its bytes or that it isn't listed
pub record DaySeen : Type 0 where
  pub file : List ℕ
  pub sheet : Option (List ℕ)

-- what is seen of the list, and of the sheets of its days
pub record SeriesSeen : Type 0 where
  pub list : Option (List ℕ)
  pub days : List DaySeen

-- the text that was seen is small enough, and is a list that says this
abbrev pub IsListRead : Option (List ℕ) → Series → Type 0
IsListRead seen series = IsSomeAnd seen (λ text. (length text ≤ most_bytes) × IsList text series)

-- this is seen of the day with a name
abbrev pub IsDaySeen : Option FilesByName → List ℕ → DaySeen → Type 0
IsDaySeen folder name day = (day.file ≡ name) × IsSeenIn folder name day.sheet

-- where the list reads, what is seen of its days, in its order; where it doesn't, nothing more
abbrev pub AreDaysSeen : Option FilesByName → SeriesSeen → Type 0
AreDaysSeen folder seen =
    ((series : Series) × IsListRead seen.list series
    × AllZip (IsDaySeen folder) series.days seen.days)
    ⊎ (((series : Series) → IsListRead seen.list series → ⊥) × (seen.days ≡ []))

abbrev pub IsSeriesSeen : SeriesWords → Option FilesByName → SeriesSeen → Type 0
IsSeriesSeen words folder seen =
    IsSeenIn folder words.list seen.list × AreDaysSeen folder seen

-- a file is listed; it isn't too large; its text is of the kind
abbrev pub tests_of : Kind → List ℕ → Option (List ℕ) → List FileTest
tests_of kind file seen = Listed file seen ∷ text_tests kind most_bytes file seen

abbrev pub day_tests : DaySeen → List FileTest
day_tests day = tests_of SheetText day.file day.sheet

-- those of some days, day after day
abbrev pub days_tests : List DaySeen → List FileTest
days_tests [] = []
days_tests (day ∷ days) = day_tests day ++ days_tests days

-- The list is tested, and then day after day.
abbrev pub series_tests : SeriesWords → SeriesSeen → List FileTest
series_tests words seen =
    tests_of SeriesListText words.list seen.list ++ days_tests seen.days

-- this sheet was read
abbrev pub IsSheetRead : DaySeen → DaySheet → Type 0
IsSheetRead day sheet = IsSomeAnd day.sheet (λ text. IsSheetOf text sheet)

-- this list and these sheets were read
abbrev pub AreSeriesRead : SeriesSeen → Series × Vec DaySheet Global → Type 0
AreSeriesRead seen read =
    IsListRead seen.list read.0 × AllZip IsSheetRead seen.days read.1.items
