-- The right answer of `series`.
use Rattle.std.specs.Prelude.{◌≡◌, ℕ, List, Option, Some}
use Rattle.std.specs.List.{AllZip}
use Rattle.gl_desk.specs.Desk.{FilesByName}
use Rattle.gl_series.specs.StandingText.{standing_text}
use Rattle.gl_series.specs.Totals.{IsStanding}
use Rattle.gl_series.specs.declared.day.DaySheet.{DaySheet}
use Rattle.gl_series.specs.declared.series.Series as list
use Rattle.gl_series.specs.declared.standing.Standing.{Standing}
use Rattle.gl_words.specs.Words.{SeriesWords}
use Rattle.gl_flights.specs.SeriesFiles.{IsListRead, IsSeriesSeen, IsSheetRead, SeriesSeen, series_tests}
use Rattle.gl_answer.specs.declared.status.Status.TheVariants.{Done}
use Rattle.gl_answer.specs.Answer.{Answer, saying}
use Rattle.gl_answer.specs.ByTests.{IsByTests, PassByTests}
use Rattle.gl_answer.specs.Promise.{Promise, reading}

-- The text of the standing after some days, of which so many are left out for each pilot.
abbrev pub IsStandingText : list.Series → List DaySheet → ℕ → List ℕ → Type 0
IsStandingText series sheets left_out said =
    (standing : Standing) × IsStanding series sheets left_out standing
    × (said ≡ standing_text standing)

-- the answer says the standing by the list and the sheets that were seen
abbrev pub IsAddedUp : SeriesWords → SeriesSeen → Answer → Type 0
IsAddedUp words seen answer =
    (series : list.Series) × IsListRead seen.list series
    × (sheets : List DaySheet) × AllZip IsSheetRead seen.days sheets
    × (said : List ℕ) × IsStandingText series sheets words.left_out said
    × (answer ≡ saying Done said)

-- the answer of `series`
abbrev pub IsSeries : Option FilesByName → SeriesWords → Answer → Type 0
IsSeries folder words answer =
    IsByTests (IsSeriesSeen words folder) (series_tests words) (IsAddedUp words) answer

-- the promise of `series`
abbrev pub series_promise : Option FilesByName → SeriesWords → Promise
series_promise folder words =
    reading (IsSeries folder words) (PassByTests folder (IsSeriesSeen words) (series_tests words))

-- In a folder, `series` has one answer: two that are both right for it are one.
abbrev pub HasOneSeries : Type 0
HasOneSeries =
    (files : FilesByName) (words : SeriesWords) (one other : Answer)
    → IsSeries (Some files) words one → IsSeries (Some files) words other → one ≡ other
