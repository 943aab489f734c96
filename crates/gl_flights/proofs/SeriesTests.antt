-- The tests of the files of `series`, one after the other.
use Rattle.std.proofs.Common.{◌≡◌, ◌∙◌, refl, sym, ap, subst, ℕ, ◌+◌, ◌<◌, ◌≤◌, inl, inr, List, [], ◌∷◌, ◌++◌, get_or, length, take, drop, Option, None, Some, Result, Ok, Err, Vec, arith}
use Rattle.std.specs.Prelude.{IsSomeAnd}
use Rattle.std.specs.List.{AllByRecursion, AllZip}
use Rattle.std.specs.declared.alloc.Global.{Global}
use Rattle.std.proofs.lemmas.List.{take-append-drop, take_all, take_more}
use Rattle.gl_desk.specs.Desk.{FilesByName, IsSeenIn, ListsNames}
use Rattle.gl_desk.specs.Limits.{most_bytes}
use Rattle.gl_series.proofs.Lines.{list_told}
use Rattle.gl_series.proofs.Sheets.{sheet_told}
use Rattle.gl_series.specs.SeriesList.{IsList, IsSeries}
use Rattle.gl_series.specs.SheetText.{IsSheetOf}
use Rattle.gl_series.specs.declared.day.DaySheet.{DaySheet}
use Rattle.gl_series.specs.declared.series.Series.{Series}
use Rattle.gl_series.specs.Totals.{AreDays, IsDay}
use Rattle.std.proofs.lemmas.List.Elements.{All-from_recursion}
use Rattle.std.proofs.lemmas.Slice.Zip.{AllZip-long}
use Rattle.gl_words.specs.Words.{SeriesWords}
use Rattle.gl_answer.specs.declared.halt.Halt.{Halt}
use Rattle.gl_answer.specs.declared.halt.Halt.TheVariants.{Refused, Stopped}
use Rattle.gl_answer.specs.declared.refusal.Cause.{Cause}
use Rattle.gl_answer.specs.declared.refusal.Refusal.{Refusal}
use Rattle.gl_answer.specs.FileTests.{AllPass, FileTest, FirstFails, HasTested, text_tests}
use Rattle.gl_answer.specs.ReadFiles.{HasReadFile, IsNeeded}
use Rattle.gl_flights.specs.SeriesFiles.{AreSeriesRead, DaySeen, IsDaySeen, IsListRead, IsSeriesSeen, IsSheetRead, SeriesListText, SeriesSeen, SheetText, day_tests, days_tests, list_cause, series_tests, sheet_cause, tests_of}
use Rattle.gl_answer.proofs.Listing.{not_listed, seen_some}
use Rattle.gl_answer.proofs.FileTests.{AreDecided, IsDecided, all_decided, all_pass, fails_behind, fails_in_front, some_text_fails, some_text_passes}
use Rattle.gl_text.proofs.Lists.{AllZip-append}

-- no text is a list and is refused
pub list_decided : IsDecided SeriesListText
list_decided text cause (series, is) (error, told, why) =
    let e : ◌≡◌ {A = Option Cause} None (Some cause) = sym (ap list_cause (list_told text series error is told)) ∙ why in cc

-- no text is a sheet and is refused
pub sheet_decided : IsDecided SheetText
sheet_decided text cause (day, is) (error, told, why) =
    let e : ◌≡◌ {A = Option Cause} None (Some cause) = sym (ap sheet_cause (sheet_told text day error is told)) ∙ why in cc

-- so no test passes and fails
days_decided : (days : List DaySeen) → AreDecided (days_tests days)
days_decided [] = tt
days_decided (day ∷ days) = all_decided (day_tests day) (days_tests days) (tt, (tt, (sheet_decided, tt))) (days_decided days)

pub series_decided : (words : SeriesWords) (seen : SeriesSeen) → AreDecided (series_tests words seen)
series_decided words seen = (tt, (tt, (list_decided, days_decided seen.days)))

-- the list isn't among the names
pub list_missing : (folder : Option FilesByName) (names : List (List ℕ)) (file : List ℕ) (halt : Halt) → ListsNames folder names → IsNeeded names file (Err halt)
    → HasTested {X = Series} (λ seen. IsSeenIn folder file seen) (tests_of SeriesListText file) IsListRead (Err halt)
list_missing folder names file (Refused refusal) lists (none, same) =
    (None, not_listed folder names file lists none, inl (ap (λ (r : Refusal). r.file) same, (refl, ap (λ (r : Refusal). r.cause) same)))
list_missing folder names file (Stopped stop) lists needed = tt

-- a list that was read has at most so many bytes
list_read : (file : List ℕ) (seen : Option (List ℕ)) (series : Series) → AllPass (text_tests SeriesListText most_bytes file seen) → IsSomeAnd seen (λ text. IsList text series)
    → IsListRead seen series
list_read file None series passes reads = absurd reads
list_read file (Some text) series passes reads = (passes.0, reads)

-- it is, and was read or refused
pub list_tested : (folder : Option FilesByName) (file : List ℕ) (result : Result Series Halt) → HasReadFile SeriesListText most_bytes folder file IsList result
    → HasTested (λ seen. IsSeenIn folder file seen) (tests_of SeriesListText file) IsListRead result
list_tested folder file (Ok series) (seen, is, passes, reads) = (seen, is, (some_text_passes SeriesListText most_bytes file seen passes, passes), list_read file seen series passes reads)
list_tested folder file (Err (Refused refusal)) (seen, is, fails) = (seen, is, inr (some_text_fails SeriesListText most_bytes file seen refusal fails, fails))
list_tested folder file (Err (Stopped stop)) read = tt

-- the sheet of a day isn't among the names
pub day_missing : (folder : Option FilesByName) (names : List (List ℕ)) (file : List ℕ) (halt : Halt) → ListsNames folder names → IsNeeded names file (Err halt)
    → HasTested {X = DaySheet} (IsDaySeen folder file) day_tests IsSheetRead (Err halt)
day_missing folder names file (Refused refusal) lists (none, same) =
    (record { file = file; sheet = None }, (refl, not_listed folder names file lists none), inl (ap (λ (r : Refusal). r.file) same, (refl, ap (λ (r : Refusal). r.cause) same)))
day_missing folder names file (Stopped stop) lists needed = tt

-- it is, and was read or refused
pub day_tested : (folder : Option FilesByName) (file : List ℕ) (result : Result DaySheet Halt) → HasReadFile SheetText most_bytes folder file IsSheetOf result
    → HasTested (IsDaySeen folder file) day_tests IsSheetRead result
day_tested folder file (Ok sheet) (seen, is, passes, reads) =
    (record { file = file; sheet = seen }, (refl, is), (some_text_passes SheetText most_bytes file seen passes, passes), reads)
day_tested folder file (Err (Refused refusal)) (seen, is, fails) =
    (record { file = file; sheet = seen }, (refl, is), inr (some_text_fails SheetText most_bytes file seen refusal fails, fails))
day_tested folder file (Err (Stopped stop)) read = tt

-- these days passed, and have these sheets
abbrev pub AreDaysTested : Option FilesByName → List (List ℕ) → List DaySheet → Type 0
AreDaysTested folder names sheets =
    (days : List DaySeen) × AllZip (IsDaySeen folder) names days × AllPass (days_tests days) × AllZip IsSheetRead days sheets

tests_append : (days more : List DaySeen) → days_tests (days ++ more) ≡ days_tests days ++ days_tests more
tests_append [] more = refl
tests_append (day ∷ days) more = λ i. tests_of SheetText day.file day.sheet ++ tests_append days more i

-- what is seen of any days
days_seen : (folder : Option FilesByName) (names : List (List ℕ)) → (days : List DaySeen) × AllZip (IsDaySeen folder) names days
days_seen folder [] = ([], tt)
days_seen folder (name ∷ names) =
    let first = seen_some folder name in
    let rest = days_seen folder names in
    (record { file = name; sheet = first.0 } ∷ rest.0, ((refl, first.1), rest.1))

next_name : (names : List (List ℕ)) (i : ℕ) (name : List ℕ) → i < length names → name ≡ get_or names i name → take (i + 1) names ≡ take i names ++ name ∷ []
next_name names i name below item = take_more names i name below ∙ ap (λ (n : List ℕ). take i names ++ n ∷ []) (sym item)

-- one day more passed
pub days_more : (folder : Option FilesByName) (names : List (List ℕ)) (i : ℕ) (name : List ℕ) (sheets : List DaySheet) (sheet : DaySheet) → i < length names → name ≡ get_or names i name
    → AreDaysTested folder (take i names) sheets → HasTested (IsDaySeen folder name) day_tests IsSheetRead (Ok sheet) → AreDaysTested folder (take (i + 1) names) (sheets ++ sheet ∷ [])
days_more folder names i name sheets sheet below item (days, are, passes, reads) (day, is, pass, read) = (
  days ++ day ∷ [],
  subst (λ (l : List (List ℕ)). AllZip (IsDaySeen folder) l (days ++ day ∷ [])) (sym (next_name names i name below item))
      (AllZip-append (IsDaySeen folder) (take i names) (name ∷ []) days (day ∷ []) are (is, tt)),
  subst AllPass (sym (tests_append days (day ∷ []))) (all_pass (days_tests days) (day_tests day ++ []) passes (all_pass (day_tests day) [] pass tt)),
  AllZip-append IsSheetRead days (day ∷ []) sheets (sheet ∷ []) reads (read, tt),
)

-- all days passed
pub days_passed : (folder : Option FilesByName) (names : List (List ℕ)) (i : ℕ) (sheets : Vec DaySheet Global) → length names ≤ i → AreDaysTested folder (take i names) sheets.items
    → HasTested (AllZip (IsDaySeen folder) names) days_tests (λ days read. AllZip IsSheetRead days read.items) (Ok sheets)
days_passed folder names i sheets past tested = subst (λ (l : List (List ℕ)). AreDaysTested folder l sheets.items) (take_all i names past) tested

-- a day was refused, and those before it passed
pub day_refused : (folder : Option FilesByName) (names : List (List ℕ)) (i : ℕ) (name : List ℕ) (sheets : List DaySheet) (halt : Halt) → i < length names → name ≡ get_or names i name
    → AreDaysTested folder (take i names) sheets → HasTested {X = DaySheet} (IsDaySeen folder name) day_tests IsSheetRead (Err halt)
    → HasTested {X = Vec DaySheet Global} (AllZip (IsDaySeen folder) names) days_tests (λ days read. AllZip IsSheetRead days read.items) (Err halt)
day_refused folder names i name sheets (Refused refusal) below item (days, are, passes, reads) (day, is, fails) =
    let rest = days_seen folder (drop (i + 1) names) in
    let upto = subst (λ (l : List (List ℕ)). AllZip (IsDaySeen folder) l (days ++ day ∷ [])) (sym (next_name names i name below item))
    (AllZip-append (IsDaySeen folder) (take i names) (name ∷ []) days (day ∷ []) are (is, tt)) in
    let seen = (days ++ day ∷ []) ++ rest.0 in
    let front = fails_behind (days_tests days) (day_tests day ++ []) refusal passes (fails_in_front (day_tests day) [] refusal fails) in (
      seen,
      subst (λ (l : List (List ℕ)). AllZip (IsDaySeen folder) l seen) (take-append-drop (i + 1) names)
          (AllZip-append (IsDaySeen folder) (take (i + 1) names) (drop (i + 1) names) (days ++ day ∷ []) rest.0 upto rest.1),
      subst (λ (tests : List FileTest). FirstFails tests refusal) (sym (tests_append (days ++ day ∷ []) rest.0))
          (fails_in_front (days_tests (days ++ day ∷ [])) (days_tests rest.0) refusal
          (subst (λ (tests : List FileTest). FirstFails tests refusal) (sym (tests_append days (day ∷ []))) front)),
    )
day_refused folder names i name sheets (Stopped stop) below item tested refused = tt

-- the list was refused: nothing is seen of days
no_days : (file : List ℕ) (seen : Option (List ℕ)) (refusal : Refusal) → FirstFails (tests_of SeriesListText file seen) refusal → (series : Series) → IsListRead seen series → ⊥
no_days file None refusal fails series read = absurd read
no_days file (Some text) refusal (inl fails) series read = absurd (cc)
no_days file (Some text) refusal (inr (listed, inl fails)) series read = omega (arith, read.0, fails.1.0)
no_days file (Some text) refusal (inr (listed, inr (small, inl fails))) series read = absurd (list_decided text refusal.cause (series, read.1) fails.1)
no_days file (Some text) refusal (inr (listed, inr (small, inr (reads, none)))) series read = absurd none

pub series_list_refused : (folder : Option FilesByName) (words : SeriesWords) (halt : Halt)
    → HasTested {X = Series} (λ seen. IsSeenIn folder words.list seen) (tests_of SeriesListText words.list) IsListRead (Err halt)
    → HasTested (IsSeriesSeen words folder) (series_tests words) AreSeriesRead (Err halt)
series_list_refused folder words (Refused refusal) (seen, is, fails) =
    (record { list = seen; days = [] }, (is, inr (no_days words.list seen refusal fails, refl)), fails_in_front (tests_of SeriesListText words.list seen) [] refusal fails)
series_list_refused folder words (Stopped stop) tested = tt

-- the list passed, and a day was refused
pub series_day_refused : (folder : Option FilesByName) (words : SeriesWords) (series : Series) (halt : Halt)
    → HasTested (λ seen. IsSeenIn folder words.list seen) (tests_of SeriesListText words.list) IsListRead (Ok series)
    → HasTested {X = Vec DaySheet Global} (AllZip (IsDaySeen folder) series.days) days_tests (λ days read. AllZip IsSheetRead days read.items) (Err halt)
    → HasTested (IsSeriesSeen words folder) (series_tests words) AreSeriesRead (Err halt)
series_day_refused folder words series (Refused refusal) (seen, is, passes, read) (days, are, fails) =
    (record { list = seen; days = days }, (is, inl (series, read, are)), fails_behind (tests_of SeriesListText words.list seen) (days_tests days) refusal passes fails)
series_day_refused folder words series (Stopped stop) tested refused = tt

-- all passed
pub series_read : (folder : Option FilesByName) (words : SeriesWords) (series : Series) (sheets : Vec DaySheet Global)
    → HasTested (λ seen. IsSeenIn folder words.list seen) (tests_of SeriesListText words.list) IsListRead (Ok series)
    → HasTested (AllZip (IsDaySeen folder) series.days) days_tests (λ days (read : Vec DaySheet Global). AllZip IsSheetRead days read.items) (Ok sheets)
    → HasTested (IsSeriesSeen words folder) (series_tests words) AreSeriesRead (Ok (series, sheets))
series_read folder words series sheets (seen, is, passes, read) (days, are, pass, reads) =
    (record { list = seen; days = days }, (is, inl (series, read, are)), all_pass (tests_of SeriesListText words.list seen) (days_tests days) passes pass, (read, reads))

-- what was read fits what the totals ask for
pub list_fits : (seen : Option (List ℕ)) (series : Series) → IsListRead seen series → IsSeries series
list_fits None series read = absurd read
list_fits (Some text) series read = subst IsSeries (sym read.1.says) read.1.reads.fit

sheet_fits : (seen : Option (List ℕ)) (sheet : DaySheet) → IsSomeAnd seen (λ text. IsSheetOf text sheet) → IsDay sheet.rows
sheet_fits None sheet read = absurd read
sheet_fits (Some text) sheet read = read.reads.fit

sheets_fit : (days : List DaySeen) (sheets : List DaySheet) → AllZip IsSheetRead days sheets → AllByRecursion (λ sheet. IsDay sheet.rows) sheets
sheets_fit [] [] read = tt
sheets_fit [] (sheet ∷ sheets) read = absurd read
sheets_fit (day ∷ days) [] read = absurd read
sheets_fit (day ∷ days) (sheet ∷ sheets) read = (sheet_fits day.sheet sheet read.0, sheets_fit days sheets read.1)

pub days_fit : (folder : Option FilesByName) (series : Series) (days : List DaySeen) (sheets : List DaySheet) → IsSeries series → AllZip (IsDaySeen folder) series.days days
    → AllZip IsSheetRead days sheets → AreDays sheets
days_fit folder series days sheets is are reads = record {
  few = omega (arith, is.few_days, AllZip-long (IsDaySeen folder) series.days days are, AllZip-long IsSheetRead days sheets reads);
  each = All-from_recursion (λ (sheet : DaySheet). IsDay sheet.rows) sheets (sheets_fit days sheets reads);
}

pub series_fit : (folder : Option FilesByName) (words : SeriesWords) (series : Series) (sheets : Vec DaySheet Global)
    → HasTested (λ seen. IsSeenIn folder words.list seen) (tests_of SeriesListText words.list) IsListRead (Ok series)
    → HasTested (AllZip (IsDaySeen folder) series.days) days_tests (λ days (read : Vec DaySheet Global). AllZip IsSheetRead days read.items) (Ok sheets)
    → IsSeries series × AreDays sheets.items
series_fit folder words series sheets (seen, is, passes, read) (days, are, pass, reads) =
    let fits = list_fits seen series read in
    (fits, days_fit folder series days sheets.items fits are reads)
