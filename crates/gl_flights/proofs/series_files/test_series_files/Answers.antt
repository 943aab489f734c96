use Rattle.std.proofs.Common.{Err, List, Ok, Option, Vec, subst, ℕ}
use Rattle.std.specs.List.{AllZip}
use Rattle.std.specs.declared.alloc.Global.{Global}
use Rattle.std.proofs.lemmas.Result.{err_from_is_err_and}
use Rattle.gl_desk.specs.Desk.{FilesByName}
use Rattle.gl_series.specs.declared.day.DaySheet.{DaySheet}
use Rattle.gl_words.specs.SeriesWords.{series_seen}
use Rattle.gl_answer.specs.FileTests.{HasTested}
use Rattle.gl_flights.specs.SeriesFiles.{IsDaySeen, IsSheetRead, days_tests}
use Rattle.gl_flights.proofs.SeriesTests.{series_day_refused, series_fit, series_list_refused, series_read}
use Rattle.gl_flights.proofs.series_files.test_series_files.Goals as goal

pub returns-in_err-series-clause-tested : goal.returns-in_err-series-clause-tested
returns-in_err-series-clause-tested g c =
    let p = err_from_is_err_and c.from_residual.result c.from_residual.ensures.1 in
    rw (p.1, p.2) (series_list_refused (g.D.Desk.told c.args.desk.now).folder (series_seen c.args.words) c.in_err-series.field-0.0 c.in_err-series.ensures.tested)

pub returns-in_err-sheets-clause-tested : goal.returns-in_err-sheets-clause-tested
returns-in_err-sheets-clause-tested g c =
    let p = err_from_is_err_and c.from_residual-in_err-sheets.result c.from_residual-in_err-sheets.ensures.1 in
    let halt = c.in_err-sheets.field-0.0 in
    let folder = (g.D.Desk.told c.args.desk.now).folder in
    let there = subst (λ (f : Option FilesByName). HasTested {X = Vec DaySheet Global} (AllZip (IsDaySeen f) c.as_slice.result.now) days_tests
    (λ days read. AllZip IsSheetRead days read.items) (Err halt)) c.in_ok-series.ensures.reads.folder c.in_err-sheets.ensures.tested in
    let refused = subst (λ (l : List (List ℕ)). HasTested {X = Vec DaySheet Global} (AllZip (IsDaySeen folder) l) days_tests (λ days read. AllZip IsSheetRead days read.items) (Err halt))
    c.as_slice.ensures there in
    rw (p.1, p.2) (series_day_refused folder (series_seen c.args.words) c.in_ok-series.series halt c.in_ok-series.ensures.tested refused)

pub returns-clause-tested : goal.returns-clause-tested
returns-clause-tested g c =
    let folder = (g.D.Desk.told c.args.desk.now).folder in
    let there = subst (λ (f : Option FilesByName). HasTested {X = Vec DaySheet Global} (AllZip (IsDaySeen f) c.as_slice.result.now) days_tests
    (λ days read. AllZip IsSheetRead days read.items) (Ok c.in_ok-sheets.sheets)) c.in_ok-series.ensures.reads.folder c.in_ok-sheets.ensures.tested in
    let reads = subst (λ (l : List (List ℕ)). HasTested {X = Vec DaySheet Global} (AllZip (IsDaySeen folder) l) days_tests (λ days read. AllZip IsSheetRead days read.items)
    (Ok c.in_ok-sheets.sheets)) c.as_slice.ensures there in
    series_read folder (series_seen c.args.words) c.in_ok-series.series c.in_ok-sheets.sheets c.in_ok-series.ensures.tested reads

pub returns-clause-fit : goal.returns-clause-fit
returns-clause-fit g c =
    let folder = (g.D.Desk.told c.args.desk.now).folder in
    let there = subst (λ (f : Option FilesByName). HasTested {X = Vec DaySheet Global} (AllZip (IsDaySeen f) c.as_slice.result.now) days_tests
    (λ days read. AllZip IsSheetRead days read.items) (Ok c.in_ok-sheets.sheets)) c.in_ok-series.ensures.reads.folder c.in_ok-sheets.ensures.tested in
    let reads = subst (λ (l : List (List ℕ)). HasTested {X = Vec DaySheet Global} (AllZip (IsDaySeen folder) l) days_tests (λ days read. AllZip IsSheetRead days read.items)
    (Ok c.in_ok-sheets.sheets)) c.as_slice.ensures there in
    series_fit folder (series_seen c.args.words) c.in_ok-series.series c.in_ok-sheets.sheets c.in_ok-series.ensures.tested reads
