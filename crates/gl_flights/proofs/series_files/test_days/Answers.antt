use Rattle.std.proofs.Common.{Err, Ok, Option, subst}
use Rattle.std.proofs.lemmas.Result.{err_from_is_err_and}
use Rattle.gl_desk.specs.Desk.{FilesByName}
use Rattle.gl_series.specs.declared.day.DaySheet.{DaySheet}
use Rattle.gl_answer.specs.FileTests.{HasTested}
use Rattle.gl_flights.specs.SeriesFiles.{IsDaySeen, IsSheetRead, day_tests}
use Rattle.gl_answer.proofs.ReadsTwice.{reads_twice}
use Rattle.gl_flights.proofs.SeriesTests.{day_refused, days_more, days_passed}
use Rattle.gl_flights.proofs.series_files.test_days.Goals as goal

pub returns-in_err-sheet-clause-tested : goal.returns-in_err-sheet-clause-tested
returns-in_err-sheet-clause-tested g c =
    let p = err_from_is_err_and c.from_residual.result c.from_residual.ensures.1 in
    let file = c.file-item.result in
    let refused = subst (λ (f : Option FilesByName). HasTested {X = DaySheet} (IsDaySeen f file) day_tests IsSheetRead (Err c.in_err-sheet.field-0.0)) c.loop-file.invariant.reads.folder
    c.in_err-sheet.ensures.tested in
    rw (p.1, p.2) (day_refused (g.D.Desk.told c.args.desk.now).folder c.args.files.now c.loop-file.file-index file c.loop-file.sheets.items c.in_err-sheet.field-0.0 c.loop-file-test.true
    c.file-item.is c.loop-file.invariant.tested refused)

pub loop-file-preserved : goal.loop-file-preserved
loop-file-preserved g c =
    let file = c.file-item.result in
    let read = subst (λ (f : Option FilesByName). HasTested (IsDaySeen f file) day_tests IsSheetRead (Ok c.in_ok-sheet.sheet)) c.loop-file.invariant.reads.folder c.in_ok-sheet.ensures.tested in
    record {
      reads = reads_twice (g.D.Desk.told c.args.desk.now) (g.D.Desk.told c.loop-file.desk) (g.D.Desk.told c.test_day.new.desk) c.loop-file.invariant.reads c.in_ok-sheet.ensures.reads;
      tested = rw c.in_ok-push.ensures.items (days_more (g.D.Desk.told c.args.desk.now).folder c.args.files.now c.loop-file.file-index file c.loop-file.sheets.items c.in_ok-sheet.sheet
          c.loop-file-test.true c.file-item.is c.loop-file.invariant.tested read);
    }

pub returns-clause-tested : goal.returns-clause-tested
returns-clause-tested g c =
    days_passed (g.D.Desk.told c.args.desk.now).folder c.args.files.now c.loop-file.file-index c.loop-file.sheets c.loop-file-test.false c.loop-file.invariant.tested
