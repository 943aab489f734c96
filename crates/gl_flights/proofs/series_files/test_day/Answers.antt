use Rattle.std.proofs.lemmas.Result.{err_from_is_err_and}
use Rattle.gl_flights.proofs.SeriesTests.{day_missing, day_tested}
use Rattle.gl_flights.proofs.series_files.test_day.Goals as goal

pub returns-in_err-need-clause-tested : goal.returns-in_err-need-clause-tested
returns-in_err-need-clause-tested g c =
    let p = err_from_is_err_and c.from_residual.result c.from_residual.ensures.1 in
    rw (p.1, p.2) (day_missing (g.D.Desk.told c.args.desk.now).folder c.args.names.now c.args.file.now c.in_err-need.field-0.0 c.requires c.in_err-need.ensures.needed)

pub returns-clause-tested : goal.returns-clause-tested
returns-clause-tested g c =
    day_tested (g.D.Desk.told c.args.desk.now).folder c.args.file.now c.read_sheet_file.result c.read_sheet_file.ensures.read
