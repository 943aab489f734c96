use Rattle.std.proofs.lemmas.Result.{err_from_is_err_and}
use Rattle.gl_flights.proofs.FlightTests.{file_missing, file_tested}
use Rattle.gl_flights.proofs.flight_file.test_flight.Goals as goal

pub returns-in_err-need-clause-tested : goal.returns-in_err-need-clause-tested
returns-in_err-need-clause-tested g c =
    let p = err_from_is_err_and c.from_residual.result c.from_residual.ensures.1 in
    rw (p.1, p.2) (file_missing (g.D.Desk.told c.args.desk.now).folder c.args.names.now c.args.file.now c.in_err-need.field-0.0 c.requires c.in_err-need.ensures.needed)

pub returns-clause-tested : goal.returns-clause-tested
returns-clause-tested g c =
    file_tested (g.D.Desk.told c.args.desk.now).folder c.args.file.now c.read_recording.result c.read_recording.ensures.read
