use Rattle.std.proofs.lemmas.Result.{err_from_is_err_and}
use Rattle.gl_words.specs.BadgeWords.{badge_seen}
use Rattle.gl_flights.proofs.BadgeTests.{check_flight_missing, flight_tested, proof_missing}
use Rattle.gl_flights.proofs.badge_files.test_badge_check_files.Goals as goal
use Rattle.gl_desk.proofs.DeskLemmas.{HasFile-from_names}

pub returns-in_err-need-clause-tested : goal.returns-in_err-need-clause-tested
returns-in_err-need-clause-tested g c =
    let p = err_from_is_err_and c.from_residual.result c.from_residual.ensures.1 in
    rw (p.1, p.2) (check_flight_missing (g.D.Desk.told c.args.desk.now).folder c.args.names.now (badge_seen c.args.words) c.in_err-need.field-0.0 c.requires c.in_err-need.ensures.needed)

pub returns-in_err-need-2-clause-tested : goal.returns-in_err-need-2-clause-tested
returns-in_err-need-2-clause-tested g c =
    let words = badge_seen c.args.words in
    let folder = (g.D.Desk.told c.args.desk.now).folder in
    let flight = HasFile-from_names folder c.args.names.now words.flight c.requires c.in_ok-need.ensures.needed in
    let p = err_from_is_err_and c.from_residual-in_err-need-2.result c.from_residual-in_err-need-2.ensures.1 in
    rw (p.1, p.2) (proof_missing folder c.args.names.now words c.in_err-need-2.field-0.0 c.requires flight c.in_err-need-2.ensures.needed)

pub returns-clause-tested : goal.returns-clause-tested
returns-clause-tested g c =
    let words = badge_seen c.args.words in
    let folder = (g.D.Desk.told c.args.desk.now).folder in
    let proof = HasFile-from_names folder c.args.names.now words.proof c.requires c.in_ok-need-2.ensures.needed in
    flight_tested folder words c.read_recording.result proof c.read_recording.ensures.read
