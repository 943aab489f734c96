use Rattle.std.proofs.lemmas.Result.{err_from_is_err_and}
use Rattle.std.proofs.Common.{◌∷◌}
use Rattle.gl_words.specs.NearWords.{near_seen}
use Rattle.gl_flights.specs.NearFiles.{AreNearRead, recording_tests}
use Rattle.gl_answer.specs.FileTests.{Unlisted}
use Rattle.gl_flights.proofs.NearTests.{flight_missing, near_tested, proof_listed}
use Rattle.gl_flights.proofs.near_files.test_near_files.Goals as goal
use Rattle.gl_desk.proofs.DeskLemmas.{HasFile-from_names}

pub returns-in_err-need_both-clause-tested : goal.returns-in_err-need_both-clause-tested
returns-in_err-need_both-clause-tested g c =
    let words = near_seen c.args.words in
    let p = err_from_is_err_and c.from_residual.result c.from_residual.ensures.1 in
    rw (p.1, p.2) (flight_missing (λ seen. Unlisted words.proof seen.proof ∷ recording_tests words seen) AreNearRead
    (g.D.Desk.told c.args.desk.now).folder c.args.names.now words c.in_err-need_both.field-0.0 c.requires c.in_err-need_both.ensures.needed)

pub returns-in_err-need_unlisted-clause-tested : goal.returns-in_err-need_unlisted-clause-tested
returns-in_err-need_unlisted-clause-tested g c =
    let words = near_seen c.args.words in
    let folder = (g.D.Desk.told c.args.desk.now).folder in
    let flight = HasFile-from_names folder c.args.names.now words.flight c.requires c.in_ok-need_both.ensures.needed.0 in
    let other = HasFile-from_names folder c.args.names.now words.other c.requires c.in_ok-need_both.ensures.needed.1 in
    let p = err_from_is_err_and c.from_residual-in_err-need_unlisted.result c.from_residual-in_err-need_unlisted.ensures.1 in
    rw (p.1, p.2) (proof_listed folder c.args.names.now words c.in_err-need_unlisted.field-0.0 c.requires flight other c.in_err-need_unlisted.ensures.unused)

pub returns-clause-tested : goal.returns-clause-tested
returns-clause-tested g c =
    near_tested (g.D.Desk.told c.args.desk.now).folder c.args.names.now (near_seen c.args.words) c.read_recordings.result c.requires c.in_ok-need_unlisted.ensures.unused c.read_recordings.ensures.read
