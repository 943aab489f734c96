use Rattle.std.proofs.Common.{◌∷◌, ◌++◌}
use Rattle.std.proofs.lemmas.Result.{err_from_is_err_and}
use Rattle.gl_words.specs.NearWords.{near_seen}
use Rattle.gl_answer.specs.FileTests.{Listed, most_proof_bytes, text_tests}
use Rattle.gl_flights.specs.Near.{IsNearVerdict}
use Rattle.gl_flights.specs.NearFiles.{NearProofText, recording_tests}
use Rattle.gl_flights.proofs.NearTests.{flight_missing, proof_missing}
use Rattle.gl_flights.proofs.near_check.check_files.Goals as goal
use Rattle.gl_desk.proofs.DeskLemmas.{HasFile-from_names}

pub returns-in_err-need_both-clause-tested : goal.returns-in_err-need_both-clause-tested
returns-in_err-need_both-clause-tested g c =
    let words = near_seen c.args.words in
    let p = err_from_is_err_and c.from_residual.result c.from_residual.ensures.1 in
    rw (p.1, p.2) (flight_missing (λ seen. Listed words.proof seen.proof ∷ (recording_tests words seen ++ text_tests NearProofText most_proof_bytes words.proof seen.proof)) (IsNearVerdict words)
    (g.D.Desk.told c.args.desk.now).folder c.args.names.now words c.in_err-need_both.field-0.0 c.requires c.in_err-need_both.ensures.needed)

pub returns-in_err-need-clause-tested : goal.returns-in_err-need-clause-tested
returns-in_err-need-clause-tested g c =
    let words = near_seen c.args.words in
    let folder = (g.D.Desk.told c.args.desk.now).folder in
    let flight = HasFile-from_names folder c.args.names.now words.flight c.requires c.in_ok-need_both.ensures.needed.0 in
    let other = HasFile-from_names folder c.args.names.now words.other c.requires c.in_ok-need_both.ensures.needed.1 in
    let p = err_from_is_err_and c.from_residual-in_err-need.result c.from_residual-in_err-need.ensures.1 in
    rw (p.1, p.2) (proof_missing folder c.args.names.now words c.in_err-need.field-0.0 c.requires flight other c.in_err-need.ensures.needed)
