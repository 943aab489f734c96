use Rattle.gl_flights.proofs.NearFile.{file_checked, file_refused}
use Rattle.gl_flights.proofs.near_file.end_check.Goals as goal

pub returns-in-Ok-clause-checked : goal.returns-in-Ok-clause-checked
returns-in-Ok-clause-checked c = λ folder pairing given all taken.
    file_checked folder c.args.file.now all.text pairing c.verdict.result all.seen all.lines_are.fits
    (c.verdict.ensures pairing given all.text taken (c.in-Ok.ensures folder c.args.file.now _ all.text given all.lines_are))

pub returns-in-Err-clause-checked : goal.returns-in-Err-clause-checked
returns-in-Err-clause-checked c = λ folder pairing given all taken.
    file_refused folder c.args.file.now all.text pairing c.in-Err.error c.near_proof_cause.result c.refusing_for.result all.seen all.lines_are.fits
    (c.in-Err.ensures folder c.args.file.now _ all.text given all.lines_are) c.near_proof_cause.ensures c.refusing_for.ensures
