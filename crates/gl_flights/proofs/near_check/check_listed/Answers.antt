use Rattle.std.proofs.Common.{subst, Option}
use Rattle.std.proofs.lemmas.Result.{err_from_is_err_and}
use Rattle.gl_desk.specs.Desk.{FilesByName}
use Rattle.gl_near.specs.Pairing.{Pairing}
use Rattle.gl_near.specs.Pairs.{pairing_of}
use Rattle.gl_near.specs.Verdict.{IsTextChecked}
use Rattle.gl_words.specs.NearWords.{near_seen}
use Rattle.gl_answer.specs.ReadFiles.{HasReadFile}
use Rattle.gl_answer.specs.FileTests.{most_proof_bytes}
use Rattle.gl_flights.specs.NearFiles.{NearProofText}
use Rattle.gl_flights.proofs.NearTests.{near_check_refused, near_checked}
use Rattle.gl_flights.proofs.near_check.check_listed.Goals as goal

pub returns-in_err-flights-clause-tested : goal.returns-in_err-flights-clause-tested
returns-in_err-flights-clause-tested g c =
    let p = err_from_is_err_and c.from_residual.result c.from_residual.ensures.1 in
    rw (p.1, p.2) (near_check_refused (g.D.Desk.told c.args.desk.now).folder (near_seen c.args.words) c.in_err-flights.field-0.0 c.requires.proof c.in_err-flights.ensures.read)

pub returns-clause-tested : goal.returns-clause-tested
returns-clause-tested g c =
    let words = near_seen c.args.words in
    let folder = (g.D.Desk.told c.args.desk.now).folder in
    let result = c.check_near_file.result in
    let checked = subst (λ (p : Pairing). HasReadFile NearProofText most_proof_bytes folder words.proof (IsTextChecked p) result) c.in_ok-pairs.ensures
    (subst (λ (f : Option FilesByName). HasReadFile NearProofText most_proof_bytes f words.proof (IsTextChecked (pairing_of c.in_ok-pairs.pairs)) result)
    c.in_ok-flights.ensures.reads.folder c.check_near_file.ensures.checked) in
    near_checked folder words c.in_ok-flights.flights result c.in_ok-flights.ensures.read checked
