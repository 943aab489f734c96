use Rattle.std.proofs.Common.{◌∙◌, Option, Err, Ok, subst}
use Rattle.std.proofs.lemmas.Result.{err_from_is_err_and}
use Rattle.gl_answer.specs.FileTests.{ProofText, most_proof_bytes}
use Rattle.gl_answer.specs.ReadFiles.{HasReadFile}
use Rattle.gl_answer.proofs.ReadsTwice.{reads_twice}
use Rattle.gl_badge.specs.Proved.{IsBadgeChecked}
use Rattle.gl_desk.proofs.Reading.{OnlyReads-then}
use Rattle.gl_desk.specs.Desk.{FilesByName}
use Rattle.gl_words.specs.BadgeWords.{badge_seen}
use Rattle.gl_day.specs.FileChecked.{SaysOfText}
use Rattle.gl_flights.specs.BadgeFiles.{HasTestedFlight}
use Rattle.gl_app.proofs.Badges.{badge_proof_said, flight_said}
use Rattle.gl_app.proofs.badge_check.check_badge_proof.Goals as goal

pub returns-in_err-recording-clause-checked : goal.returns-in_err-recording-clause-checked
returns-in_err-recording-clause-checked g c =
    let folder = (g.D.Desk.told c.args.desk.now).folder in
    let words = badge_seen c.args.words in
    let halt = c.in_err-recording.field-0.0 in
    let tested = subst (λ (f : Option FilesByName). HasTestedFlight f words (Err halt)) c.in_ok-names.ensures.reads.folder c.in_err-recording.ensures.tested in
    let p = err_from_is_err_and c.from_residual-in_err-recording.result c.from_residual-in_err-recording.ensures.1 in
    rw (p.1, p.2) (flight_said folder words halt tested)

pub check_badge_file-requires : goal.check_badge_file-requires
check_badge_file-requires g c = rw c.in_ok-recording.ensures.reads.folder c.in_ok-recording.ensures.listed

pub returns-clause-checked : goal.returns-clause-checked
returns-clause-checked g c =
    let folder = (g.D.Desk.told c.args.desk.now).folder in
    let words = badge_seen c.args.words in
    let recording = c.in_ok-recording.recording in
    let tested = subst (λ (f : Option FilesByName). HasTestedFlight f words (Ok recording)) c.in_ok-names.ensures.reads.folder c.in_ok-recording.ensures.tested in
    let said = subst (λ (f : Option FilesByName). HasReadFile ProofText most_proof_bytes f words.proof (SaysOfText (IsBadgeChecked recording)) c.check_badge_file.result)
    (c.in_ok-recording.ensures.reads.folder ∙ c.in_ok-names.ensures.reads.folder) c.check_badge_file.ensures.checked in
    badge_proof_said folder words recording c.check_badge_file.result tested said

pub returns-clause-reads : goal.returns-clause-reads
returns-clause-reads g c =
    OnlyReads-then _ _ _ _ (reads_twice _ _ _ c.in_ok-names.ensures.reads c.in_ok-recording.ensures.reads) c.check_badge_file.ensures.reads
