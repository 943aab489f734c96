use Rattle.std.proofs.Common.{subst, Option, Some, Ok, Err}
use Rattle.std.proofs.lemmas.Result.{err_from_is_err_and}
use Rattle.gl_desk.specs.Desk.{FilesByName}
use Rattle.gl_igc.specs.declared.recording.Recording.{Recording}
use Rattle.gl_desk.specs.Limits.{most_bytes}
use Rattle.gl_words.specs.NearWords.{near_seen}
use Rattle.gl_answer.specs.ReadFiles.{HasReadFile}
use Rattle.gl_answer.specs.FileTests.{IsRecordingOf, RecordingText}
use Rattle.gl_flights.proofs.NearTests.{both_flights, first_refused, other_refused}
use Rattle.gl_flights.proofs.near_files.read_recordings.Goals as goal

pub returns-in_err-flight-clause-read : goal.returns-in_err-flight-clause-read
returns-in_err-flight-clause-read g c =
    let p = err_from_is_err_and c.from_residual.result c.from_residual.ensures.1 in
    rw (p.1, p.2) (first_refused (g.D.Desk.told c.args.desk.now).folder (near_seen c.args.words) c.in_err-flight.field-0.0 c.requires.other c.in_err-flight.ensures.read)

pub returns-in_err-other-clause-read : goal.returns-in_err-other-clause-read
returns-in_err-other-clause-read g c =
    let day = Some c.in_ok-flight.flight.date in
    let other = subst (λ (f : Option FilesByName). HasReadFile {X = Recording} (RecordingText day) most_bytes f c.args.words.other.now (IsRecordingOf day) (Err c.in_err-other.field-0.0))
    c.in_ok-flight.ensures.reads.folder c.in_err-other.ensures.read in
    let p = err_from_is_err_and c.from_residual-in_err-other.result c.from_residual-in_err-other.ensures.1 in
    rw (p.1, p.2) (other_refused (g.D.Desk.told c.args.desk.now).folder (near_seen c.args.words) c.in_ok-flight.flight c.in_err-other.field-0.0 c.in_ok-flight.ensures.read other)

pub returns-clause-read : goal.returns-clause-read
returns-clause-read g c =
    let day = Some c.in_ok-flight.flight.date in
    let other = subst (λ (f : Option FilesByName). HasReadFile (RecordingText day) most_bytes f c.args.words.other.now (IsRecordingOf day) (Ok c.in_ok-other.other)) c.in_ok-flight.ensures.reads.folder
    c.in_ok-other.ensures.read in
    both_flights (g.D.Desk.told c.args.desk.now).folder (near_seen c.args.words) c.in_ok-flight.flight c.in_ok-other.other c.in_ok-flight.ensures.read other
