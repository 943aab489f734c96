use Rattle.std.proofs.Common.{subst, Option, Ok, Err, Vec}
use Rattle.std.specs.declared.alloc.Global.{Global}
use Rattle.std.proofs.lemmas.Result.{err_from_is_err_and}
use Rattle.gl_desk.specs.Desk.{FilesByName}
use Rattle.gl_desk.specs.Limits.{most_bytes}
use Rattle.gl_replay.specs.declared.schedule.Step.{Step}
use Rattle.gl_words.specs.ReplayWords.{replay_seen}
use Rattle.gl_answer.specs.ReadFiles.{HasReadFile}
use Rattle.gl_flights.specs.ReplayFiles.{AreStepsOf, ScheduleText}
use Rattle.gl_flights.proofs.ReplayTests.{both_read, flight_refused, steps_refused}
use Rattle.gl_flights.proofs.replay_files.read_replay_files.Goals as goal

pub returns-in_err-recording-clause-tested : goal.returns-in_err-recording-clause-tested
returns-in_err-recording-clause-tested g c =
    let p = err_from_is_err_and c.from_residual.result c.from_residual.ensures.1 in
    rw (p.1, p.2) (flight_refused (g.D.Desk.told c.args.desk.now).folder (replay_seen c.args.words) c.in_err-recording.field-0.0 c.requires.schedule c.in_err-recording.ensures.read)

pub returns-in_err-steps-clause-tested : goal.returns-in_err-steps-clause-tested
returns-in_err-steps-clause-tested g c =
    let lines = subst (λ (f : Option FilesByName). HasReadFile {X = Vec Step Global} ScheduleText most_bytes f c.args.words.schedule.now AreStepsOf (Err c.in_err-steps.field-0.0))
    c.in_ok-recording.ensures.reads.folder c.in_err-steps.ensures.read in
    let p = err_from_is_err_and c.from_residual-in_err-steps.result c.from_residual-in_err-steps.ensures.1 in
    rw (p.1, p.2) (steps_refused (g.D.Desk.told c.args.desk.now).folder (replay_seen c.args.words) c.in_ok-recording.recording c.in_err-steps.field-0.0 c.in_ok-recording.ensures.read lines)

pub returns-clause-tested : goal.returns-clause-tested
returns-clause-tested g c =
    let lines = subst (λ (f : Option FilesByName). HasReadFile ScheduleText most_bytes f c.args.words.schedule.now AreStepsOf (Ok c.in_ok-steps.steps)) c.in_ok-recording.ensures.reads.folder
    c.in_ok-steps.ensures.read in
    both_read (g.D.Desk.told c.args.desk.now).folder (replay_seen c.args.words) c.in_ok-recording.recording c.in_ok-steps.steps c.in_ok-recording.ensures.read lines
