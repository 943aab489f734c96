use Rattle.std.proofs.Common.{subst, Option, Ok}
use Rattle.std.proofs.lemmas.Result.{IfOk-weaker}
use Rattle.gl_desk.specs.Desk.{FilesByName, IsSeenIn}
use Rattle.gl_answer.specs.FileTests.{HasTested}
use Rattle.gl_flights.specs.FlightFile.{IsFlightRead, flight_tests}
use Rattle.gl_answer.specs.declared.status.Status.TheVariants.{Done}
use Rattle.gl_answer.specs.Answer.{saying}
use Rattle.gl_answer.proofs.Answered.{done_right, done_stopped, only_read}
use Rattle.gl_flights.specs.OfFile.{IsOfFile}
use Rattle.gl_flights.specs.Question.{IsTextOf}
use Rattle.gl_flights.proofs.OfFileLaws.{flight_answered}
use Rattle.gl_flights.proofs.of_file.answer_of_file.Goals as goal

pub returns-in-Ok-clause-right : goal.returns-in-Ok-clause-right
returns-in-Ok-clause-right g c =
    let file = c.args.file.now in
    let folder = (g.D.Desk.told c.args.desk.now).folder in
    let is_text = IsTextOf c.args.question in
    let tested = subst (λ (f : Option FilesByName). HasTested (λ seen. IsSeenIn f file seen) (flight_tests file) IsFlightRead (Ok c.in-Ok.recording)) c.in_ok-names.ensures.reads.folder
    c.in-Ok.ensures.tested in
    done_right (IsOfFile is_text folder file) c.text_of_recording.result c.done.result c.done.ensures
    (IfOk-weaker c.text_of_recording.result _ (λ text. IsOfFile is_text folder file (saying Done text.items))
    (λ text is. flight_answered is_text folder file c.in-Ok.recording text.items tested is) c.text_of_recording.ensures)

pub returns-in-Ok-clause-reads : goal.returns-in-Ok-clause-reads
returns-in-Ok-clause-reads g c =
    only_read (g.D.Desk.told c.args.desk.now) (g.D.Desk.told c.names.new.self) (g.D.Desk.told c.test_flight.new.desk) c.done.result c.in_ok-names.ensures.reads c.in-Ok.ensures.reads
    (done_stopped c.text_of_recording.result c.done.result c.done.ensures)
