use Rattle.std.proofs.Common.{subst, List, Option, Ok}
use Rattle.std.proofs.lemmas.Result.{IfOk-weaker}
use Rattle.gl_desk.specs.Desk.{FilesByName}
use Rattle.gl_replay.specs.declared.schedule.Step.{Step}
use Rattle.gl_words.specs.ReplayWords.{replay_seen}
use Rattle.gl_answer.specs.FileTests.{HasTested}
use Rattle.gl_flights.specs.ReplayFiles.{AreReplayRead, IsReplaySeen, replay_tests}
use Rattle.gl_answer.specs.declared.status.Status.TheVariants.{Done}
use Rattle.gl_answer.specs.Answer.{saying}
use Rattle.gl_answer.proofs.Answered.{done_right, done_stopped, only_read}
use Rattle.gl_flights.specs.Replay.{IsReplay, IsReplayOf}
use Rattle.gl_flights.proofs.Replays.{replay_answered}
use Rattle.gl_flights.proofs.replay.replay_schedule.Goals as goal

pub returns-in-Ok-clause-right : goal.returns-in-Ok-clause-right
returns-in-Ok-clause-right g c =
    let words = replay_seen c.args.words in
    let folder = (g.D.Desk.told c.args.desk.now).folder in
    let recording = c.in-Ok.recording in
    let steps = c.in-Ok.steps in
    let tested = subst (λ (f : Option FilesByName). HasTested (IsReplaySeen words f) (replay_tests words) AreReplayRead (Ok (recording, steps))) c.in_ok-names.ensures.reads.folder
    c.in-Ok.ensures.tested in
    done_right (IsReplay folder words) c.replay_of_recording.result c.done.result c.done.ensures
    (IfOk-weaker c.replay_of_recording.result _ (λ text. IsReplay folder words (saying Done text.items))
    (λ text is. replay_answered folder words recording steps text.items tested (subst (λ (l : List Step). IsReplayOf recording words.workers l text.items) c.deref-in-Ok.ensures.value is))
    c.replay_of_recording.ensures)

pub returns-in-Ok-clause-reads : goal.returns-in-Ok-clause-reads
returns-in-Ok-clause-reads g c =
    only_read (g.D.Desk.told c.args.desk.now) (g.D.Desk.told c.names.new.self) (g.D.Desk.told c.test_replay_files.new.desk) c.done.result c.in_ok-names.ensures.reads c.in-Ok.ensures.reads
    (done_stopped c.replay_of_recording.result c.done.result c.done.ensures)
