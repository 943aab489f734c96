use Rattle.std.specs.Prelude.{IsNone}
use Rattle.gl_words.specs.DayWords.{day_command_of}
use Rattle.gl_words.proofs.DayCommandNames.{day_command_names}
use Rattle.gl_answer.proofs.Runs.{delivered_run}
use Rattle.gl_day_app.specs.DayRun.{day_promise_of}
use Rattle.gl_day_app.proofs.DayRights.{day_runs}
use Rattle.gl_day_app.proofs.running.carry_out.Goals as goal

pub returns : goal.returns
returns g c =
    let x = g.D.Desk.told c.args.desk.now in
    let command = day_command_of c.args.words.now in
    delivered_run (day_promise_of x.folder _ command) (IsNone command) _ _ c.answer_to_words-answered.result c.deliver.result x (g.D.Desk.told c.answer_to_words-answered.new.desk)
    (g.D.Desk.told c.deliver.new.desk) (day_runs x.folder _ command (day_command_names c.args.words.now)) c.answer_to_words-answered.ensures.right c.answer_to_words-answered.ensures.stopped
    c.deliver.ensures c.answer_to_words-answered.ensures.kept
