use Rattle.std.specs.Prelude.{IsNone}
use Rattle.gl_words.specs.DayWords.{day_command_of}
use Rattle.gl_words.specs.Words.{command_of}
use Rattle.gl_words.proofs.CommandNames.{command_names}
use Rattle.gl_answer.proofs.Runs.{delivered_run}
use Rattle.gl_app.specs.Run.{either_promise}
use Rattle.gl_app.proofs.Rights.{no_day_runs, other_answered, other_stopped}
use Rattle.gl_app.proofs.running.carry_out.Goals as goal

pub returns : goal.returns
returns g c =
    let x = g.D.Desk.told c.args.desk.now in
    let y = g.D.Desk.told c.answer_to_words-answered.new.desk in
    let day = day_command_of c.args.words.now in
    let command = command_of c.args.words.now in
    delivered_run (either_promise x.folder _ day command) (IsNone day × IsNone command) _ _ c.answer_to_words-answered.result c.deliver.result x y (g.D.Desk.told c.deliver.new.desk)
    (no_day_runs x.folder _ day command c.requires.no_day (command_names c.args.words.now)) (other_answered day command _ c.answer_to_words-answered.result x y c.requires.no_day c.answer_to_words-answered.ensures.right)
    (other_stopped day command _ c.answer_to_words-answered.result x y c.requires.no_day c.answer_to_words-answered.ensures.stopped) c.deliver.ensures c.answer_to_words-answered.ensures.kept
