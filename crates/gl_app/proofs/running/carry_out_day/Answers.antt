use Rattle.gl_words.specs.DayWords.{day_command_of}
use Rattle.gl_words.specs.Words.{command_of}
use Rattle.gl_app.proofs.Rights.{day_is_run}
use Rattle.gl_app.proofs.running.carry_out_day.Goals as goal

pub returns : goal.returns
returns g c =
    let words = c.args.words.now in
    day_is_run (day_command_of words) (command_of words) _ _ c.run_day.result (g.D.Desk.told c.args.desk.now) (g.D.Desk.told c.run_day.new.desk) c.requires c.run_day.ensures
