use Rattle.gl_day_app.specs.DayRun.{IsDayRun}
use Rattle.gl_day_app.proofs.Ended.{ended}
use Rattle.gl_day_app.proofs.program.carry_out_day_words.Goals as goal

pub returns : goal.returns
returns g c = ended IsDayRun c.args.words.now c.run_racing.result c.of.result _ _ _ c.of.ensures c.run_racing.ensures.ran c.run_racing.ensures.untouched c.exit_code.ensures
