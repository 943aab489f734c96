use Rattle.gl_app.specs.Run.{IsRun}
use Rattle.gl_day_app.proofs.Ended.{ended}
use Rattle.gl_app.proofs.program.carry_out_alone.Goals as goal

pub returns : goal.returns
returns g c = ended IsRun c.args.words.now c.run_alone.result c.of.result _ _ _ c.of.ensures c.run_alone.ensures.ran c.run_alone.ensures.untouched c.exit_code.ensures
