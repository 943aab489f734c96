use Rattle.gl_words.specs.DayNames.{names_seen}
use Rattle.gl_day_claims.proofs.Commanded.{check_right}
use Rattle.gl_day_app.proofs.running.answer_to_command.Goals as goal

pub returns-in-Score-clause-right : goal.returns-in-Score-clause-right
returns-in-Score-clause-right g c = rw c.in-Score.is c.score.ensures.right

pub returns-in-Score-clause-stopped : goal.returns-in-Score-clause-stopped
returns-in-Score-clause-stopped g c = rw c.in-Score.is c.score.ensures.stopped

pub returns-in-Check-clause-right : goal.returns-in-Check-clause-right
returns-in-Check-clause-right g c =
    rw c.in-Check.is (check_right (names_seen c.in-Check.day) (g.D.Desk.told c.args.desk.now) (g.D.Desk.told c.check.new.desk) c.check.result c.check.ensures.right c.check.ensures.reads)
