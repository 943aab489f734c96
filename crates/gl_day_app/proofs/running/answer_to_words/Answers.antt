use Rattle.std.proofs.Common.{sym}
use Rattle.gl_day_app.proofs.running.answer_to_words.Goals as goal

pub returns-in-Some-clause-right : goal.returns-in-Some-clause-right
returns-in-Some-clause-right g c = rw (sym c.in-Some.ensures) c.answer_to_command.ensures.right
