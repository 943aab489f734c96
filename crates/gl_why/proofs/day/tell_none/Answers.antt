use Rattle.gl_why.specs.Days.{no_task}
use Rattle.gl_why.proofs.day.tell_none.Goals as goal

pub returns : goal.returns
returns c = λ folder names choice. no_task c.args.error.now c.requires.known c.requires.refused c.in_ok-lines.ensures
