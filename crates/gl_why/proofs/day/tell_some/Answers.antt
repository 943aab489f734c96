use Rattle.std.proofs.lemmas.Result.{IfOk-weaker}
use Rattle.gl_why.specs.Days.{some_task}
use Rattle.gl_why.proofs.day.tell_some.Goals as goal

pub returns-clause-is : goal.returns-clause-is
returns-clause-is g c = IfOk-weaker c.tell_task.result _ _ (λ facts is. some_task c.args.task.now c.requires.read is) c.tell_task.ensures.is
