use Rattle.gl_demo.specs.Task.{task_text}
use Rattle.std.proofs.Common.{rules}
use Rattle.gl_demo.proofs.task.task_file.Goals as goal

pub returns : goal.returns
unfolding task_text
returns c = search rules
