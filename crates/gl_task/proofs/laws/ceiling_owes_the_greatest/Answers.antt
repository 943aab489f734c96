use Rattle.gl_task.proofs.Owed.{greatest_is_owed}
use Rattle.gl_task.proofs.laws.ceiling_owes_the_greatest.Goals as goal

pub returns : goal.returns
returns c = greatest_is_owed
