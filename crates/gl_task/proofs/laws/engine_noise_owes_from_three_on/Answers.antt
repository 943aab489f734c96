use Rattle.gl_task.proofs.Owed.{three_are_owed}
use Rattle.gl_task.proofs.laws.engine_noise_owes_from_three_on.Goals as goal

pub returns : goal.returns
returns c = three_are_owed
