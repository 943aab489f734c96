use Rattle.gl_judge.proofs.Existence.{some_judged}
use Rattle.gl_judge.proofs.laws.some_outcome.Goals as goal

pub returns : goal.returns
returns c = some_judged
