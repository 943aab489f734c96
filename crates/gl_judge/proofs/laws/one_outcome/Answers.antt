use Rattle.gl_judge.proofs.OneOutcome.{one_judged}
use Rattle.gl_judge.proofs.laws.one_outcome.Goals as goal

pub returns : goal.returns
returns c = one_judged
