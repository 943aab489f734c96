use Rattle.gl_day_claims.proofs.OneAnswer.{one_right}
use Rattle.gl_day_claims.proofs.laws.one_answer.Goals as goal

pub returns : goal.returns
returns c = one_right
