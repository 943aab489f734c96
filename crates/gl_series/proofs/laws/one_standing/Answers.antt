use Rattle.gl_series.proofs.OneStanding.{standing_once}
use Rattle.gl_series.proofs.laws.one_standing.Goals as goal

pub returns : goal.returns
returns c = standing_once
