use Rattle.gl_laws.proofs.Fixes.{good_give_one}
use Rattle.gl_laws.proofs.recordings.good_lines_give_one_fix.Goals as goal

pub returns : goal.returns
returns c = good_give_one
