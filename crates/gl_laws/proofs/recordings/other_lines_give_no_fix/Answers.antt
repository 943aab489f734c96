use Rattle.gl_laws.proofs.Fixes.{others_give_none}
use Rattle.gl_laws.proofs.recordings.other_lines_give_no_fix.Goals as goal

pub returns : goal.returns
returns c = others_give_none
