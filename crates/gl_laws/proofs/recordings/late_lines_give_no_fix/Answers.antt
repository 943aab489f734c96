use Rattle.gl_laws.proofs.Fixes.{late_give_none}
use Rattle.gl_laws.proofs.recordings.late_lines_give_no_fix.Goals as goal

pub returns : goal.returns
returns c = late_give_none
