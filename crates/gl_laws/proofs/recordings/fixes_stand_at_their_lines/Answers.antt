use Rattle.gl_laws.proofs.Fixes.{stand}
use Rattle.gl_laws.proofs.recordings.fixes_stand_at_their_lines.Goals as goal

pub returns : goal.returns
returns c = stand
