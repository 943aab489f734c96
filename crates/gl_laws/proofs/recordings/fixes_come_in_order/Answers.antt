use Rattle.gl_laws.proofs.Fixes.{in_order}
use Rattle.gl_laws.proofs.recordings.fixes_come_in_order.Goals as goal

pub returns : goal.returns
returns c = in_order
