use Rattle.gl_box.proofs.Spans.{spans-set}
use Rattle.gl_box.proofs.cell.Cell.set.Goals as goal

pub returns-clause-spans : goal.returns-clause-spans
returns-clause-spans c = spans-set _ _ _ _
