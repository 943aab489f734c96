use Rattle.gl_near.proofs.Lines.{least_read}
use Rattle.gl_near.proofs.line.least_at.Goals as goal

pub returns : goal.returns
returns c = least_read c.args.text.now c.in_ok-behind.field-0.now c.total_at.result c.in_ok-behind.ensures c.total_at.ensures
