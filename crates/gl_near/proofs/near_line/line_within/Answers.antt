use Rattle.gl_near.proofs.Places.{within_none}
use Rattle.gl_near.proofs.near_line.line_within.Goals as goal

pub returns-in_err-rest : goal.returns-in_err-rest
returns-in_err-rest c = rw c.from_residual.ensures (within_none c.args.text.now c.in_default.ensures c.in_err-rest.ensures)
