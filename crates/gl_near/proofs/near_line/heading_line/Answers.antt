use Rattle.gl_near.proofs.Places.{start_none}
use Rattle.gl_near.proofs.near_line.heading_line.Goals as goal

pub returns-in_err-rest : goal.returns-in_err-rest
returns-in_err-rest c = rw c.from_residual.ensures (start_none c.args.text.now c.in_err-rest.ensures)
