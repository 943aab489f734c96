use Rattle.gl_near.proofs.Places.{measured_none}
use Rattle.gl_near.proofs.near_line.pair_line.Goals as goal

pub returns-in_err-first : goal.returns-in_err-first
returns-in_err-first c = rw c.from_residual.ensures (measured_none c.args.text.now c.in_err-first.ensures)
