use Rattle.gl_laws.proofs.BelowLarge.{as_before}
use Rattle.gl_laws.proofs.triangles.as_before.Goals as goal

pub returns : goal.returns
returns c = as_before
