use Rattle.gl_laws.proofs.Wrong.{first_decides}
use Rattle.gl_laws.proofs.airspace.first_line_decides.Goals as goal

pub returns : goal.returns
returns c = first_decides
