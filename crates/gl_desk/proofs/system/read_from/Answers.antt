use Rattle.gl_desk.proofs.SystemFiles.{read_at_place}
use Rattle.gl_desk.proofs.system.read_from.Goals as goal

pub returns-clause-bytes : goal.returns-clause-bytes
returns-clause-bytes g c = read_at_place _ _ _ _ _ _ _ _ _ c.in_ok-seek.ensures.place c.seek.ensures.bytes c.read.ensures.within c.read.ensures.bytes
