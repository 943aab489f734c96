use Rattle.gl_desk.proofs.Outcomes.{settled_err, settled_ok}
use Rattle.gl_desk.proofs.host.HostDeskDesk.append.Goals as goal

pub returns-clause-whole : goal.returns-clause-whole
returns-clause-whole g c = rw c.settle.ensures.made (settled_ok _ _ _ _ _ c.settle.ensures.settled c.settle.ensures.failed c.append_file-written.ensures.whole)

pub returns-clause-prefix : goal.returns-clause-prefix
returns-clause-prefix g c = rw c.settle.ensures.made (settled_err _ _ _ _ _ c.settle.ensures.settled c.append_file-written.ensures.prefix)
