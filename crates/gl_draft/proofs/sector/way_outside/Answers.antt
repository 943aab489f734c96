use Rattle.std.proofs.Common.{rules}
use Rattle.gl_draft.specs.Sector.{straight}
use Rattle.gl_draft.proofs.sector.way_outside.Goals as goal

pub returns-in-None-clause-none : goal.returns-in-None-clause-none
returns-in-None-clause-none c = straight c.in_ok-back.back c.in_ok-on.on (search rules) (search rules) (search rules)
