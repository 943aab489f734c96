use Rattle.gl_desk.proofs.GivenLemmas.{holds_files, no_output}
use Rattle.gl_desk.proofs.mem.MemDesk.short.Goals as goal

pub returns-clause-files : goal.returns-clause-files
returns-clause-files c = holds_files c.args.files.items c.in_ok-store.field-0 c.requires.differ c.in_ok-store.ensures

pub returns-clause-outputs : goal.returns-clause-outputs
returns-clause-outputs c = no_output c.args.files.items c.in_ok-store.field-0 c.in_ok-store.ensures
