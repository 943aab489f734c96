use Rattle.std.proofs.Common.{arith}
use Rattle.std.proofs.lemmas.Grind.{common_steps}
use Rattle.gl_desk.specs.MemDesk.{files_in}
use Rattle.gl_desk.proofs.mem.MemDeskDesk.read_at.Goals as goal

pub unwrap-file-requires : goal.unwrap-file-requires
unfolding files_in
unwrap-file-requires c = grind (arith, common_steps)

pub returns-clause-bytes : goal.returns-clause-bytes
unfolding files_in
returns-clause-bytes c = grind (arith, common_steps)

pub returns-clause-full : goal.returns-clause-full
unfolding files_in
returns-clause-full c = grind (arith, common_steps)
