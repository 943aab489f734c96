use Rattle.std.proofs.Common.{arith}
use Rattle.std.proofs.lemmas.Grind.{common_steps}
use Rattle.gl_desk.specs.MemDesk.{files_in}
use Rattle.gl_desk.proofs.mem.MemDesk.file.Goals as goal

pub returns-in_err-file : goal.returns-in_err-file
unfolding files_in
returns-in_err-file c = grind (arith, common_steps)

pub returns : goal.returns
unfolding files_in
returns c = grind (arith, common_steps)
