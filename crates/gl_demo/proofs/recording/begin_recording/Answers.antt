use Rattle.std.proofs.Common.{arith}
use Rattle.std.proofs.lemmas.Grind.{common_steps}
use Rattle.gl_demo.specs.Recording.{recording_head}
use Rattle.gl_demo.proofs.recording.begin_recording.Goals as goal

pub returns : goal.returns
unfolding recording_head
returns c = grind (arith, common_steps)
