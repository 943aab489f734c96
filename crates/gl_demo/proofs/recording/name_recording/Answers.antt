use Rattle.std.proofs.lemmas.Grind.{common_steps}
use Rattle.std.proofs.Common.{arith}
use Rattle.gl_demo.specs.Recording.{recording_name}
use Rattle.gl_demo.proofs.recording.name_recording.Goals as goal

pub returns : goal.returns
unfolding recording_name
returns c = let h = c.in_ok-text.ensures.ok in grind (arith, common_steps)
