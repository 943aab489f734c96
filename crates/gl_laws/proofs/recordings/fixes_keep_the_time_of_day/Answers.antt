use Rattle.gl_laws.proofs.Fixes.{keep_time}
use Rattle.gl_laws.proofs.recordings.fixes_keep_the_time_of_day.Goals as goal

pub returns : goal.returns
returns c = keep_time
