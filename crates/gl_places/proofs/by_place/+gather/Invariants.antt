use Rattle.std.proofs.Common.{length}
use Rattle.gl_places.proofs.by_place.+gather.Given as goal

abbrev pub decreases-gather : goal.decreases-gather
decreases-gather l = length l.numbers.now
