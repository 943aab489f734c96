use Rattle.std.proofs.Common.{◌-◌}
use Rattle.gl_free.proofs.search.Search.+middle.Given as goal

abbrev pub decreases-middle : goal.decreases-middle
decreases-middle l = l.span.hi - l.span.lo
