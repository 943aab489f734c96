use Rattle.std.proofs.Common.{◌-◌}
use Rattle.gl_free.proofs.flank.Flank.+put.Given as goal

abbrev pub decreases-put : goal.decreases-put
decreases-put l = l.inner.span.hi - l.inner.span.lo
