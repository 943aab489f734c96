use Rattle.std.proofs.Common.{◌-◌}
use Rattle.gl_free.proofs.tree.Tree.+search.Given as goal

abbrev pub decreases-search : goal.decreases-search
decreases-search l = l.span.hi - l.span.lo
