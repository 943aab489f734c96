use Rattle.std.proofs.Common.{◌++◌, length, List, Option, ℤ}
use Rattle.gl_look.specs.Crossings.{AreCrossedBehind}
use Rattle.gl_look.proofs.crossing.crossed_behind.Given as goal

-- whatever holds of the rest holds of all behind what was found so far
abbrev pub invariant-fixes : goal.invariant-fixes
invariant-fixes l = (more : List (Option ℤ)) → AreCrossedBehind l.line l.before l.rest more → AreCrossedBehind l.line l.first l.fixes (l.crossed.items ++ more)

abbrev pub decreases-fixes : goal.decreases-fixes
decreases-fixes l = length l.rest
