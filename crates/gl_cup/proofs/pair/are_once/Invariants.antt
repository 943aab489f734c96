use Rattle.std.proofs.Common.{◌≡◌, length}
use Rattle.gl_cup.specs.Pair.{are_once}
use Rattle.gl_cup.proofs.pair.are_once.Given as goal

-- the rest decides
abbrev pub invariant-fields : goal.invariant-fields
invariant-fields l = are_once l.fields ≡ are_once l.rest

abbrev pub decreases-fields : goal.decreases-fields
decreases-fields l = length l.rest
