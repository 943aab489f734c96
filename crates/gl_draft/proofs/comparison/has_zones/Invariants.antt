use Rattle.std.proofs.Common.{◌≡◌, length}
use Rattle.std.specs.Cmp.Lexicographic.{pointwise}
use Rattle.gl_draft.specs.Draft.{has_zone}
use Rattle.gl_draft.proofs.comparison.has_zones.Given as goal

-- those that are left decide
abbrev pub invariant-zones : goal.invariant-zones
invariant-zones l = pointwise has_zone l.zones l.made ≡ pointwise has_zone l.left l.right

abbrev pub decreases-zones : goal.decreases-zones
decreases-zones l = length l.left
