use Rattle.std.proofs.Common.{◌≡◌, length}
use Rattle.std.specs.Cmp.Lexicographic.{pointwise}
use Rattle.gl_draft.specs.Draft.{has_entrant}
use Rattle.gl_draft.proofs.comparison.has_entrants.Given as goal

-- those that are left decide
abbrev pub invariant-entrants : goal.invariant-entrants
invariant-entrants l = pointwise has_entrant l.entrants l.made ≡ pointwise has_entrant l.left l.right

abbrev pub decreases-entrants : goal.decreases-entrants
decreases-entrants l = length l.left
