use Rattle.gl_free.specs.Code.Ways.{Lengthens}
use Rattle.gl_free.proofs.WayLemmas.{IsThereBelow}
use Rattle.gl_free.proofs.tree.Tree.scan.Given as goal

abbrev pub invariant-loop-place : goal.invariant-loop-place
invariant-loop-place l =
    Lengthens l.hulls l.self.ways.items l.target (IsThereBelow l.by_place.numbers.items l.fn.span.lo l.place) l.fn.found l.found
