use Rattle.std.proofs.Common.{◌≡◌, ℕ, ◌+◌, List, ◌∷◌, length}
use Rattle.std.specs.Prelude.{◌↔◌}
use Rattle.gl_box.specs.Cell.{spans_of}
use Rattle.gl_box.proofs.Nodes.{spread}
use Rattle.gl_box.specs.Walk.{AreFrontiers, cuts_of, open_cells}
use Rattle.gl_box.proofs.walk.cuts_to.Given as goal

-- what the open cells were when the walk began, the first one and the others still are
abbrev pub invariant-halves : goal.invariant-halves
invariant-halves l =
    record {
      fronts : (more : List (List (ℕ × ℕ))) → AreFrontiers (open_cells l.fn.opened.items) (spans_of l.cell ∷ more) ↔ AreFrontiers (spans_of l.first ∷ open_cells l.opened.items) (spans_of l.cell ∷ more);
      cuts : (count : ℕ) × (length l.opened.items ≡ l.others + count) × (cuts_of count (open_cells l.fn.opened.items) ≡ spans_of l.first ∷ open_cells l.opened.items);
    }

-- the first cell reaches less and less far
abbrev pub decreases-halves : goal.decreases-halves
decreases-halves l = spread (spans_of l.first)
