use Rattle.std.proofs.Common.{ℕ, List, ◌∷◌, ◌++◌}
use Rattle.std.specs.Prelude.{◌↔◌}
use Rattle.gl_box.specs.Cell.{spans_of}
use Rattle.gl_box.proofs.Nodes.{spread}
use Rattle.gl_box.specs.Walk.{AreFrontiers, open_cells}
use Rattle.gl_box.specs.Way.{open_of, open_on}
use Rattle.gl_box.proofs.way.OpenCells.go_down.Given as goal

-- what the open cells were when the walk began, the first one and the others still are
abbrev pub invariant-halves : goal.invariant-halves
invariant-halves l = (more : List (List (ℕ × ℕ))) → AreFrontiers (open_of l.fn.self) (spans_of l.cell ∷ more)
    ↔ AreFrontiers (spans_of l.self.first ∷ (open_on (spans_of l.self.first) l.self.way.items ++ open_cells l.self.others.items)) (spans_of l.cell ∷ more)

-- the first cell reaches less and less far
abbrev pub decreases-halves : goal.decreases-halves
decreases-halves l = spread (spans_of l.self.first)
