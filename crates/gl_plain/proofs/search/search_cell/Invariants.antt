use Rattle.std.specs.Prelude.{map}
use Rattle.gl_box.specs.Turns.{reason_of}
use Rattle.gl_box.specs.Cell.{spans_of}
use Rattle.gl_goal.specs.Best.{IsNoLess, total_of}
use Rattle.gl_plain.specs.Code.Steps.{GoesOn}
use Rattle.gl_plain.proofs.search.search_cell.Given as goal
use Rattle.gl_box.proofs.Work.{work_of}

abbrev pub invariant-loop-best : goal.invariant-loop-best
invariant-loop-best g l = record {
  on : GoesOn (g.G.Goal.rule l.goal) (spans_of l.fn.cell) l.best l.cells.items (map reason_of l.fn.turns.items) (map reason_of l.turns.items);
  legs : g.G.Goal.are_legs l.goal l.legs;
  grows : IsNoLess (total_of l.fn.best) (total_of l.best);
}

-- the work that the open cells can still make
abbrev pub decreases-loop-best : goal.decreases-loop-best
decreases-loop-best g l = work_of l.cells.items
