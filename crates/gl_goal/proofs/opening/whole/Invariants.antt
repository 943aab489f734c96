use Rattle.std.proofs.Common.{◌≡◌, ◌-◌, ℕ, ◌<◌, length, get_or, []}
use Rattle.gl_box.specs.Cell.{spans_of}
use Rattle.gl_box.specs.Halves.{span_at}
use Rattle.gl_goal.proofs.opening.whole.Given as goal

-- the axes so far have their whole spans
abbrev pub invariant-loop-axis : goal.invariant-loop-axis
invariant-loop-axis g l =
    let lists = (g.G.Goal.rule l.goal).axes in
    record {
      axes : l.cell.axes ≡ length lists;
      so_far : (k : ℕ) → k < l.axis → span_at (spans_of l.cell) k ≡ (0, length (get_or lists k []) - 1);
    }
