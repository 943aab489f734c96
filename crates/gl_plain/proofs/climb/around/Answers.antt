use Rattle.std.proofs.Common.{◌∙◌, ap, ℕ, ◌<◌, ◌-◌, length, slice_set, arith}
use Rattle.gl_box.specs.Cell.{spans_of}
use Rattle.gl_box.proofs.Held.{length-covers}
use Rattle.gl_box.proofs.Spans.{length-spans_of}
use Rattle.gl_goal.specs.Goal.{whole_cell}
use Rattle.gl_goal.proofs.Order.{length-whole, whole_covers_point}
use Rattle.gl_plain.proofs.Places.{covers-set_whole, covers_along}
use Rattle.gl_plain.proofs.climb.around.Goals as goal
use Rattle.gl_plain.proofs.climb.around.Goals.{then-free-axis-eq1, else-free-axis-eq1}

pub loop-axis-init : goal.loop-axis-init
loop-axis-init g c =
    let axes = (g.G.Goal.rule c.args.goal.now).axes in
    covers_along axes _ _ c.point-cell.ensures.spans (whole_covers_point axes _ c.requires)

pub set-requires : goal.set-requires
set-requires g c =
    let axes = (g.G.Goal.rule c.args.goal.now).axes in
    omega (
      arith,
      length-covers (whole_cell axes) (spans_of c.loop-axis.cell) c.loop-axis.invariant,
      length-whole axes,
      length-spans_of c.loop-axis.cell,
      c.axes-axis-end.ensures,
      c.loop-axis-test.true,
    )

pub loop-axis-preserved : goal.loop-axis-preserved
loop-axis-preserved g c =
    let axes = (g.G.Goal.rule c.args.goal.now).axes in
    elim c.if-free-axis-eq1.branch [
      | then-free-axis-eq1 w ↦
          let inside : c.loop-axis.axis < length axes = omega (arith, c.axes-axis-end.ensures, c.loop-axis-test.true) in
          let set = covers-set_whole axes (spans_of c.loop-axis.cell) c.loop-axis.axis c.loop-axis.invariant inside in
          rw w.cell-is (covers_along axes _ _ (w.set.ensures.spans ∙ ap (λ (n : ℕ). slice_set (spans_of c.loop-axis.cell) c.loop-axis.axis (0, n - 1)) w.len.ensures) set)
      | else-free-axis-eq1 w ↦ rw w.cell-is c.loop-axis.invariant
    ]
