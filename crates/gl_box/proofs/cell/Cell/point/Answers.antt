use Rattle.std.proofs.Common.{◌∙◌, ◌<◌, length, arith}
use Rattle.gl_box.specs.Cell.{spans_of}
use Rattle.gl_box.proofs.Spans.{length-spans, point-all, point-more}
use Rattle.gl_box.proofs.cell.Cell.point.Goals as goal

pub loop-axis-preserved : goal.loop-axis-preserved
loop-axis-preserved c =
    let cell = c.loop-axis.cell in
    let inside : c.loop-axis.axis < length (spans_of cell) = omega (arith, cell.ten_axes, cell.ten_spans, c.loop-axis.invariant.axes, c.loop-axis-test.true, length-spans cell.axes cell.spans) in
    record {
      axes = c.set.ensures.axes ∙ c.loop-axis.invariant.axes;
      so_far = point-more _ _ c.args.tuple.now.places c.loop-axis.axis c.point.result c.set.ensures.spans inside c.point.ensures.lo c.point.ensures.hi c.loop-axis.invariant.so_far;
    }

pub returns-clause-spans : goal.returns-clause-spans
returns-clause-spans c = point-all c.loop-axis.cell c.args.tuple.now c.loop-axis.axis c.loop-axis.invariant.axes c.loop-axis-test.false c.loop-axis.invariant.so_far
